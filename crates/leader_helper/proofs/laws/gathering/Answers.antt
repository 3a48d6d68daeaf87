use Rattle.std.specs.Prelude.{◌≡◌}
use Rattle.std.proofs.Common.{subst, sym}
use Rattle.page_store.specs.Known.{Open}
use Rattle.version_rooms.specs.declared.rooms.Rooms.{Rooms}
use Rattle.version_rooms.specs.Rooms.{RoomsShow}
use Rattle.leader_helper.specs.Leads.{IsWriting}
use Rattle.leader_helper.specs.Turns.{turns_left}
use Rattle.leader_helper.proofs.Gathers.{fault_left, fault_unflushed, pages_gathered}
use Rattle.leader_helper.proofs.laws.gathering.Goals as goal

pub returns-clause-fault : goal.returns-clause-fault
returns-clause-fault c = λ l r s f g v cont page core h e rest here others shows.
    subst (λ (x : Rooms). IsWriting l x g v cont) (sym rest)
    (pages_gathered s.pages e (subst (λ (x : Rooms). RoomsShow x g v cont Open) rest shows) h)

pub returns-clause-left : goal.returns-clause-left
returns-clause-left c = λ l r s page core e rest here others.
    subst (λ (x : Rooms). turns_left l x ≡ turns_left l r) (sym rest)
    (fault_left l r s.pages page core e here others)

pub returns-clause-unflushed : goal.returns-clause-unflushed
returns-clause-unflushed c = fault_unflushed
