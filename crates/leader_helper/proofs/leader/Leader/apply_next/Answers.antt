use Rattle.std.specs.Prelude.{◌≡◌, Bool, true, false}
use Rattle.std.proofs.Common.{refl, subst, sym}
use Rattle.pmem_model.specs.Memory.{word_at}
use Rattle.page_store.specs.Known.{Open}
use Rattle.version_rooms.specs.declared.rooms.Rooms.{Rooms}
use Rattle.version_rooms.specs.Rooms.{RoomsShow}
use Rattle.leader_helper.specs.declared.leader.Leader.{Leader}
use Rattle.leader_helper.specs.declared.stage.Stage.TheVariants as at
use Rattle.leader_helper.specs.Leads.{IsApplying}
use Rattle.leader_helper.specs.Turns.{IsTurn}
use Rattle.leader_helper.proofs.Applies.{apply_end, apply_on}
use Rattle.leader_helper.proofs.Turned.{apply_last_turn, apply_turn}
use Rattle.leader_helper.proofs.leader.Leader.apply_next.Goals as goal

not_clear : (b : Bool) → (b ≡ false → ⊥) → b ≡ true
not_clear true h = refl
not_clear false h = absurd (h refl)

pub returns-then-apply_step-clause-applies : goal.returns-then-apply_step-clause-applies
returns-then-apply_step-clause-applies c = λ v saved pages h.
    let l : Leader = record c.args.self.now { stage = at.Resume } in
    let s = c.apply_step.new.self in
    let g = word_at c.apply_step.new.nvm in
    subst (λ (x : Rooms). IsApplying l x g v saved pages) (sym c.apply_step.ensures.rest)
    (apply_end s.numbers c.requires.stage (c.apply_step.ensures.done c.if-apply_step.true)
    (λ shows objects. subst (λ (x : Rooms). RoomsShow x g v (record { saved = saved; objects = objects; pages = pages }) Open) c.apply_step.ensures.rest (c.apply_step.ensures.shows Open v _ (shows objects))) h)

pub returns-then-apply_step-clause-turn : goal.returns-then-apply_step-clause-turn
returns-then-apply_step-clause-turn c =
    let l : Leader = record c.args.self.now { stage = at.Resume } in
    let r = c.args.rooms.now in
    let s = c.apply_step.new.self in
    subst (λ (x : Rooms). IsTurn c.args.self.now l r x) (sym c.apply_step.ensures.rest)
    (apply_last_turn c.args.self.now r s.numbers c.requires.stage c.apply_step.ensures.left (c.apply_step.ensures.done c.if-apply_step.true) c.apply_step.ensures.running)

pub returns-else-apply_step-clause-applies : goal.returns-else-apply_step-clause-applies
returns-else-apply_step-clause-applies c = λ v saved pages h.
    let l : Leader = record c.args.self.now { stage = at.Apply } in
    let s = c.apply_step.new.self in
    let g = word_at c.apply_step.new.nvm in
    subst (λ (x : Rooms). IsApplying l x g v saved pages) (sym c.apply_step.ensures.rest)
    (apply_on s.numbers c.requires.stage (not_clear _ (λ is. let set = c.apply_step.ensures.last.1 is in let clear = c.if-apply_step.false in cc))
    (λ shows objects. subst (λ (x : Rooms). RoomsShow x g v (record { saved = saved; objects = objects; pages = pages }) Open) c.apply_step.ensures.rest (c.apply_step.ensures.shows Open v _ (shows objects))) h)

pub returns-else-apply_step-clause-turn : goal.returns-else-apply_step-clause-turn
returns-else-apply_step-clause-turn c =
    let l : Leader = record c.args.self.now { stage = at.Apply } in
    let r = c.args.rooms.now in
    let s = c.apply_step.new.self in
    subst (λ (x : Rooms). IsTurn c.args.self.now l r x) (sym c.apply_step.ensures.rest)
    (apply_turn c.args.self.now r s.numbers c.requires.stage c.apply_step.ensures.left c.apply_step.ensures.running)
