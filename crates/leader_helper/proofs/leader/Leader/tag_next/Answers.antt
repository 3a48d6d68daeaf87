use Rattle.std.proofs.Common.{subst, sym}
use Rattle.pmem_model.specs.Memory.{word_at}
use Rattle.page_store.specs.Known.{Fenced}
use Rattle.version_rooms.specs.declared.rooms.Rooms.{Rooms}
use Rattle.version_rooms.specs.Rooms.{RoomsShow}
use Rattle.leader_helper.specs.declared.leader.Leader.{Leader}
use Rattle.leader_helper.specs.declared.stage.Stage.TheVariants as at
use Rattle.leader_helper.specs.Leads.{IsWriting}
use Rattle.leader_helper.specs.Turns.{IsTurn}
use Rattle.leader_helper.proofs.Turned.{fence_tags_turn}
use Rattle.leader_helper.proofs.Writing.{tags_fenced}
use Rattle.leader_helper.proofs.leader.Leader.tag_next.Goals as goal

pub returns-in-None-clause-writes : goal.returns-in-None-clause-writes
returns-in-None-clause-writes c = λ v cont h.
    let l : Leader = record c.args.self.now { stage = at.Commit } in
    let s = c.fence_objects.new.self in
    let g = word_at c.fence_objects.new.nvm in
    subst (λ (x : Rooms). IsWriting l x g v cont) (sym c.fence_objects.ensures.rest)
    (tags_fenced s.roots c.args.first c.requires.stage c.in-None.ensures c.fence_objects.ensures.passed
    (λ shows. subst (λ (x : Rooms). RoomsShow x g v cont Fenced) c.fence_objects.ensures.rest (c.fence_objects.ensures.shows Fenced v cont shows)) h)

pub returns-in-None-clause-turn : goal.returns-in-None-clause-turn
returns-in-None-clause-turn c =
    let l : Leader = record c.args.self.now { stage = at.Commit } in
    let r = c.args.rooms.now in
    let s = c.fence_objects.new.self in
    subst (λ (x : Rooms). IsTurn c.args.self.now l r x) (sym c.fence_objects.ensures.rest)
    (fence_tags_turn c.args.self.now r s.roots (word_at c.args.nvm.now) c.requires.led.version c.requires.led.contents c.args.first c.requires.stage c.in-None.ensures c.requires.led.writing)
