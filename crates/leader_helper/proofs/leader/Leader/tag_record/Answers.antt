use Rattle.std.specs.Prelude.{◌+◌}
use Rattle.std.proofs.Common.{subst, sym}
use Rattle.pmem_model.specs.Memory.{word_at}
use Rattle.page_store.specs.Known.{Fenced}
use Rattle.version_rooms.specs.declared.rooms.Rooms.{Rooms}
use Rattle.version_rooms.specs.Rooms.{RoomsShow}
use Rattle.leader_helper.specs.declared.leader.Leader.{Leader}
use Rattle.leader_helper.specs.declared.stage.Stage.TheVariants as at
use Rattle.leader_helper.specs.Leads.{IsWriting}
use Rattle.leader_helper.specs.Turns.{IsTurn}
use Rattle.leader_helper.proofs.Turned.{flush_tag_turn, store_tag_turn}
use Rattle.leader_helper.proofs.Writing.{tag_flushed, tag_last, tag_more, tag_stored}
use Rattle.leader_helper.proofs.leader.Leader.tag_record.Goals as goal

pub returns-then-tag_step-clause-writes : goal.returns-then-tag_step-clause-writes
returns-then-tag_step-clause-writes c = λ v cont h.
    let l : Leader = record c.args.self.now { stage = at.Tags (c.args.id + 1) } in
    let s = c.tag_step.new.self in
    let g = word_at c.tag_step.new.nvm in
    let did = tag_last s.roots c.args.first c.args.id c.tag_step.result c.requires.stage c.requires.next c.requires.led.writing c.tag_step.ensures.step c.if-tag_step.true in
    subst (λ (x : Rooms). IsWriting l x g v cont) (sym c.tag_step.ensures.rest)
    (tag_flushed s.roots c.args.first c.args.id c.requires.stage c.requires.next did.1 c.tag_step.ensures.others
    (λ shows. subst (λ (x : Rooms). RoomsShow x g v cont Fenced) c.tag_step.ensures.rest (c.tag_step.ensures.shows Fenced v cont shows)) h)

pub returns-then-tag_step-clause-turn : goal.returns-then-tag_step-clause-turn
returns-then-tag_step-clause-turn c =
    let l : Leader = record c.args.self.now { stage = at.Tags (c.args.id + 1) } in
    let r = c.args.rooms.now in
    let s = c.tag_step.new.self in
    let did = tag_last s.roots c.args.first c.args.id c.tag_step.result c.requires.stage c.requires.next c.requires.led.writing c.tag_step.ensures.step c.if-tag_step.true in
    subst (λ (x : Rooms). IsTurn c.args.self.now l r x) (sym c.tag_step.ensures.rest)
    (flush_tag_turn c.args.self.now r s.roots c.args.first (c.args.id + 1) c.args.id c.requires.stage c.requires.next did.0 did.1 c.tag_step.ensures.others)

pub returns-else-tag_step-clause-writes : goal.returns-else-tag_step-clause-writes
returns-else-tag_step-clause-writes c = λ v cont h.
    let l : Leader = record c.args.self.now { stage = at.Tags c.args.id } in
    let s = c.tag_step.new.self in
    let g = word_at c.tag_step.new.nvm in
    let did = tag_more s.roots c.args.first c.args.id c.tag_step.result c.requires.stage c.requires.next c.requires.led.writing c.tag_step.ensures.step c.if-tag_step.false in
    subst (λ (x : Rooms). IsWriting l x g v cont) (sym c.tag_step.ensures.rest)
    (tag_stored s.roots c.args.first c.args.id c.requires.stage c.requires.next did.1 c.tag_step.ensures.others
    (λ shows. subst (λ (x : Rooms). RoomsShow x g v cont Fenced) c.tag_step.ensures.rest (c.tag_step.ensures.shows Fenced v cont shows)) h)

pub returns-else-tag_step-clause-turn : goal.returns-else-tag_step-clause-turn
returns-else-tag_step-clause-turn c =
    let l : Leader = record c.args.self.now { stage = at.Tags c.args.id } in
    let r = c.args.rooms.now in
    let s = c.tag_step.new.self in
    let did = tag_more s.roots c.args.first c.args.id c.tag_step.result c.requires.stage c.requires.next c.requires.led.writing c.tag_step.ensures.step c.if-tag_step.false in
    subst (λ (x : Rooms). IsTurn c.args.self.now l r x) (sym c.tag_step.ensures.rest)
    (store_tag_turn c.args.self.now r s.roots c.args.first c.args.id c.args.id c.requires.stage c.requires.next did.0 did.1 c.tag_step.ensures.others)
