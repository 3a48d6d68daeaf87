use Rattle.std.specs.Prelude.{◌+◌, ℕ, Option, slice_index}
use Rattle.std.proofs.Common.{ap, subst, sym}
use Rattle.pmem_model.specs.Memory.{word_at}
use Rattle.page_store.specs.Known.{Fenced}
use Rattle.version_rooms.specs.declared.rooms.Rooms.{Rooms}
use Rattle.version_rooms.specs.Rooms.{RoomsShow}
use Rattle.leader_helper.specs.declared.leader.Leader.{Leader}
use Rattle.leader_helper.specs.declared.stage.Stage.TheVariants as at
use Rattle.leader_helper.specs.Leads.{IsWriting}
use Rattle.leader_helper.specs.Turns.{IsTurn}
use Rattle.kobj_codec.specs.declared.obj.Obj.{Obj}
use Rattle.object_root.specs.Shows.{IsRecordOf}
use Rattle.leader_helper.proofs.Turned.{store_turn, write_turn}
use Rattle.leader_helper.proofs.Writing.{record_last, record_more, record_stored, record_written}
use Rattle.leader_helper.proofs.leader.Leader.write_record.Goals as goal

pub returns-then-write_step-clause-writes : goal.returns-then-write_step-clause-writes
returns-then-write_step-clause-writes c = λ v cont of h.
    let l : Leader = record c.args.self.now { stage = at.Records (c.args.id + 1) } in
    let s = c.write_step.new.self in
    let g = word_at c.write_step.new.nvm in
    let did = record_last s.roots c.args.first c.args.id c.write_step.result c.requires.stage c.requires.next c.requires.led.writing c.write_step.ensures.step c.if-write_step.true in
    subst (λ (x : Rooms). IsWriting l x g v cont) (sym c.write_step.ensures.rest)
    (record_written s.roots c.args.first c.args.id c.requires.stage c.requires.next did.1 c.write_step.ensures.others
    (λ shows. subst (λ (x : Rooms). RoomsShow x g v cont Fenced) c.write_step.ensures.rest (c.write_step.ensures.shows v cont Fenced (subst (λ (o : Option Obj). IsRecordOf o (slice_index c.words_of-words.result)) (sym (ap (λ (objects : ℕ → Option Obj). objects c.args.id) of)) c.words_of-words.ensures) shows)) h)

pub returns-then-write_step-clause-turn : goal.returns-then-write_step-clause-turn
returns-then-write_step-clause-turn c =
    let l : Leader = record c.args.self.now { stage = at.Records (c.args.id + 1) } in
    let r = c.args.rooms.now in
    let s = c.write_step.new.self in
    let did = record_last s.roots c.args.first c.args.id c.write_step.result c.requires.stage c.requires.next c.requires.led.writing c.write_step.ensures.step c.if-write_step.true in
    subst (λ (x : Rooms). IsTurn c.args.self.now l r x) (sym c.write_step.ensures.rest)
    (write_turn c.args.self.now r s.roots c.args.first (c.args.id + 1) c.args.id c.requires.stage c.requires.next did.0 did.1 c.write_step.ensures.others)

pub returns-else-write_step-clause-writes : goal.returns-else-write_step-clause-writes
returns-else-write_step-clause-writes c = λ v cont of h.
    let l : Leader = record c.args.self.now { stage = at.Records c.args.id } in
    let s = c.write_step.new.self in
    let g = word_at c.write_step.new.nvm in
    let did = record_more s.roots c.args.first c.args.id c.write_step.result c.requires.stage c.requires.next c.requires.led.writing c.write_step.ensures.step c.if-write_step.false in
    subst (λ (x : Rooms). IsWriting l x g v cont) (sym c.write_step.ensures.rest)
    (record_stored s.roots c.args.first c.args.id c.requires.stage c.requires.next did.1 c.write_step.ensures.others
    (λ shows. subst (λ (x : Rooms). RoomsShow x g v cont Fenced) c.write_step.ensures.rest (c.write_step.ensures.shows v cont Fenced (subst (λ (o : Option Obj). IsRecordOf o (slice_index c.words_of-words.result)) (sym (ap (λ (objects : ℕ → Option Obj). objects c.args.id) of)) c.words_of-words.ensures) shows)) h)

pub returns-else-write_step-clause-turn : goal.returns-else-write_step-clause-turn
returns-else-write_step-clause-turn c =
    let l : Leader = record c.args.self.now { stage = at.Records c.args.id } in
    let r = c.args.rooms.now in
    let s = c.write_step.new.self in
    let did = record_more s.roots c.args.first c.args.id c.write_step.result c.requires.stage c.requires.next c.requires.led.writing c.write_step.ensures.step c.if-write_step.false in
    subst (λ (x : Rooms). IsTurn c.args.self.now l r x) (sym c.write_step.ensures.rest)
    (store_turn c.args.self.now r s.roots c.args.first c.args.id c.args.id c.requires.stage c.requires.next did.0 did.1 c.write_step.ensures.others)
