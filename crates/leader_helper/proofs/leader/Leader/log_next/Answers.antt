use Rattle.std.proofs.Common.{subst, sym}
use Rattle.pmem_model.specs.Memory.{word_at}
use Rattle.page_store.specs.Known.{Fenced}
use Rattle.version_rooms.specs.declared.rooms.Rooms.{Rooms}
use Rattle.version_rooms.specs.Rooms.{RoomsShow}
use Rattle.leader_helper.specs.declared.leader.Leader.{Leader}
use Rattle.leader_helper.specs.declared.stage.Stage.TheVariants as at
use Rattle.leader_helper.specs.Leads.{IsWriting}
use Rattle.leader_helper.specs.Turns.{IsTurn}
use Rattle.leader_helper.proofs.LogSteps.{log_goes_on}
use Rattle.leader_helper.proofs.Turned.{log_last_turn, log_turn}
use Rattle.leader_helper.proofs.Writing.{at_stage, log_stored, log_written}
use Rattle.leader_helper.proofs.leader.Leader.log_next.Goals as goal

pub returns-then-log_step-clause-writes : goal.returns-then-log_step-clause-writes
returns-then-log_step-clause-writes c = λ v cont h.
    let l : Leader = record c.args.self.now { stage = at.Fence } in
    let s = c.log_step.new.self in
    let g = word_at c.log_step.new.nvm in
    subst (λ (x : Rooms). IsWriting l x g v cont) (sym c.log_step.ensures.rest)
    (log_written s.numbers c.requires.stage (log_goes_on c.args.rooms.now c.log_step.new.self.numbers (at_stage at.Log c.requires.stage c.requires.led.writing).log c.log_step.ensures.numbers c.log_step.ensures.logging c.log_step.ensures.committed) (c.log_step.ensures.last.0 c.if-log_step.true) (c.log_step.ensures.entries c.if-log_step.true)
    (λ shows. subst (λ (x : Rooms). RoomsShow x g v cont Fenced) c.log_step.ensures.rest (c.log_step.ensures.shows Fenced v cont shows)) h)

pub returns-then-log_step-clause-turn : goal.returns-then-log_step-clause-turn
returns-then-log_step-clause-turn c =
    let l : Leader = record c.args.self.now { stage = at.Fence } in
    let r = c.args.rooms.now in
    let s = c.log_step.new.self in
    subst (λ (x : Rooms). IsTurn c.args.self.now l r x) (sym c.log_step.ensures.rest)
    (log_last_turn c.args.self.now r s.numbers c.requires.stage (log_goes_on c.args.rooms.now c.log_step.new.self.numbers (at_stage at.Log c.requires.stage c.requires.led.writing).log c.log_step.ensures.numbers c.log_step.ensures.logging c.log_step.ensures.committed) (c.log_step.ensures.last.0 c.if-log_step.true) c.log_step.ensures.numbers.running)

pub returns-else-log_step-clause-writes : goal.returns-else-log_step-clause-writes
returns-else-log_step-clause-writes c = λ v cont h.
    let l : Leader = record c.args.self.now { stage = at.Log } in
    let s = c.log_step.new.self in
    let g = word_at c.log_step.new.nvm in
    subst (λ (x : Rooms). IsWriting l x g v cont) (sym c.log_step.ensures.rest)
    (log_stored s.numbers c.requires.stage (log_goes_on c.args.rooms.now c.log_step.new.self.numbers (at_stage at.Log c.requires.stage c.requires.led.writing).log c.log_step.ensures.numbers c.log_step.ensures.logging c.log_step.ensures.committed) (λ is. let set = c.log_step.ensures.last.1 is in let clear = c.if-log_step.false in cc)
    (λ shows. subst (λ (x : Rooms). RoomsShow x g v cont Fenced) c.log_step.ensures.rest (c.log_step.ensures.shows Fenced v cont shows)) h)

pub returns-else-log_step-clause-turn : goal.returns-else-log_step-clause-turn
returns-else-log_step-clause-turn c =
    let l : Leader = record c.args.self.now { stage = at.Log } in
    let r = c.args.rooms.now in
    let s = c.log_step.new.self in
    subst (λ (x : Rooms). IsTurn c.args.self.now l r x) (sym c.log_step.ensures.rest)
    (log_turn c.args.self.now r s.numbers c.requires.stage (log_goes_on c.args.rooms.now c.log_step.new.self.numbers (at_stage at.Log c.requires.stage c.requires.led.writing).log c.log_step.ensures.numbers c.log_step.ensures.logging c.log_step.ensures.committed) c.log_step.ensures.numbers.running)
