use Rattle.std.specs.Prelude.{◌≡◌, ◌+◌, Bool}
use Rattle.std.proofs.Common.{ap, refl, subst, sym}
use Rattle.pmem_model.specs.Memory.{word_at}
use Rattle.page_store.specs.Known.{Fenced}
use Rattle.version_rooms.specs.declared.rooms.Rooms.{Rooms}
use Rattle.version_rooms.specs.Rooms.{RoomsShow}
use Rattle.leader_helper.specs.declared.stage.Stage.TheVariants as at
use Rattle.leader_helper.specs.Leads.{IsWriting}
use Rattle.page_store.specs.Stages.{state_of}
use Rattle.version_rooms.specs.Rooms.{Settles}
use Rattle.leader_helper.specs.Leads.{Applying}
use Rattle.leader_helper.specs.Turns.{turns_left}
use Rattle.leader_helper.proofs.Commits.{are_whole, commit_last_turn, commit_on, commit_turn, is_ready, whole}
use Rattle.leader_helper.proofs.Writing.{at_stage}
use Rattle.leader_helper.proofs.leader.Leader.commit_next.Goals as goal

pub returns-then-commit_step-clause-writes : goal.returns-then-commit_step-clause-writes
returns-then-commit_step-clause-writes c = λ v cont h next n.
    let w = at_stage at.Commit c.requires.stage h in
    let settles = subst (λ (b : Bool). Settles b c.commit_step.new.self (word_at c.commit_step.new.nvm) v cont next Fenced) c.if-commit_step.true
    (c.commit_step.ensures.settles v cont next (is_ready c.requires.stage h n) w.shows) in
    Applying refl settles.0 settles.1

pub returns-then-commit_step-clause-left : goal.returns-then-commit_step-clause-left
returns-then-commit_step-clause-left c =
    let r = c.args.rooms.now in
    let led = c.requires.led in
    let w = at_stage at.Commit c.requires.stage led.writing in
    let ready = is_ready c.requires.stage led.writing (are_whole r led.contents) in
    commit_last_turn c.args.self.now r c.commit_step.new.self (word_at c.args.nvm.now) led.version led.contents c.requires.stage
    ((c.commit_step.ensures.last led.version led.contents (whole r led.contents) ready w.shows).0 c.if-commit_step.true)
    (c.commit_step.ensures.numbers c.if-commit_step.true) led.writing

pub returns-then-commit_step-clause-committed : goal.returns-then-commit_step-clause-committed
returns-then-commit_step-clause-committed c = λ is.
    let r = c.args.rooms.now in
    let led = c.requires.led in
    let w = at_stage at.Commit c.requires.stage led.writing in
    let ready = is_ready c.requires.stage led.writing (are_whole r led.contents) in
    c.commit_step.ensures.stages led.version led.contents (whole r led.contents) ready w.shows c.if-commit_step.true

pub returns-then-commit_step-clause-running : goal.returns-then-commit_step-clause-running
returns-then-commit_step-clause-running c = (c.commit_step.ensures.numbers c.if-commit_step.true).running

pub returns-else-commit_step-clause-writes : goal.returns-else-commit_step-clause-writes
returns-else-commit_step-clause-writes c = λ v cont h.
    let r = c.args.rooms.now in
    let s = c.commit_step.new.self in
    let g = word_at c.commit_step.new.nvm in
    let w = at_stage at.Commit c.requires.stage h in
    let step = c.commit_step.ensures.step c.if-commit_step.false in
    let shows = subst (λ (b : Bool). Settles b s g v cont (whole r cont) Fenced) c.if-commit_step.false
    (c.commit_step.ensures.settles v cont (whole r cont) (is_ready c.requires.stage h (are_whole r cont)) w.shows) in
    subst (λ (x : Rooms). IsWriting c.args.self.now x g v cont) (sym step)
    (commit_on _ c.requires.stage (subst (λ (x : Rooms). RoomsShow x g v cont Fenced) step shows) h)

pub returns-else-commit_step-clause-left : goal.returns-else-commit_step-clause-left
returns-else-commit_step-clause-left c =
    let l = c.args.self.now in
    let r = c.args.rooms.now in
    let led = c.requires.led in
    let w = at_stage at.Commit c.requires.stage led.writing in
    let ready = is_ready c.requires.stage led.writing (are_whole r led.contents) in
    let step = c.commit_step.ensures.step c.if-commit_step.false in
    subst (λ (x : Rooms). turns_left l r ≡ turns_left l x + 1) (sym step)
    (commit_turn l r c.requires.stage (λ is.
    let set = (c.commit_step.ensures.last led.version led.contents (whole r led.contents) ready w.shows).1 is in
    let clear = c.if-commit_step.false in cc))

pub returns-else-commit_step-clause-led : goal.returns-else-commit_step-clause-led
returns-else-commit_step-clause-led c = λ other page lt.
    ap (λ (x : Rooms). state_of x.pages page) (c.commit_step.ensures.step c.if-commit_step.false)

pub returns-else-commit_step-clause-running : goal.returns-else-commit_step-clause-running
returns-else-commit_step-clause-running c = ap (λ (x : Rooms). x.numbers.running) (c.commit_step.ensures.step c.if-commit_step.false)
