use Rattle.std.proofs.Common.{◌∙◌, ◌≡◌, ◌-◌, ◌<◌, refl, sym, subst, length, ℕ}
use Rattle.sls_base.specs.declared.thread.Thread.{Thread as ThreadRecord}
use Rattle.kobj_table.specs.declared.slot.Slot.{Slot}
use Rattle.kobj_table.specs.Slots.{cores_of}
use Rattle.kobj_table.specs.Objects.{state_of}
use Rattle.plain_state.specs.States.{thread_at}
use Rattle.object_records.proofs.Untold.{joined}
use Rattle.kernel_calls.specs.Ticking.{Settles}
use Rattle.kernel_calls.proofs.Settled.{now_settled, scheduler_obeyed}
use Rattle.kernel_calls.proofs.runtime.Runtime.run_instruction.Goals as goal

pub settle-requires-clause-free : goal.settle-requires-clause-free
settle-requires-clause-free c back = c.obey-done.ensures.leaves.free c.saturating_sub-left.result back

pub returns-clause-is_now : goal.returns-clause-is_now
unfolding state_of
returns-clause-is_now c w rest found =
    let k = c.args.self.now in
    let id = c.args.next.0 in
    let m = c.obey-done.new.self in
    let n = c.settle.new.self in
    let thread_is : c.args.thread.now ≡ thread_at (state_of k.objects rest) id = rw c.requires.caller.there refl in
    let left_is : c.saturating_sub-left.result ≡ c.args.next.1 - 1 = c.saturating_sub-left.ensures in
    let settles = subst (λ (t : ThreadRecord). Settles m.objects n.objects c.args.core id (c.args.next.1 - 1) t c.obey-done.result) thread_is
    (subst (λ (left : ℕ). Settles m.objects n.objects c.args.core id left c.args.thread.now c.obey-done.result) left_is c.settle.ensures.settles) in
    let obeys = c.obey-done.ensures.obeys w rest found in (
      obeys.0,
      now_settled k m n rest obeys.0 c.obey-done.new.nvm w _ c.obey-done.result obeys.1 c.args.core id c.args.next.1 c.args.thread.now
          (c.obey-done.ensures.leaves.caller ∙ c.requires.caller.there) settles c.requires.may.over.held.scheduler c.settle.ensures.numbers,
    )

pub returns-clause-wishes : goal.returns-clause-wishes
returns-clause-wishes c w rest found = (c.obey-done.ensures.obeys w rest found).1.caller.wishes

pub returns-clause-takes : goal.returns-clause-takes
returns-clause-takes c w rest found = (c.obey-done.ensures.obeys w rest found).1.caller.takes

pub returns-clause-scheduler : goal.returns-clause-scheduler
returns-clause-scheduler c =
    let held = c.requires.may.over in
    let obeys = c.obey-done.ensures.obeys held.held.world held.held.rest held.found in
    c.settle.ensures.settles.scheduler
    ∙ scheduler_obeyed c.args.self.now c.obey-done.new.self c.settle.new.self held.held.rest obeys.0 c.obey-done.new.nvm held.held.world _ c.obey-done.result obeys.1 held.held.scheduler

pub returns-clause-untold : goal.returns-clause-untold
returns-clause-untold c below =
    let held = c.requires.may.over in
    let obeys = c.obey-done.ensures.obeys held.held.world held.held.rest held.found in
    let left = c.settle.ensures.untold (subst (λ (s : Slot). c.args.core < length (cores_of s)) (sym obeys.1.scheduler) below) in
    record { each = λ i. joined _ _ _ (c.obey-done.ensures.leaves.untold.each i) (left.each i) }
