use Rattle.std.proofs.Common.{refl, ◌∙◌, ◌<◌, sym, ap, subst, []}
use Rattle.std.specs.Prelude.{ℕ, Bool, List, length, slice_index_or}
use Rattle.sls_base.specs.declared.fixed.TheConstants.{SCHEDULER}
use Rattle.sls_base.specs.declared.thread.Thread.{Thread as ThreadRecord}
use Rattle.plain_state.specs.States.{State}
use Rattle.plain_state.specs.Worlds.{World}
use Rattle.plain_state.specs.Ticks.{chosen, tick, tick_reply, must_store}
use Rattle.link_lists.specs.Lists.{list_at}
use Rattle.kobj_table.specs.declared.objects.Objects.{Objects}
use Rattle.kobj_table.specs.declared.slot.Slot.{Slot}
use Rattle.kobj_table.specs.Slots.{cores_of}
use Rattle.kobj_table.specs.Objects.{slot_at}
use Rattle.object_records.specs.Untold.{KeepsUntold}
use Rattle.call_readings.specs.declared.devices.Devices.{Devices}
use Rattle.kernel_calls.specs.declared.calls.Calls.{Calls}
use Rattle.kernel_calls.specs.Kernel.{devices_of}
use Rattle.kernel_calls.specs.Instructions.{IsNow, StoresPages}
use Rattle.kernel_calls.specs.Needed.{MayRun}
use Rattle.kernel_calls.proofs.Begun.{may_run_taken, thread_taken, caller_taken, tick_state, tick_stores, tick_replies}
use Rattle.kernel_calls.proofs.Sound.{its_world, is_held_over, inputs_left, holds_after, holds_idle, replies_idle}
use Rattle.kernel_calls.proofs.Found.{finds_taken}
use Rattle.kernel_calls.proofs.Prepared.{prepared_may_run}
use Rattle.kernel_calls.proofs.StoredPages.{none_stored}
use Rattle.kernel_calls.proofs.Untold.{all_kept, same_slot, slots_before}
use Rattle.kernel_calls.proofs.Unchanged.{list_unchanged, slot_unchanged}
use Rattle.kernel_calls.proofs.calls.Calls.tick.Goals as goal

pub take_next-requires-clause-held : goal.take_next-requires-clause-held
take_next-requires-clause-held c = (is_held_over c.args.self.now c.args.accepted.now c.args.nvm.now c.requires.held.rest c.requires.held.world c.requires.held.holds).held

pub returns-in_default-clause-holds : goal.returns-in_default-clause-holds
returns-in_default-clause-holds c w rest h =
    holds_idle c.args.self.now (record c.args.self.now { runtime = c.take_next.new.self }) c.args.accepted.now c.args.nvm.now rest w c.args.core h (c.in_default.ensures.none rest) c.worlds_are_sound.ensures.kept c.requires.core
    c.in_default.ensures.idle c.take_next.ensures.numbers refl

pub returns-in_default-clause-reply : goal.returns-in_default-clause-reply
returns-in_default-clause-reply c w rest h =
    replies_idle c.args.self.now (record c.args.self.now { runtime = c.take_next.new.self }) c.args.accepted.now c.args.nvm.now rest w c.args.core h (c.in_default.ensures.none rest)

pub returns-in_default-clause-words : goal.returns-in_default-clause-words
returns-in_default-clause-words c w rest h = none_stored (must_store w c.args.core) c.args.nvm.now

pub run_instruction-done-requires-clause-caller : goal.run_instruction-done-requires-clause-caller
run_instruction-done-requires-clause-caller c =
    let rest = c.requires.held.rest in
    let stands = c.in-Some.ensures.caller in
    caller_taken c.take_next.new.self.objects c.in-Some.next.0 c.thread_or_zeros-thread.result stands.0 rest (c.thread_or_zeros-thread.ensures rest) stands.1

pub run_instruction-done-requires-clause-may : goal.run_instruction-done-requires-clause-may
run_instruction-done-requires-clause-may c =
    let k = c.args.self.now in
    let t = c.take_next.new.self in
    let o = k.runtime.objects in
    let is = c.requires.held in
    let id = c.in-Some.next.0 in
    let takes = c.in-Some.ensures.some in
    let alone = c.lists_alone.ensures.state in
    let thread = c.thread_or_zeros-thread.result in
    let thread_is = thread_taken o t.objects c.args.core id c.in-Some.next.1 takes is.holds.scheduler alone is.rest thread (c.thread_or_zeros-thread.ensures is.rest) in
    let before = prepared_may_run c.pages_are_there.ensures.instruction c.pages_are_there.ensures.put c.pages_are_there.ensures.get k c.args.accepted.now c.args.nvm.now is.rest is.world c.args.core _ is.holds
    (c.requires.prepared is.world is.rest is.holds) (takes.chosen_is is.rest) in
    subst (λ (d : Devices). MayRun t d c.first-input.result.now c.args.nvm.now id thread) (sym c.devices-devices.ensures)
    (subst (λ (bytes : List ℕ). MayRun t (devices_of c.args.accepted.now k.inputs) bytes c.args.nvm.now id thread) (sym c.first-input.ensures.bytes)
    (may_run_taken c.lists_alone.ensures.object alone k.runtime t _ _ c.args.nvm.now c.args.core id c.in-Some.next.1 thread takes c.take_next.ensures.numbers c.take_next.ensures.held
    (subst (λ (x : ThreadRecord). MayRun k.runtime (devices_of c.args.accepted.now k.inputs) (slice_index_or k.inputs 0 []) c.args.nvm.now id x) (sym thread_is) before)))

-- What it finds, of a world that is the kernel's.

pub returns-clause-holds : goal.returns-clause-holds
returns-clause-holds c w rest h =
    let k = c.args.self.now in
    let t = c.take_next.new.self in
    let n : Calls = record { runtime = c.run_instruction-done.new.self; inputs = c.take_first_if.new.self } in
    let accepted = c.args.accepted.now in
    let core = c.args.core in
    let id = c.in-Some.next.0 in
    let slice = c.in-Some.next.1 in
    let takes = c.in-Some.ensures.some in
    let alone = c.lists_alone.ensures.state in
    let finds = finds_taken c.lists_alone.ensures.object alone k t accepted c.args.nvm.now core id slice takes c.take_next.ensures.numbers rest w h c.devices-devices.result c.first-input.result.now
    c.devices-devices.ensures c.first-input.ensures.bytes in
    let run = c.run_instruction-done.ensures.is_now w rest finds in
    let state =
    tick_state k.runtime.objects t.objects core id slice takes h.scheduler alone rest c.thread_or_zeros-thread.result (c.thread_or_zeros-thread.ensures rest) c.effect_depends_on_little.ensures w
    ∙ ap (λ (v : World). (tick v core).now) (its_world k accepted c.args.nvm.now rest w h) in
    let is = subst (λ (s : State). IsNow n.runtime c.run_instruction-done.new.nvm run.0 w s) state run.1 in
    let left = inputs_left n.runtime.objects t.objects rest run.0 core _ _ c.run_instruction-done.result.takes k.inputs n.inputs run.1.state (c.run_instruction-done.ensures.takes w rest finds) h.inputs c.take_first_if.ensures in (
      run.0,
      holds_after c.worlds_are_sound.ensures.kept k n accepted c.args.nvm.now c.run_instruction-done.new.nvm rest run.0 w core h c.requires.core is left c.run_instruction-done.ensures.scheduler
          c.run_instruction-done.ensures.strays,
    )

pub returns-clause-reply : goal.returns-clause-reply
returns-clause-reply c w rest h =
    let k = c.args.self.now in
    let t = c.take_next.new.self in
    let accepted = c.args.accepted.now in
    let core = c.args.core in
    let id = c.in-Some.next.0 in
    let slice = c.in-Some.next.1 in
    let takes = c.in-Some.ensures.some in
    let alone = c.lists_alone.ensures.state in
    let finds = finds_taken c.lists_alone.ensures.object alone k t accepted c.args.nvm.now core id slice takes c.take_next.ensures.numbers rest w h c.devices-devices.result c.first-input.result.now
    c.devices-devices.ensures c.first-input.ensures.bytes in
    c.reply_of.ensures
    ∙ tick_replies k.runtime.objects t.objects core id slice takes h.scheduler alone rest c.thread_or_zeros-thread.result (c.thread_or_zeros-thread.ensures rest) c.effect_depends_on_little.ensures w
    c.run_instruction-done.result.wishes (c.run_instruction-done.ensures.wishes w rest finds)
    ∙ ap (λ (v : World). tick_reply v core) (its_world k accepted c.args.nvm.now rest w h)

pub returns-clause-words : goal.returns-clause-words
returns-clause-words c w rest h =
    let k = c.args.self.now in
    let t = c.take_next.new.self in
    let accepted = c.args.accepted.now in
    let core = c.args.core in
    let id = c.in-Some.next.0 in
    let slice = c.in-Some.next.1 in
    let takes = c.in-Some.ensures.some in
    let alone = c.lists_alone.ensures.state in
    let finds = finds_taken c.lists_alone.ensures.object alone k t accepted c.args.nvm.now core id slice takes c.take_next.ensures.numbers rest w h c.devices-devices.result c.first-input.result.now
    c.devices-devices.ensures c.first-input.ensures.bytes in
    let stores =
    tick_stores k.runtime.objects t.objects core id slice takes h.scheduler alone rest c.thread_or_zeros-thread.result (c.thread_or_zeros-thread.ensures rest) c.effect_depends_on_little.ensures w
    ∙ ap (λ (v : World). must_store v core) (its_world k accepted c.args.nvm.now rest w h) in
    subst (λ (test : ℕ → Bool). StoresPages test c.args.nvm.now c.run_instruction-done.new.nvm) stores (c.run_instruction-done.ensures.words w rest finds)

-- What no plain state tells.

pub returns-in_default-clause-untold : goal.returns-in_default-clause-untold
returns-in_default-clause-untold c =
    let o = c.args.self.now.runtime.objects in
    subst (λ (n : Objects). KeepsUntold o n) (sym c.in_default.ensures.idle) (all_kept o)

pub returns-clause-untold : goal.returns-clause-untold
returns-clause-untold c =
    let o = c.args.self.now.runtime.objects in
    let t = c.take_next.new.self.objects in
    let same = c.in-Some.ensures.some.slots in
    let below = subst (λ (s : Slot). c.args.core < length (cores_of s)) (sym (same_slot o t SCHEDULER same)) c.requires.core in
    slots_before same (c.run_instruction-done.ensures.untold below)

-- What the plain machine's tick doesn't change.

pub returns-in_default-clause-unchanged : goal.returns-in_default-clause-unchanged
returns-in_default-clause-unchanged c w rest i h unchanged =
    let same = c.in_default.ensures.idle in
    (ap (λ (o : Objects). slot_at o i) same, ap (λ (o : Objects). list_at o.links i) same)

pub returns-clause-unchanged : goal.returns-clause-unchanged
returns-clause-unchanged c w rest i h unchanged =
    let k = c.args.self.now in
    let n : Calls = record { runtime = c.run_instruction-done.new.self; inputs = c.take_first_if.new.self } in
    let accepted = c.args.accepted.now in
    let old = c.args.nvm.now in
    let new = c.run_instruction-done.new.nvm in
    let core = c.args.core in
    let is = ap (λ (s : State). chosen s core) h.now ∙ c.in-Some.ensures.some.chosen_is rest in
    let next = returns-clause-holds c w rest h in
    let kept = returns-clause-untold c in (
      slot_unchanged k n accepted old new rest next.0 w core _ is h next.1 kept i unchanged,
      list_unchanged k n accepted old new rest next.0 w core _ is h next.1 kept i unchanged,
    )
