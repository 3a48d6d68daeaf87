use Rattle.std.proofs.Common.{◌≡◌, ◌∙◌, ℕ, List, Option, ap, drop, map, slice_set, arith, ◌++◌, length}
use Rattle.std.specs.Vec.{with_items}
use Rattle.std.proofs.lemmas.List.{with_items_is}
use Rattle.plain_state.specs.declared.effect.ByteStore.{ByteStore}
use Rattle.plain_state.specs.declared.object.Object.{Object as SlowObject}
use Rattle.plain_state.specs.declared.objects.Occupant.{Occupant}
use Rattle.sls_base.specs.declared.thread.Thread.{Thread as ThreadRecord}
use Rattle.plain_state.specs.Objects.{Object, Thread}
use Rattle.plain_state.specs.States.{State, with_object, thread_at}
use Rattle.plain_state.specs.Memory.{with_stores}
use Rattle.plain_state.specs.Slow.{state_of, effect_of, change_of, objects_of, entries_of, inputs_of}
use Rattle.plain_state.specs.SlowChosen.{chosen_of}
use Rattle.plain_state.specs.Ticks.{with_changes, with_output, thread_after, at_back}
use Rattle.plain_state.proofs.SlowTicks.{after_effect, inputs_from}
use Rattle.plain_state.proofs.state.State.after.Goals as goal

pub returns : goal.returns
unfolding state_of effect_of
returns c =
    let s = c.args.self.now in
    let e = c.args.effect in
    let chosen = c.args.chosen in
    let id = chosen.occupant.thread in
    let next = c.in_ok-next.next in
    let goes = c.at_slice_end-goes.result in
    let left = c.saturating_sub-left.result in
    let copied : state_of next ≡ record (state_of s) { inputs = drop c.inputs_from.result (state_of s).inputs } = c.in_ok-next.ensures in
    let objects : objects_of next.objects.items ≡ objects_of s.objects.items = ap (λ (t : State). t.objects) copied in
    let cores : next.cores.items ≡ s.cores.items = ap (λ (t : State). t.cores) copied in
    let out : entries_of next.out.items ≡ entries_of s.out.items = ap (λ (t : State). t.out) copied in
    let inputs : inputs_of next.inputs.items ≡ drop c.inputs_from.result (inputs_of s.inputs.items) = ap (λ (t : State). t.inputs) copied in
    let as_long : length c.change_objects.new.objects ≡ next.objects.len = omega (arith, c.change_objects.ensures.sized, next.sized, next.objects.ok.0) in
    let written : (with_items next.objects c.change_objects.new.objects).items ≡ c.change_objects.new.objects = with_items_is next.objects c.change_objects.new.objects as_long in
    let thread : c.thread_after-thread.result ≡ thread_after c.args.core (thread_at (state_of s) id) goes (effect_of e) = c.thread_after-thread.ensures ∙ ap (λ (t : ThreadRecord). thread_after c.args.core t goes (effect_of e)) c.thread_at.ensures in
    let changed : objects_of c.change_objects.new.objects ≡ with_object (with_changes (with_stores (objects_of s.objects.items) e.stores.items) (map change_of e.changes.items)) id (Thread c.thread_after-thread.result) =
    c.change_objects.ensures.changed
    ∙ ap (λ (o : List (Option SlowObject)). with_object (with_changes (with_stores (objects_of o) c.as_slice.result.now) (map change_of e.changes.items)) id (Thread c.thread_after-thread.result)) c.as_mut_slice.ensures.value
    ∙ ap (λ (o : ℕ → Option Object). with_object (with_changes (with_stores o c.as_slice.result.now) (map change_of e.changes.items)) id (Thread c.thread_after-thread.result)) objects
    ∙ ap (λ (l : List ByteStore). with_object (with_changes (with_stores (objects_of s.objects.items) l) (map change_of e.changes.items)) id (Thread c.thread_after-thread.result)) c.as_slice.ensures.value in
    after_effect (state_of s) c.args.core (chosen_of chosen) (effect_of e) left goes c.thread_after-thread.result
    (objects_of (with_items next.objects c.change_objects.new.objects).items) c.in_ok-next-2.field-0.items (slice_set next.cores.items c.from.result c.on_core.result) (entries_of c.put.new.out.items) (inputs_of next.inputs.items)
    c.saturating_sub-left.ensures c.at_slice_end-goes.ensures thread (ap objects_of written ∙ changed)
    (c.in_ok-next-2.ensures ∙ ap (λ (l : List ℕ). chosen.queue.items ++ l ++ at_back id goes) c.as_slice-2.ensures.value)
    (ap (λ (l : List (Option Occupant)). slice_set l c.from.result c.on_core.result) cores ∙ ap (λ (k : ℕ). slice_set s.cores.items k c.on_core.result) c.from.ensures ∙ ap (slice_set s.cores.items c.args.core) c.on_core.ensures)
    (c.in_ok-put.ensures ∙ ap (λ (f : ℕ → List (List ℕ)). with_output f e.output) out)
    (inputs ∙ inputs_from e.takes c.inputs_from.result (inputs_of s.inputs.items) c.inputs_from.ensures)
