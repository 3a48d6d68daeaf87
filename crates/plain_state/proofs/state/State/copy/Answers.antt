use Rattle.std.proofs.Common.{◌∙◌, ap, drop, map}
use Rattle.plain_state.specs.Slow.{slot_of, state_of}
use Rattle.plain_state.proofs.SlowStates.{state_same}
use Rattle.plain_state.proofs.state.State.copy.Goals as goal

pub returns : goal.returns
unfolding state_of
returns c =
    let s = c.args.self.now in
    state_same c.in_ok-copies_of_objects.field-0.items s.objects.items c.in_ok-from_slice.field-0.items s.queue.items c.in_ok-from_slice-2.field-0.items s.cores.items
    c.in_ok-copies_of_outputs.field-0.items s.out.items c.in_ok-copies_of_inputs.field-0.items s.inputs.items c.args.first_input
    (c.in_ok-copies_of_objects.ensures ∙ ap (map slot_of) c.as_slice.ensures.value)
    (c.in_ok-from_slice.ensures.items ∙ c.as_slice-2.ensures.value)
    (c.in_ok-from_slice-2.ensures.items ∙ c.as_slice-3.ensures.value)
    (c.in_ok-copies_of_outputs.ensures ∙ c.as_slice-4.ensures.value)
    (c.in_ok-copies_of_inputs.ensures ∙ ap (drop c.args.first_input) c.as_slice-5.ensures.value)
