use Rattle.std.proofs.Common.{◌∙◌, ap}
use Rattle.std.specs.Prelude.{filter, map}
use Rattle.plain_state.specs.Slow.{state_of, entries_of, inputs_of}
use Rattle.plain_state.specs.Sweep as plain
use Rattle.plain_state.specs.Sweep.{is_reached, kept_on_core}
use Rattle.plain_state.proofs.SlowStates.{state_is}
use Rattle.plain_state.proofs.state.State.swept.Goals as goal

pub returns : goal.returns
unfolding state_of
returns c =
    let s = c.args.self.now in
    state_is _ (plain.swept (state_of s))
    c.in_ok-swept_objects.ensures.objects
    (c.in_ok-kept.ensures (state_of s) c.reached-reached.ensures ∙ ap (filter (is_reached (state_of s))) c.as_slice.ensures.value)
    (c.in_ok-kept_on_cores.ensures (state_of s) c.reached-reached.ensures ∙ ap (map (kept_on_core (state_of s))) c.as_slice-2.ensures.value)
    (ap entries_of (c.in_ok-copies_of_outputs.ensures ∙ c.as_slice-3.ensures.value))
    (ap inputs_of (c.in_ok-copies_of_inputs.ensures ∙ c.as_slice-4.ensures.value))
