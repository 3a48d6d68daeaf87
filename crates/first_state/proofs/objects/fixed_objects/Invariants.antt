use Rattle.std.proofs.Common.{◌≡◌, ℕ, ◌+◌, ◌<◌, true, List, ◌∷◌, map, replicate, None}
use Rattle.std.specs.List.{range_with_len}
use Rattle.plain_model.specs.Objects as plain
use Rattle.plain_model.specs.Initial.{root_group}
use Rattle.kobj_table.specs.declared.slot.Slot.{Slot}
use Rattle.kobj_table.specs.Objects.{slot_at}
use Rattle.first_state.specs.Filled.{IsFilled, IsFreeFrom, AreMarked}
use Rattle.first_state.proofs.objects.fixed_objects.Given as goal

abbrev pub invariant-loop-channel : goal.invariant-loop-channel
invariant-loop-channel l = record {
  filled : (content : ℕ → ℕ → ℕ) → IsFilled content l.objects (root_group l.programs ∷ plain.Scheduler ∷ map plain.OutputRing (range_with_len 0 l.channel));
  marked : (parts : List (List ℕ)) → AreMarked parts l.objects;
  free : IsFreeFrom l.objects (2 + l.channel);
  scheduler : slot_at l.objects 1 ≡ Slot.Scheduler (record { cores = l.fn.cores; running = replicate 8 None });
  outputs : (channel : ℕ) → channel < l.channel → slot_at l.objects (2 + channel) ≡ Slot.Ring (record { channel = channel; fresh = true; count = 0; page = channel });
}
