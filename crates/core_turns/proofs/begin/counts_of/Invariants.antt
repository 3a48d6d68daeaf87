-- The rings of the channels that were passed are counted.
use Rattle.std.proofs.Common.{◌≡◌, ◌+◌, ◌<◌, ℕ, slice_index, length}
use Rattle.sls_base.specs.declared.fixed.TheConstants.{FIRST_OUTPUT_RING}
use Rattle.sls_base.specs.declared.limits.TheConstants.{OUTPUT_CHANNELS as CHANNELS}
use Rattle.sls_base.specs.declared.thread.Ring.{Ring}
use Rattle.kobj_table.specs.declared.slot.Slot.{Slot}
use Rattle.kobj_table.specs.Objects.{slot_at}
use Rattle.core_turns.proofs.begin.counts_of.Given as goal

abbrev pub invariant-loop-channel : goal.invariant-loop-channel
invariant-loop-channel l = record {
  size : length l.counts ≡ CHANNELS;
  counts : (k : ℕ) (ring : Ring) → k < l.channel → slot_at l.objects (FIRST_OUTPUT_RING + k) ≡ Slot.Ring ring
      → slice_index l.counts k ≡ ring.count;
}
