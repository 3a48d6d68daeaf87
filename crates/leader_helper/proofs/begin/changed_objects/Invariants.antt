use Rattle.std.proofs.Common.{◌≡◌, ◌<◌, ℕ, false, length, slice_index_or}
use Rattle.std.specs.Prelude.{Option}
use Rattle.pmem_model.specs.Memory.{word_at}
use Rattle.object_records.specs.Records.{record_at}
use Rattle.durable_state.specs.Parts.{Parts}
use Rattle.leader_helper.specs.Begins.{IsFound, MayBegin}
use Rattle.leader_helper.proofs.begin.changed_objects.Given as goal

abbrev pub invariant-loop-id : goal.invariant-loop-id
invariant-loop-id l = record {
  whole : length l.changed ≡ 128;
  found : (v : ℕ) (saved : Parts) (pages : ℕ → Option (ℕ → ℕ)) → MayBegin l.rooms (word_at l.nvm) v saved pages → (id : ℕ) → id < l.id
      → IsFound (slice_index_or l.changed id false) (record_at l.objects id) (saved.objects id);
}
