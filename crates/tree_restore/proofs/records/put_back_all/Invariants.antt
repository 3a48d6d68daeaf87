use Rattle.pmem_model.specs.Memory.{word_at}
use Rattle.durable_state.specs.Parts.{Parts}
use Rattle.tree_restore.specs.Whole.{AreEmptyFrom, CanBeRead, HaveRecords}
use Rattle.tree_restore.proofs.records.put_back_all.Given as goal

abbrev pub invariant-loop-id : goal.invariant-loop-id
invariant-loop-id l = record {
  empty : AreEmptyFrom l.objects l.id;
  records : (saved : Parts) → CanBeRead (λ i. (word_at l.nvm i).cached) l.numbers.work l.version saved
      → HaveRecords l.objects l.id saved.objects;
}
