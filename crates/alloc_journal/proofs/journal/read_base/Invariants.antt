use Rattle.std.proofs.Common.{◌≡◌, ◌+◌, ◌<◌, ℕ, length, slice_index}
use Rattle.pmem_model.specs.Memory.{word_at}
use Rattle.pmem_layout.specs.declared.places.TheConstants.{OBJECT_BASE_AT}
use Rattle.alloc_journal.proofs.journal.read_base.Given as goal

abbrev pub invariant-loop-word : goal.invariant-loop-word
invariant-loop-word l =
    (length l.base ≡ 10) × ((k : ℕ) → k < l.word → slice_index l.base k ≡ (word_at l.nvm (OBJECT_BASE_AT + k)).cached)
