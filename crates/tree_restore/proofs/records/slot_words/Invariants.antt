use Rattle.std.proofs.Common.{◌≡◌, ◌+◌, ◌<◌, ℕ, length, slice_index}
use Rattle.pmem_layout.specs.declared.places.TheConstants.{SLOT_WORDS}
use Rattle.pmem_model.specs.Memory.{word_at}
use Rattle.tree_restore.proofs.records.slot_words.Given as goal

abbrev pub invariant-loop-j : goal.invariant-loop-j
invariant-loop-j l = record {
  size : length l.words ≡ SLOT_WORDS;
  read : (k : ℕ) → k < l.j → slice_index l.words k ≡ (word_at l.nvm (l.at + k)).cached;
}
