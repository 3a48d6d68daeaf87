use Rattle.std.proofs.Common.{◌≡◌, ℕ, ◌+◌, ◌<◌, ◌≤◌, length, slice_index}
use Rattle.pmem_model.specs.Memory.{word_at}
use Rattle.sls_kernel.specs.Words.{IsPage, running_words}
use Rattle.sls_kernel.proofs.put.bytes_of.Given as goal

abbrev pub invariant-loop-k : goal.invariant-loop-k
invariant-loop-k l = record {
  size : length l.bytes ≡ 56;
  filled : (byte : ℕ → ℕ) → IsPage (running_words (word_at l.nvm) 4) byte → (j : ℕ) → j < l.k → slice_index l.bytes j ≡ byte (l.at + j);
  zeros : (j : ℕ) → l.k ≤ j → slice_index l.bytes j ≡ 0;
}
