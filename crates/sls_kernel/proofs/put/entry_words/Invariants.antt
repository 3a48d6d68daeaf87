use Rattle.std.proofs.Common.{◌≡◌, ℕ, ◌+◌, ◌*◌, ◌<◌, length, slice_index}
use Rattle.sls_kernel.specs.Words.{byte_of}
use Rattle.sls_kernel.proofs.put.entry_words.Given as goal

abbrev pub invariant-loop-i : goal.invariant-loop-i
invariant-loop-i l = record {
  size : length l.words ≡ 8;
  first : slice_index l.words 0 ≡ l.count;
  filled : (m j : ℕ) → m < l.i → j < 8 → byte_of (slice_index l.words (1 + m)) j ≡ slice_index l.bytes (8 * m + j);
}
