use Rattle.std.proofs.Common.{◌≡◌, ℕ, ◌+◌, ◌*◌, ◌^◌, ◌<◌, length, slice_index}
use Rattle.sls_kernel.specs.Words.{byte_of}
use Rattle.sls_kernel.proofs.program.page_words.Given as goal

abbrev pub invariant-loop-i : goal.invariant-loop-i
invariant-loop-i l = record {
  count : length l.words.items ≡ l.i;
  bytes : (j : ℕ) → j < l.i → (k : ℕ) → k < 8 → byte_of (slice_index l.words.items j) k ≡ slice_index l.content (8 * j + k);
  range : (j : ℕ) → slice_index l.words.items j < 2 ^ 64;
}
