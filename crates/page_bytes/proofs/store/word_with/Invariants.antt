use Rattle.std.proofs.Common.{◌≡◌, ℕ, ◌+◌, ◌<◌, ◌≤◌, length, slice_index}
use Rattle.call_readings.specs.Content.{byte_of}
use Rattle.page_bytes.specs.Bytes.{overwritten}
use Rattle.page_bytes.proofs.store.word_with.Given as goal

abbrev pub invariant-loop-k : goal.invariant-loop-k
invariant-loop-k l = record {
  size : length l.merged ≡ 8;
  below : (i : ℕ) → slice_index l.merged i < 256;
  filled : (i : ℕ) → i < l.k → slice_index l.merged i ≡ overwritten (λ other. byte_of l.word i) l.offset l.bytes (l.begin + i);
  rest : (i : ℕ) → l.k ≤ i → slice_index l.merged i ≡ byte_of l.word i;
}
