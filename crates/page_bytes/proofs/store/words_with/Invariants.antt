use Rattle.std.proofs.Common.{◌≡◌, ℕ, ◌+◌, ◌*◌, ◌<◌, length, slice_index}
use Rattle.pmem_model.specs.Memory.{word_at}
use Rattle.call_readings.specs.Content.{byte_of}
use Rattle.page_bytes.specs.Bytes.{overwritten, word_of_page}
use Rattle.page_bytes.proofs.store.words_with.Given as goal

abbrev pub invariant-loop-i : goal.invariant-loop-i
invariant-loop-i l = record {
  size : length l.words ≡ 9;
  filled : (m k : ℕ) → m < l.i → k < 8 → byte_of (slice_index l.words m) k
      ≡ overwritten (λ other. byte_of (word_at l.nvm (word_of_page l.page l.first + m)).cached k) l.offset l.bytes (8 * (l.first + m) + k);
}
