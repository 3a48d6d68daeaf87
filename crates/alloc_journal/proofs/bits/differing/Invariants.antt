use Rattle.std.proofs.Common.{◌≡◌, ◌<◌, ℕ, length, slice_index}
use Rattle.alloc_journal.specs.Sets.{bit_of, differ}
use Rattle.alloc_journal.proofs.bits.differing.Given as goal

abbrev pub invariant-loop-word : goal.invariant-loop-word
invariant-loop-word l =
    (length l.bits ≡ 10) × ((k n : ℕ) → k < l.word → bit_of (slice_index l.bits k) n ≡ differ
    (bit_of (slice_index l.a k) n) (bit_of (slice_index l.b k) n))
