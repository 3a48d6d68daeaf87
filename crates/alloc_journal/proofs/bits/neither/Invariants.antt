use Rattle.std.proofs.Common.{◌≡◌, ◌<◌, ℕ, not, ◌||◌, length, slice_index}
use Rattle.alloc_journal.specs.Sets.{bit_of}
use Rattle.alloc_journal.proofs.bits.neither.Given as goal

abbrev pub invariant-loop-word : goal.invariant-loop-word
invariant-loop-word l =
    (length l.bits ≡ 10) × ((k n : ℕ) → k < l.word → bit_of (slice_index l.bits k) n ≡ not
    (bit_of (slice_index l.a k) n || bit_of (slice_index l.b k) n))
