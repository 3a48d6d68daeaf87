use Rattle.std.proofs.Common.{◌≡◌, ℕ, ◌<◌, length, slice_index}
use Rattle.first_format.specs.Parts.{page_word}
use Rattle.first_format.proofs.words.page_words.Given as goal

abbrev pub invariant-loop-j : goal.invariant-loop-j
invariant-loop-j l = record {
  size : length l.words ≡ 512;
  filled : (i : ℕ) → i < l.j → slice_index l.words i ≡ page_word l.image l.page i;
}
