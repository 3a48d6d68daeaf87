use Rattle.std.proofs.Common.{◌≡◌, ℕ, ◌+◌, ◌<◌, length, slice_index}
use Rattle.sls_base.specs.declared.image.Image.{Image}
use Rattle.first_format.specs.Parts.{first_parts}
use Rattle.first_format.specs.Formatted.{content_word}
use Rattle.first_format.specs.Shows.{IsBegun}
use Rattle.first_format.proofs.formatting.Formatting.head_words.Given as goal

abbrev pub invariant-loop-j : goal.invariant-loop-j
invariant-loop-j l = record {
  size : length l.words ≡ 24;
  filled : (image : Image) → IsBegun l.self image → (i : ℕ) → i < l.j
      → slice_index l.words i ≡ content_word (first_parts image l.self.cores) (2 + i);
}
