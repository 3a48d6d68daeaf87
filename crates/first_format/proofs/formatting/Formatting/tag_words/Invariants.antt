use Rattle.std.proofs.Common.{◌≡◌, ℕ, ◌<◌, length, slice_index}
use Rattle.sls_base.specs.declared.image.Image.{Image}
use Rattle.first_format.specs.Parts.{first_parts}
use Rattle.first_format.specs.Formatted as formatted
use Rattle.first_format.specs.Shows.{IsBegun}
use Rattle.first_format.proofs.formatting.Formatting.tag_words.Given as goal

abbrev pub invariant-loop-k : goal.invariant-loop-k
invariant-loop-k l = record {
  size : length l.words ≡ 256;
  filled : (image : Image) → IsBegun l.self image → (i : ℕ) → i < l.k
      → slice_index l.words i ≡ formatted.object_tag (first_parts image l.self.cores).objects i;
}
