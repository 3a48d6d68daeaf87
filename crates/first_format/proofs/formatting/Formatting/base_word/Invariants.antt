use Rattle.std.proofs.Common.{◌≡◌, ◌*◌, ◌^◌, ◌<◌}
use Rattle.sls_base.specs.declared.image.Image.{Image}
use Rattle.first_format.specs.Parts.{first_numbers}
use Rattle.first_format.specs.Formatted.{bits_word}
use Rattle.first_format.specs.Shows.{IsBegun}
use Rattle.first_format.proofs.formatting.Formatting.base_word.Given as goal

abbrev pub invariant-loop-bit : goal.invariant-loop-bit
invariant-loop-bit l = record {
  below : l.word < 2 ^ l.bit;
  told : (image : Image) → IsBegun l.self image → l.word ≡ bits_word (first_numbers image l.self.cores) (64 * l.k) l.bit;
}
