use Rattle.std.proofs.Common.{◌≡◌, ◌+◌, ◌*◌, ◌^◌, ◌∙◌, true, false, ap, sym, arith}
use Rattle.first_format.specs.Parts.{first_numbers}
use Rattle.first_format.proofs.Bits.{next_below, next_bit, no_bits, only_bit}
use Rattle.first_format.proofs.formatting.Formatting.base_word.Goals as goal
use Rattle.first_format.proofs.formatting.Formatting.base_word.Goals.{then-is_used, else-is_used}

pub loop-bit-init : goal.loop-bit-init
loop-bit-init c = record { below = omega arith; told = λ image h. no_bits (first_numbers image c.args.self.now.cores) (64 * c.args.k) }

pub loop-bit-preserved : goal.loop-bit-preserved
loop-bit-preserved c =
    let l = c.loop-bit in
    elim c.if-is_used.branch [
      | then-is_used w ↦
          let same : c.if-is_used.word ≡ l.word + 2 ^ l.bit = w.word-is ∙ ap (λ k. l.word + k) (only_bit l.bit (omega arith)) in
          record {
            below = next_below l.bit l.word c.if-is_used.word true l.invariant.below same;
            told = λ image h.
                next_bit (first_numbers image c.args.self.now.cores) (64 * c.args.k) l.bit l.word c.if-is_used.word true
                (sym w.if-is_used.true ∙ c.is_used.ensures image h) (l.invariant.told image h) same;
          }
      | else-is_used w ↦
          let none : l.word + 0 ≡ l.word = omega arith in
          let same : c.if-is_used.word ≡ l.word + 0 = w.word-is ∙ sym none in
          record {
            below = next_below l.bit l.word c.if-is_used.word false l.invariant.below same;
            told = λ image h.
                next_bit (first_numbers image c.args.self.now.cores) (64 * c.args.k) l.bit l.word c.if-is_used.word false
                (sym w.if-is_used.false ∙ c.is_used.ensures image h) (l.invariant.told image h) same;
          }
    ]
