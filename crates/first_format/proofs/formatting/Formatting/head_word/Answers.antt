use Rattle.std.proofs.Common.{◌≡◌, ◌+◌, ◌-◌, ◌∙◌, refl, ap, sym, arith, ne_eqb}
use Rattle.first_format.specs.Parts.{first_parts}
use Rattle.first_format.specs.Formatted.{content_word}
use Rattle.first_format.proofs.Places.{at_base, at_fixed}
use Rattle.first_format.proofs.formatting.Formatting.head_word.Goals as goal

pub returns-then-at-eq-CORES_AT : goal.returns-then-at-eq-CORES_AT
returns-then-at-eq-CORES_AT c = λ image h.
    let p = first_parts image c.args.self.now.cores in
    c.from.ensures ∙ (sym (at_fixed p 2 (omega arith)) ∙ ap (content_word p) (sym c.if-at-eq-CORES_AT.true))

pub returns-then-at-lt-OBJECT_BASE_AT : goal.returns-then-at-lt-OBJECT_BASE_AT
returns-then-at-lt-OBJECT_BASE_AT c = λ image h.
    let p = first_parts image c.args.self.now.cores in
    sym (at_fixed p c.args.at c.if-at-lt-OBJECT_BASE_AT.true ∙ rw (ne_eqb c.args.at 2 c.if-at-eq-CORES_AT.false) refl)

pub returns-else-at-lt-OBJECT_BASE_AT : goal.returns-else-at-lt-OBJECT_BASE_AT
returns-else-at-lt-OBJECT_BASE_AT c = λ image h.
    let p = first_parts image c.args.self.now.cores in
    let is : 16 + (c.args.at - 16) ≡ c.args.at = omega arith in
    c.base_word.ensures image h ∙ (sym (at_base p (c.args.at - 16) (omega arith)) ∙ ap (content_word p) is)
