use Rattle.std.proofs.Common.{◌≡◌, ◌+◌, ◌-◌, ◌∙◌, ap, sym, arith}
use Rattle.std.specs.Prelude.{is_some, nat_lt}
use Rattle.first_format.specs.Parts.{first_numbers}
use Rattle.first_format.proofs.Firsts.{object_used, page_used}
use Rattle.first_format.proofs.formatting.Formatting.is_used.Goals as goal

pub returns-then-number-lt-OBJECTS : goal.returns-then-number-lt-OBJECTS
returns-then-number-lt-OBJECTS c = λ image h.
    let cores = c.args.self.now.cores in
    c.has_object.ensures ∙ (ap is_some (h.records c.args.number) ∙ sym (object_used image cores c.args.number c.if-number-lt-OBJECTS.true))

pub returns-else-number-lt-OBJECTS : goal.returns-else-number-lt-OBJECTS
returns-else-number-lt-OBJECTS c = λ image h.
    let cores = c.args.self.now.cores in
    let page = c.args.number - 128 in
    let is : 128 + page ≡ c.args.number = omega (arith, c.if-number-lt-OBJECTS.false) in
    ap (nat_lt page) c.from.ensures
    ∙ (sym (h.pages page) ∙ (sym (page_used image cores page) ∙ ap (first_numbers image cores) is))
