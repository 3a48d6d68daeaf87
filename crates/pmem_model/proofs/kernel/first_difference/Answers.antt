use Rattle.std.proofs.Common.{arith, length, ⊎_elim, ◌≡◌, ◌≢◌, ◌+◌, ◌≤◌, ◌<◌, ◌∙◌, true, false, sym}
use Rattle.std.proofs.lemmas.Bool.{cases_Bool, cases_eq, cases_lt}
use Rattle.pmem_model.specs.Parts.{part_of, part_start, is_touched}
use Rattle.pmem_model.proofs.PartLemmas.{part_low, part_high, start_order}
use Rattle.pmem_model.proofs.kernel.first_difference.Goals as goal

pub returns-in-Some-clause-before : goal.returns-in-Some-clause-before
returns-in-Some-clause-before c = λ i le lt.
    let len = length c.args.cached.now in
    let part = c.first-part.result in
    ⊎_elim
    (λ (yes : is_touched len c.loop-rest.rest i ≡ true).
    let order : part ≤ part_of len i = ⊎_elim
    (λ (before : part_of len i < part). absurd (let none = c.first-part.ensures.least (part_of len i) before in cc))
    (λ (from : part ≤ part_of len i). from)
    (cases_lt (part_of len i) part) in
    let first = start_order len part (part_of len i) order in let low = part_low len i in
    c.in-Some.ensures.before i (omega (arith, c.max-first.ensures, c.start.ensures, first, low)) lt)
    (λ (done : is_touched len c.loop-rest.rest i ≡ false). c.loop-rest.invariant i le done)
    (cases_Bool (is_touched len c.loop-rest.rest i))

pub loop-rest-preserved : goal.loop-rest-preserved
loop-rest-preserved c = λ i le out.
    let len = length c.args.cached.now in
    let part = c.first-part.result in
    ⊎_elim
    (λ (here : part_of len i ≡ part).
    let low : part_start len part ≤ i = rw here at (part_low len i) in
    let high : i < part_start len (part + 1) = rw here at (part_high len i) in
    c.in_default.ensures.none i (omega (arith, c.max-first.ensures, c.start.ensures)) (omega (arith, c.start-past.ensures)))
    (λ (other : part_of len i ≢ part). c.loop-rest.invariant i le (sym (c.without-rest.ensures.others (part_of len i) other) ∙ out))
    (cases_eq (part_of len i) part)
