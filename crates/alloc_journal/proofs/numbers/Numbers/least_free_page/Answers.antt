use Rattle.std.proofs.Common.{◌≡◌, ◌+◌, ◌-◌, ◌∙◌, ap, subst, sym, not, true, arith}
use Rattle.sls_base.specs.declared.limits.TheConstants.{OBJECTS}
use Rattle.alloc_journal.specs.Work.{is_used}
use Rattle.alloc_journal.proofs.numbers.Numbers.least_free_page.Goals as goal

pub returns-clause-none : goal.returns-clause-none
returns-clause-none c =
    let inside = c.in_ok-number.ensures.inside in
    let number = c.in_ok-number.number in
    let low = inside.0 in let high = inside.1 in
    let at : OBJECTS + (number - OBJECTS) ≡ number = omega (arith, low) in (
      λ no. cc,
      λ all.
          let used = subst (λ n. is_used c.args.self.now n ≡ true) at
          (all (number - OBJECTS) (omega (arith, low, high))) in
          sym c.in_ok-number.ensures.found ∙ c.free_numbers.ensures number high ∙ ap not used,
    )
