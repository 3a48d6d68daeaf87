use Rattle.std.proofs.Common.{rules, tests}
use Rattle.std.proofs.lemmas.Iterator.{cases_from_any, YieldsList-from_slice}
use Rattle.plain_model.specs.Initial.{IsEntered}
use Rattle.plain_model.proofs.SlowImages.{any_decides}
use Rattle.plain_model.proofs.image.has_entry.Goals as goal

pub returns : goal.returns
returns c =
    let p = c.args.program.now in
    let xs = p.regions.items in
    any_decides (IsEntered p) xs _ (cases_from_any _ _ _ (IsEntered p) (λ x. IsEntered p x → ⊥) c.any.ensures.ran (YieldsList-from_slice xs (cc)) (λ x q k. search (rules, tests)) (λ x q k. search (rules, tests)))
