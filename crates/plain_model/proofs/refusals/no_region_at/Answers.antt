use Rattle.std.proofs.Common.{ap, rules, tests, ◌*◌, nat_eq, Bool}
use Rattle.std.specs.Prelude.{not}
use Rattle.std.proofs.lemmas.Iterator.{YieldsList-from_slice}
use Rattle.std.proofs.lemmas.Iterator.Search.{any_from_yields_List}
use Rattle.sls_base.specs.declared.limits.TheConstants.{PAGE_BYTES}
use Rattle.plain_state.specs.declared.objects.Region.{Region}
use Rattle.plain_model.proofs.refusals.no_region_at.Goals as goal

pub returns : goal.returns
returns c =
    let begins : Region → Bool = λ region. nat_eq (PAGE_BYTES * region.base) c.args.base in
    ap not (any_from_yields_List begins _ _ c.any.result c.any.ensures.ran (YieldsList-from_slice c.args.regions.now cc) (λ x b q k. search (rules, tests)))
