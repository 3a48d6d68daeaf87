use Rattle.std.proofs.Common.{◌≡◌, ◌∙◌, rules, tests, nat_eq, Bool}
use Rattle.std.proofs.lemmas.Iterator.{YieldsList-from_slice}
use Rattle.std.proofs.lemmas.Iterator.Search.{any_from_yields_List}
use Rattle.plain_state.specs.declared.objects.Region.{Region}
use Rattle.plain_state.specs.Sweep as plain
use Rattle.plain_state.proofs.sweep.leads_to.Goals as goal

pub returns-in-Some-Group : goal.returns-in-Some-Group
returns-in-Some-Group c =
    let any : c.any.result ≡ _ = any_from_yields_List (plain.is_to c.args.id) _ _ c.any.result c.any.ensures.ran (YieldsList-from_slice c.in-Some-Group.slots.items cc) (λ x b q k. search (rules, tests)) in
    any ∙ search rules

pub returns-in-Some-Space : goal.returns-in-Some-Space
returns-in-Some-Space c =
    let leads : Region → Bool = λ region. nat_eq region.memory c.args.id in
    any_from_yields_List leads _ _ c.any-in-Some-Space.result c.any-in-Some-Space.ensures.ran (YieldsList-from_slice c.in-Some-Space.regions.items cc) (λ x b q k. search (rules, tests)) ∙ search rules
