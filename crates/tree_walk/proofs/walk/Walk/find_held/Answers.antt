use Rattle.std.proofs.Common.{◌∙◌, ap, sym, Bool}
use Rattle.std.specs.Prelude.{◌||◌, option_map}
use Rattle.std.specs.List.{list_any}
use Rattle.std.proofs.lemmas.List.{take_all}
use Rattle.plain_model.specs.Sweep.{is_to}
use Rattle.kobj_table.specs.Slots.{capability_of}
use Rattle.tree_walk.specs.Reached.{has}
use Rattle.tree_walk.proofs.Lists.{any_map}
use Rattle.tree_walk.proofs.walk.Walk.find_held.Goals as goal

pub returns-clause-reached : goal.returns-clause-reached
returns-clause-reached c i =
    let slots = c.args.slots.now in
    c.loop-held.invariant.reached i
    ∙ ap (λ (b : Bool). has c.args.self.now.reached i || b)
    (ap (list_any (λ held. is_to i (option_map capability_of held))) (take_all c.loop-held.held-index slots c.loop-held-test.false) ∙ sym (any_map (is_to i) (option_map capability_of) slots))
