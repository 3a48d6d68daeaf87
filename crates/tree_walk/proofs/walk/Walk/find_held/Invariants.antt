use Rattle.std.proofs.Common.{◌≡◌, ℕ, take}
use Rattle.std.specs.Prelude.{◌||◌, option_map}
use Rattle.std.specs.List.{list_any}
use Rattle.plain_model.specs.Sweep.{is_to}
use Rattle.kobj_table.specs.Slots.{capability_of}
use Rattle.tree_walk.specs.Reached.{has}
use Rattle.tree_walk.specs.Walk.{Continues}
use Rattle.tree_walk.proofs.walk.Walk.find_held.Given as goal

abbrev pub invariant-loop-held : goal.invariant-loop-held
invariant-loop-held l = record {
  reached : (i : ℕ) → has l.self.reached i ≡ (has l.initial.self.reached i || list_any (λ held. is_to i (option_map capability_of held)) (take l.held-index l.slots));
  found : Continues l.initial.self.found.items l.self.found.items;
}
