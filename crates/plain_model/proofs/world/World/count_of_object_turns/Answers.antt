use Rattle.std.proofs.Common.{◌≡◌, ◌≤◌, subst, sym, ℕ, refl, rules, tests}
use Rattle.std.proofs.lemmas.Iterator.{YieldsList-from_range}
use Rattle.std.proofs.lemmas.Iterator.Consumers.{YieldsList-from_filter, count_from_yields_List}
use Rattle.plain_model.specs.Cost as plain
use Rattle.plain_state.specs.Objects.{every_object}
use Rattle.plain_model.specs.SlowWorld.{world_of}
use Rattle.plain_model.proofs.SlowCosts.{few_objects}
use Rattle.plain_model.proofs.world.World.count_of_object_turns.Goals as goal

pub returns : goal.returns
unfolding every_object world_of
returns c =
    let counted : c.count.result ≡ plain.count_of every_object (plain.object_turns (world_of c.args.self.now)) = count_from_yields_List _ c.count.result c.count.ensures.ran
    (YieldsList-from_filter _ (plain.object_turns (world_of c.args.self.now)) (YieldsList-from_range 0 128 128 (cc) refl) c.filter.ensures.closure (λ x b q k. search (rules, tests, c.requires))) in
    record {
      count = counted;
      few = subst (λ (n : ℕ). n ≤ 128) (sym counted) (few_objects (plain.object_turns (world_of c.args.self.now)));
    }
