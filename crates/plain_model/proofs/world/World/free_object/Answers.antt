use Rattle.std.proofs.Common.{◌∙◌, ℕ, refl, sym, rules, tests}
use Rattle.std.specs.Prelude.{not}
use Rattle.std.proofs.lemmas.Iterator.{YieldsList-from_range}
use Rattle.std.proofs.lemmas.Iterator.Search.{find_from_yields_List}
use Rattle.plain_state.specs.Objects.{every_object}
use Rattle.plain_state.specs.Worlds.{free_objects, is_used_object}
use Rattle.plain_model.specs.SlowWorld.{world_of}
use Rattle.plain_model.proofs.SlowWorlds.{first_kept, option_same}
use Rattle.plain_model.proofs.world.World.free_object.Goals as goal

pub returns : goal.returns
unfolding free_objects every_object
returns c =
    let is_free = λ (i : ℕ). not (is_used_object (world_of c.args.self.now) i) in
    let found = find_from_yields_List is_free _ _ c.find.result c.find.ensures.ran (YieldsList-from_range 0 128 128 (cc) refl) (λ x b q k. search (rules, tests)) in
    option_same c.find.result ∙ found ∙ sym (first_kept is_free every_object)
