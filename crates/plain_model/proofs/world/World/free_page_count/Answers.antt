use Rattle.std.proofs.Common.{ℕ, refl, rules, tests}
use Rattle.std.specs.Prelude.{not}
use Rattle.std.proofs.lemmas.Iterator.{YieldsList-from_range}
use Rattle.std.proofs.lemmas.Iterator.Consumers.{YieldsList-from_filter, count_from_yields_List}
use Rattle.plain_state.specs.Objects.{every_page}
use Rattle.plain_state.specs.Worlds.{free_pages, is_used_page}
use Rattle.plain_model.specs.SlowWorld.{world_of}
use Rattle.plain_model.proofs.world.World.free_page_count.Goals as goal

pub returns : goal.returns
unfolding free_pages every_page world_of
returns c =
    count_from_yields_List _ c.count.result c.count.ensures.ran
    (YieldsList-from_filter _ (λ (page : ℕ). not (is_used_page (world_of c.args.self.now) page)) (YieldsList-from_range 0 512 512 (cc) refl) c.filter.ensures.closure (λ x b q k. search (rules, tests)))
