use Rattle.std.proofs.Common.{◌≡◌, ℕ}
use Rattle.std.specs.Prelude.{not, filter}
use Rattle.std.specs.List.{range_with_len}
use Rattle.plain_state.specs.Worlds.{is_used_page}
use Rattle.plain_model.specs.SlowWorld.{world_of}
use Rattle.plain_model.proofs.world.World.free_pages.Given as goal

abbrev pub invariant-loop-page : goal.invariant-loop-page
invariant-loop-page l = l.pages.items ≡ filter (λ (page : ℕ). not (is_used_page (world_of l.self) page)) (range_with_len 0 l.page)
