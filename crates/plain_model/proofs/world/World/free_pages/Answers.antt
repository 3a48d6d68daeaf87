use Rattle.std.proofs.Common.{◌≡◌, ℕ, Vec, Global, ap, sym, ◌∙◌, arith}
use Rattle.std.specs.Prelude.{not, filter}
use Rattle.std.specs.List.{range_with_len}
use Rattle.plain_state.specs.Objects.{every_page}
use Rattle.plain_state.specs.Worlds.{free_pages, is_used_page}
use Rattle.plain_model.specs.SlowWorld.{world_of}
use Rattle.plain_model.proofs.SlowWorlds.{number_kept, number_left}
use Rattle.plain_model.proofs.world.World.free_pages.Goals as goal
use Rattle.plain_model.proofs.world.World.free_pages.Goals.{then-not-is_used_page+in_ok-push, else-not-is_used_page}

pub loop-page-preserved : goal.loop-page-preserved
loop-page-preserved c =
    let is_free = λ (page : ℕ). not (is_used_page (world_of c.args.self.now) page) in
    let l = c.loop-page in
    elim c.if-not-is_used_page.branch [
      | then-not-is_used_page+in_ok-push w ↦
          number_kept is_free l.page l.pages.items c.if-not-is_used_page.pages.items (ap not (sym c.is_used_page.ensures ∙ w.if-not-is_used_page.true)) l.invariant
          (ap (λ (v : Vec ℕ Global). v.items) w.pages-is ∙ w.in_ok-push.ensures.items)
      | else-not-is_used_page w ↦
          ap (λ (v : Vec ℕ Global). v.items) w.pages-is ∙ number_left is_free l.page l.pages.items (ap not (sym c.is_used_page.ensures ∙ w.if-not-is_used_page.false)) l.invariant
    ]

pub returns : goal.returns
unfolding free_pages every_page
returns c =
    let whole : c.loop-page.page ≡ 512 = omega (arith, c.loop-page-test.false) in
    c.loop-page.invariant ∙ ap (λ (n : ℕ). filter (λ (page : ℕ). not (is_used_page (world_of c.args.self.now) page)) (range_with_len 0 n)) whole
