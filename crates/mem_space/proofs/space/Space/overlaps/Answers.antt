use Rattle.std.proofs.Common.{sym, ◌∙◌}
use Rattle.mem_space.proofs.RegionTests.{one_shares}
use Rattle.mem_space.proofs.space.Space.overlaps.Goals as goal

pub returns-then-shares_pages-clause-pages : goal.returns-then-shares_pages-clause-pages
returns-then-shares_pages-clause-pages c =
    one_shares c.deref-region-items.result.now _ c.loop-region.region-index _ c.args.base c.args.count c.deref-region-items.ensures.0 c.loop-region-test.true (sym c.shares_pages.ensures ∙ c.if-shares_pages.true)
