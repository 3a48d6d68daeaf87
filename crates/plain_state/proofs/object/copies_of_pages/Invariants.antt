use Rattle.std.proofs.Common.{◌≡◌, map, take}
use Rattle.plain_state.specs.Slow.{page_of}
use Rattle.plain_state.proofs.object.copies_of_pages.Given as goal

abbrev pub invariant-loop-page : goal.invariant-loop-page
invariant-loop-page l = map page_of l.copies.items ≡ map page_of (take l.page-index l.pages)
