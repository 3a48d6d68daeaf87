use Rattle.std.proofs.Common.{◌≡◌, true, take}
use Rattle.std.specs.Prelude.{All}
use Rattle.call_readings.specs.Content.{is_page_home}
use Rattle.tick_tests.proofs.pages.are_home.Given as goal

abbrev pub invariant-loop-page : goal.invariant-loop-page
invariant-loop-page l = All (λ page. is_page_home l.nvm page ≡ true) (take l.page-index l.pages)
