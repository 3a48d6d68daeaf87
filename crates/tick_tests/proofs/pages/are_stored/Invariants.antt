use Rattle.std.proofs.Common.{take}
use Rattle.std.specs.Prelude.{All}
use Rattle.kernel_calls.specs.Needed.{IsFreshPage}
use Rattle.tick_tests.proofs.pages.are_stored.Given as goal

abbrev pub invariant-loop-page : goal.invariant-loop-page
invariant-loop-page l = All (λ page. IsFreshPage l.objects page → ⊥) (take l.page-index l.pages)
