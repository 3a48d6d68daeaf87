use Rattle.std.proofs.Common.{◌≡◌, ◌<◌, ◌≤◌, ℕ}
use Rattle.std.specs.Prelude.{◌==◌, ◌||◌, take}
use Rattle.std.specs.List.{list_any}
use Rattle.sls_base.specs.declared.limits.TheConstants.{PAGES}
use Rattle.mem_space.specs.declared.memory.MemPage.{MemPage}
use Rattle.call_readings.specs.NumberSets.{uses_page}
use Rattle.call_readings.proofs.numbers.NumbersInUse.take_pages.Given as goal

abbrev pub invariant-loop-page : goal.invariant-loop-page
invariant-loop-page l =
    (l.self.objects ≡ l.fn.self.objects)
    × ((number : ℕ) → number < PAGES → uses_page l.self number
    ≡ (uses_page l.fn.self number || list_any (λ (page : MemPage). page.page == number) (take l.page-index l.pages)))
    × ((number : ℕ) → PAGES ≤ number → uses_page l.self number ≡ uses_page l.fn.self number)
