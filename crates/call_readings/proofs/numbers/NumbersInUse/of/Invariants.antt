use Rattle.std.proofs.Common.{◌≡◌, ◌<◌, ◌≤◌, ℕ, false}
use Rattle.std.specs.Prelude.{◌==◌, ◌&&◌, is_some, nat_lt}
use Rattle.std.specs.List.{list_any, range_with_len}
use Rattle.sls_base.specs.declared.limits.TheConstants.{PAGES}
use Rattle.plain_model.specs.Objects.{page_numbers}
use Rattle.kobj_table.specs.Objects.{object_at}
use Rattle.call_readings.specs.NumberSets.{uses_object, uses_page}
use Rattle.call_readings.proofs.numbers.NumbersInUse.of.Given as goal

abbrev pub invariant-loop-id : goal.invariant-loop-id
invariant-loop-id l =
    ((content : ℕ → ℕ → ℕ) (other : ℕ) → uses_object l.numbers other ≡ (nat_lt other l.id && is_some (object_at content l.objects other)))
    × ((content : ℕ → ℕ → ℕ) (page : ℕ) → page < PAGES → uses_page l.numbers page
    ≡ list_any (λ i. list_any (λ number. number == page) (page_numbers (object_at content l.objects i))) (range_with_len 0 l.id))
    × ((page : ℕ) → PAGES ≤ page → uses_page l.numbers page ≡ false)
