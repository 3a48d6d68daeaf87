-- Lists of the slow form.
use Rattle.std.specs.Prelude.{◌≡◌, ℕ, ◌<◌, ◌≤◌, ◌==◌, ◌||◌, List, [], ◌∷◌, map, replicate, slice_index}
use Rattle.std.specs.List.{list_any}
use Rattle.std.proofs.Common.{refl, ap, arith, ◌∙◌, ⊎_elim}
use Rattle.std.proofs.lemmas.Bool.{cases_lt}
use Rattle.std.proofs.lemmas.List.{get_or-replicate, get_or_past, length-replicate}
use mathlib.Core.Path.{fun_ext}
use Rattle.plain_state.specs.declared.page.Page.{Page as SlowPage}
use Rattle.plain_state.specs.Objects.{Page, new_page}
use Rattle.plain_state.specs.Slow.{page_of}

pub zero_at : (n i : ℕ) → slice_index (replicate n 0) i ≡ 0
zero_at n i =
    ⊎_elim (λ (inside : i < n). get_or-replicate n i 0 0 inside)
    (λ (past : n ≤ i). get_or_past (replicate n 0) i 0 (let e = length-replicate {A = ℕ} n 0 in omega arith))
    (cases_lt i n)

abbrev pub page_with_bytes : ℕ → (ℕ → ℕ) → Page
page_with_bytes number byte = record { number = number; byte = byte }

pub page_of_zeros : (number n : ℕ) (bytes : List ℕ) → bytes ≡ replicate n 0 → page_with_bytes number (slice_index bytes) ≡ new_page number
page_of_zeros number n bytes e = ap (page_with_bytes number) (ap slice_index e ∙ fun_ext (zero_at n))

pub any_number : (n : ℕ) (pages : List SlowPage) →
    list_any (λ (page : SlowPage). page.number == n) pages ≡ list_any (λ (number : ℕ). number == n) (map (λ (page : Page). page.number) (map page_of pages))
any_number n [] = refl
any_number n (p ∷ ps) = ap (λ b. (p.number == n) || b) (any_number n ps)
