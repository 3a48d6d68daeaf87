-- Numbers that are taken one after another.
use Rattle.std.specs.Prelude.{◌≡◌, ℕ, suc, ◌+◌, ◌==◌, ◌&&◌, ◌||◌, nat_lt, Bool, true, false, List, [], ◌∷◌, map}
use Rattle.std.specs.List.{list_any, range_with_len}
use Rattle.std.proofs.Common.{refl, sym, ap, ◌∙◌, arith, inl, inr}
use Rattle.std.proofs.lemmas.Bool.{cases_eq, ne_eqb}
use Rattle.std.proofs.lemmas.Bool.Decides.{nat_tests}
use Rattle.std.proofs.lemmas.List.Folds.{list_any-append}
use Rattle.mem_space.specs.declared.memory.MemPage.{MemPage}
use Rattle.plain_model.specs.Objects.{Page}
use Rattle.plain_state.proofs.SlowMemory.{range_more}
use Rattle.kobj_table.specs.Slots.{page_of}
use Rattle.call_readings.proofs.Reached.{or_none}

-- the numbers below one more
pub one_below : (i other : ℕ) (there : Bool) (now next : Bool) → now ≡ (nat_lt other i && there) → next ≡ (now || ((other == i) && there))
    → next ≡ (nat_lt other (i + 1) && there)
one_below i other true now next was is = is ∙ ap (λ b. b || ((other == i) && true)) was ∙ grind (arith, nat_tests)
one_below i other false now next was is = is ∙ ap (λ b. b || ((other == i) && false)) was ∙ grind (arith, nat_tests)

-- a test of one more number
pub one_further : (p : ℕ → Bool) (i : ℕ) (now next : Bool) → now ≡ list_any p (range_with_len 0 i) → next ≡ (now || p i)
    → next ≡ list_any p (range_with_len 0 (i + 1))
one_further p i now next was is =
    let place : 0 + i ≡ i = omega arith in
    let sum : i + 1 ≡ suc i = omega arith in
    is ∙ ap (λ b. b || p i) was
    ∙ sym (ap (λ (n : ℕ). list_any p (range_with_len 0 n)) sum ∙ ap (list_any p) (range_more 0 i)
    ∙ list_any-append p (range_with_len 0 i) ((0 + i) ∷ []) ∙ ap (λ (n : ℕ). list_any p (range_with_len 0 i) || (p n || false)) place
    ∙ ap (λ b. list_any p (range_with_len 0 i) || b) (or_none (p i)))

-- the pages of a memory object by their numbers
pub pages_alike : (content : ℕ → ℕ → ℕ) (page : ℕ) (pages : List MemPage)
    → list_any (λ (p : MemPage). p.page == page) pages ≡ list_any (λ (number : ℕ). number == page) (map (λ (p : Page). p.number) (map (page_of content) pages))
pages_alike content page [] = refl
pages_alike content page (p ∷ pages) = rw (pages_alike content page pages) refl

pub and_true : (b : Bool) → b ≡ (b && true)
and_true true = refl
and_true false = refl

-- where two numbers are one, it is the same to ask for either
pub at_one : (f : ℕ → Bool) (a b : ℕ) → ((a == b) && f b) ≡ ((a == b) && f a)
at_one f a b = elim (cases_eq a b) [
  | inl e ↦ ap (λ (n : ℕ). (a == b) && f n) (sym e)
  | inr n ↦ (let no : (a == b) ≡ false = ne_eqb a b n in rw no refl)
]
