-- Tests on lists.
use Rattle.std.specs.Prelude.{◌≡◌, ◌⊎◌, ℕ, zero, suc, ◌+◌, ◌<◌, ◌≤◌, Bool, true, false, ◌&&◌, ◌||◌, List, [], ◌∷◌}
use Rattle.std.specs.List.{list_any, range_with_len}
use Rattle.std.proofs.Common.{refl, arith, inl, inr}
use Rattle.std.proofs.lemmas.Bool.{cases_eq}

-- an element that passes, among these
pub data IsIn : ℕ → List ℕ → Type 0 where
  here : {x : ℕ} {xs : List ℕ} → IsIn x (x ∷ xs)
  there : {x y : ℕ} {xs : List ℕ} → IsIn x xs → IsIn x (y ∷ xs)

pub or_left : (a b : Bool) → a ≡ true → (a || b) ≡ true
or_left a b e = rw e refl

pub or_right : (a b : Bool) → b ≡ true → (a || b) ≡ true
or_right true b e = refl
or_right false b e = e

pub and_both : (a b : Bool) → a ≡ true → b ≡ true → (a && b) ≡ true
and_both a b e f = rw (e, f) refl

-- which of two tests it is that holds
pub or_cases : (a b : Bool) → (a || b) ≡ true → (a ≡ true) ⊎ (b ≡ true)
or_cases true b e = inl refl
or_cases false b e = inr e

-- where neither of two tests holds
pub or_false : (a b : Bool) → (a || b) ≡ false → (a ≡ false) × (b ≡ false)
or_false true b e = absurd (cc)
or_false false b e = (refl, e)

pub and_left : (a b : Bool) → (a && b) ≡ true → a ≡ true
and_left true b e = refl
and_left false b e = e

pub and_right : (a b : Bool) → (a && b) ≡ true → b ≡ true
and_right true b e = e
and_right false b e = cc

-- an element that passes makes the test of the list hold
pub any_in : (p : ℕ → Bool) (xs : List ℕ) (x : ℕ) → IsIn x xs → p x ≡ true → list_any p xs ≡ true
any_in p [] x i e = elim i [ ]
any_in p (y ∷ xs) x here e = or_left (p x) (list_any p xs) e
any_in p (y ∷ xs) x (there i) e = or_right (p y) (list_any p xs) (any_in p xs x i e)

-- and where it holds there is one
pub in_any : (p : ℕ → Bool) (xs : List ℕ) → list_any p xs ≡ true → (x : ℕ) × IsIn x xs × (p x ≡ true)
in_any p [] e = absurd (cc)
in_any p (x ∷ xs) e = elim (or_cases (p x) (list_any p xs) e) [
  | inl h ↦ (x, here, h)
  | inr h ↦ let r = in_any p xs h in (r.0, there r.1, r.2)
]

-- two tests that agree on the elements agree on the list
pub any_same : (p q : ℕ → Bool) (xs : List ℕ) → ((x : ℕ) → IsIn x xs → p x ≡ q x) → list_any p xs ≡ list_any q xs
any_same p q [] h = refl
any_same p q (x ∷ xs) h =
    let e = h x here in
    let f = any_same p q xs (λ y i. h y (there i)) in
    rw (e, f) refl

pub in_range : (a n i : ℕ) → a ≤ i → i < a + n → IsIn i (range_with_len a n)
in_range a zero i l h = absurd (omega arith)
in_range a (suc n) i l h = elim (cases_eq i a) [
  | inl e ↦ rw e here
  | inr ne ↦ there (in_range (a + 1) n i (omega arith) (omega arith))
]

pub range_in : (a n i : ℕ) → IsIn i (range_with_len a n) → (a ≤ i) × (i < a + n)
range_in a zero i h = elim h [ ]
range_in a (suc n) i here = (omega arith, omega arith)
range_in a (suc n) i (there h) = let r = range_in (a + 1) n i h in (omega arith, omega arith)
