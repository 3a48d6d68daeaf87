-- What passes a test among the numbers of a range.
use Rattle.std.specs.Prelude.{◌≡◌, ℕ, zero, suc, ◌+◌, ◌<◌, Bool, true, false, List, [], ◌∷◌, length, filter, find, slice_get, Some, None}
use Rattle.std.specs.List.{range_with_len}
use Rattle.std.proofs.Common.{refl, sym, ap, ◌∙◌, arith}

-- the first that passes, and that none does

pub first_in_range : (p : ℕ → Bool) (a n k : ℕ) → k < n → p (a + k) ≡ true → ((j : ℕ) → j < k → p (a + j) ≡ false)
    → find p (range_with_len a n) ≡ Some (a + k)
first_in_range p a zero k l e h = absurd (omega arith)
first_in_range p a (suc n) zero l e h = (let same : a + 0 ≡ a = omega arith in rw same (rw (sym (ap p same) ∙ e) refl))
first_in_range p a (suc n) (suc k) l e h =
    let here : p a ≡ false = (let same : a + 0 ≡ a = omega arith in sym (ap p same) ∙ h 0 (omega arith)) in
    let on : a + 1 + k ≡ a + suc k = omega arith in
    rw here (first_in_range p (a + 1) n k (omega arith) (ap p on ∙ e) (λ j l. let next : a + 1 + j ≡ a + suc j = omega arith in ap p next ∙ h (suc j) (omega arith)) ∙ ap (λ x. Some x) on)

pub none_in_range : (p : ℕ → Bool) (a n : ℕ) → ((j : ℕ) → j < n → p (a + j) ≡ false) → find p (range_with_len a n) ≡ None
none_in_range p a zero h = refl
none_in_range p a (suc n) h =
    let here : p a ≡ false = (let same : a + 0 ≡ a = omega arith in sym (ap p same) ∙ h 0 (omega arith)) in
    rw here (none_in_range p (a + 1) n (λ j l. let next : a + 1 + j ≡ a + suc j = omega arith in ap p next ∙ h (suc j) (omega arith)))

-- how many pass, in two parts

one_more : (p : ℕ → Bool) (x : ℕ) (xs : List ℕ) (b : Bool) → p x ≡ b → length (filter p (x ∷ xs)) ≡ length (filter p (x ∷ [])) + length (filter p xs)
one_more p x xs true e = rw e (omega arith)
one_more p x xs false e = rw e (omega arith)

pub count_in_parts : (p : ℕ → Bool) (a m n : ℕ)
    → length (filter p (range_with_len a (m + n))) ≡ length (filter p (range_with_len a m)) + length (filter p (range_with_len (a + m) n))
count_in_parts p a zero n =
    let same : a + 0 ≡ a = omega arith in
    let none : 0 + n ≡ n = omega arith in
    rw (same, none) (omega arith)
count_in_parts p a (suc m) n =
    let rest = count_in_parts p (a + 1) m n in
    let place : a + 1 + m ≡ a + suc m = omega arith in
    let all = one_more p a (range_with_len (a + 1) (m + n)) (p a) refl in
    let some = one_more p a (range_with_len (a + 1) m) (p a) refl in
    let sum : suc m + n ≡ suc (m + n) = omega arith in
    let moved = ap (λ k. length (filter p (range_with_len k n))) place in
    rw sum (omega (arith, all, rest, some, moved))

-- the first of those that pass

first_of : {X : Type 0} (p : X → Bool) (x : X) (xs : List X) (b : Bool) → p x ≡ b → slice_get (filter p xs) 0 ≡ find p xs
    → slice_get (filter p (x ∷ xs)) 0 ≡ find p (x ∷ xs)
first_of p x xs true e h = rw e refl
first_of p x xs false e h = rw e h

pub first_kept : {X : Type 0} (p : X → Bool) (xs : List X) → slice_get (filter p xs) 0 ≡ find p xs
first_kept p [] = refl
first_kept p (x ∷ xs) = first_of p x xs (p x) refl (first_kept p xs)

-- tests that say the same keep the same

same_kept : {X : Type 0} (p q : X → Bool) (x : X) (xs : List X) → p x ≡ q x → filter p xs ≡ filter q xs → filter p (x ∷ xs) ≡ filter q (x ∷ xs)
same_kept p q x xs e h = rw e (rw h refl)

pub kept_alike : {X : Type 0} (p q : X → Bool) (xs : List X) → ((x : X) → p x ≡ q x) → filter p xs ≡ filter q xs
kept_alike p q [] h = refl
kept_alike p q (x ∷ xs) h = same_kept p q x xs (h x) (kept_alike p q xs h)
