-- Lists of an accepted image.
use Rattle.std.specs.Prelude.{◌≡◌, ℕ, zero, suc, ◌-◌, ◌<◌, ◌≤◌, Bool, true, false, List, [], ◌∷◌, length, take, drop, All, AllPairs, Any}
use Rattle.std.specs.Bool.{MatchBool}
use Rattle.std.specs.List.{HoldsAt, AllWithin}
use Rattle.std.proofs.Common.{refl, subst, get_or, arith, sym, ap, ◌∙◌}
use Rattle.std.proofs.lemmas.Bool.{false≢true}
use Rattle.std.proofs.lemmas.List.{get_or_default, take_all}

-- Pairs, by the first element and the others.

pairs_of_first : {X : Type 0} → (R : X → X → Type 0) (x : X) (xs : List X) → All (R x) xs → AllPairs R xs → AllPairs R (x ∷ xs)
pairs_of_first R x xs first others zero zero d before within = absurd (omega arith)
pairs_of_first R x xs first others zero (suc j) d before within = first j d (omega arith)
pairs_of_first R x xs first others (suc i) zero d before within = absurd (omega arith)
pairs_of_first R x xs first others (suc i) (suc j) d before within = others i j d (omega arith) (omega arith)

-- the elements behind the first, as a pattern takes them
abbrev pub others_of : {X : Type 0} → List X → List X
others_of xs = take (length xs - 1) (drop 1 xs)

first_and_others : {X : Type 0} → (xs : List X) (x : X) → 1 ≤ length xs → x ≡ get_or xs 0 x → x ∷ others_of xs ≡ xs
first_and_others [] x some is = absurd (omega arith)
first_and_others (y ∷ ys) x some is = ap (λ z. z ∷ others_of (y ∷ ys)) is ∙ ap (λ l. y ∷ l) (take_all _ ys (omega arith))

pub all_pairs_of_first : {X : Type 0} → (R : X → X → Type 0) (xs : List X) (x : X) → 1 ≤ length xs → x ≡ get_or xs 0 x → All (R x) (others_of xs) → AllPairs R (others_of xs) → AllPairs R xs
all_pairs_of_first R xs x some is first others =
    subst (AllPairs R) (first_and_others xs x some is) (pairs_of_first R x (others_of xs) first others)

pub first_of_all_pairs : {X : Type 0} → (R : X → X → Type 0) (xs : List X) (x : X) → 1 ≤ length xs → x ≡ get_or xs 0 x → AllPairs R xs → All (R x) (others_of xs)
first_of_all_pairs R xs x some is pairs =
    let here : AllPairs R (x ∷ others_of xs) = subst (AllPairs R) (sym (first_and_others xs x some is)) pairs in
    λ k d within. here 0 (suc k) d (omega arith) (omega arith)

pub others_of_all_pairs : {X : Type 0} → (R : X → X → Type 0) (xs : List X) (x : X) → 1 ≤ length xs → x ≡ get_or xs 0 x → AllPairs R xs → AllPairs R (others_of xs)
others_of_all_pairs R xs x some is pairs =
    let here : AllPairs R (x ∷ others_of xs) = subst (AllPairs R) (sym (first_and_others xs x some is)) pairs in
    λ i j d before within. here (suc i) (suc j) d (omega arith) (omega arith)

-- What `any` answers.

some_of_place : {X : Type 0} → (P : X → Type 0) (xs : List X) (k : ℕ) → k < length xs → HoldsAt P xs k → Any P xs
some_of_place P [] k below holds = absurd (omega arith)
some_of_place P (y ∷ ys) k below holds =
    let x = get_or (y ∷ ys) k y in
    (k, x, below, get_or_default (y ∷ ys) k x y below, holds y)

pub any_decides : {X : Type 0} → (P : X → Type 0) (xs : List X) (r : Bool) → MatchBool r ((k : ℕ) × (k < length xs) × HoldsAt P xs k) (AllWithin (λ x. P x → ⊥) xs 0 (length xs)) → (r ≡ true → Any P xs) × (Any P xs → r ≡ true)
any_decides P xs true h = (λ _. some_of_place P xs h.0 h.1 h.2, λ _. refl)
any_decides P xs false h =
    (λ e. absurd (false≢true e), λ w. absurd (h w.0 w.1 (omega arith) w.2 (subst P (sym w.3) w.4)))
