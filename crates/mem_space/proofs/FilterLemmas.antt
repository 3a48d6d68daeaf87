-- Filters of lists, and pairs of elements in two lists that are joined.
use Rattle.std.proofs.Common.{◌≡◌, ℕ, zero, suc, ◌+◌, ◌<◌, ◌≤◌, Bool, true, false, not, List, [], ◌∷◌, ◌++◌, length, get_or, take, drop, filter, refl, sym, ap, ◌∙◌, inl, inr, arith}
use Rattle.std.specs.List.{All, Any, AllPairs, AllWithin, Contains}
use Rattle.std.proofs.lemmas.Bool.{cases_Bool, cases_lt, false≢true}
use Rattle.std.proofs.lemmas.List.{get_or-take, get_or-drop, length-take, length-drop, take-append-drop, append-nil}
use Rattle.std.proofs.lemmas.List.Elements.{All-nil, All-head, All-tail, All-cons, All-append, All-filter, All-weaker, All-contains, All-contains_itself, Contains-append_cases, Contains-append_right, filter_passes, filter-append}
use Rattle.std.proofs.lemmas.List.Filters.{length-filter_both}
use Rattle.std.proofs.lemmas.List.Kept.{AllPairs-cons}

-- a list whose elements all pass
pub filter-all : {X : Type 0} (p : X → Bool) (xs : List X) → All (λ x. p x ≡ true) xs → filter p xs ≡ xs
filter-all p [] all = refl
filter-all p (x ∷ xs) all =
    let here : p x ≡ true = All-head (λ y. p y ≡ true) x xs all in
    let rest : filter p xs ≡ xs = filter-all p xs (All-tail (λ y. p y ≡ true) x xs all) in
    rw here (ap (λ ys. x ∷ ys) rest)

-- a list none of whose elements passes
pub filter-none : {X : Type 0} (p : X → Bool) (xs : List X) → All (λ x. p x ≡ false) xs → filter p xs ≡ []
filter-none p [] all = refl
filter-none p (x ∷ xs) all =
    let here : p x ≡ false = All-head (λ y. p y ≡ false) x xs all in
    let rest : filter p xs ≡ [] = filter-none p xs (All-tail (λ y. p y ≡ false) x xs all) in
    rw here rest

-- what passes has both what all have and what passing means
pub filter-both : {X : Type 0} (p : X → Bool) (Q R : X → Type 0) (xs : List X) → All Q xs → ((x : X) → p x ≡ true → Q x → R x) → All R (filter p xs)
filter-both p Q R xs all means k d inside = means (get_or (filter p xs) k d) (filter_passes p xs k d inside) (All-filter p Q xs all k d inside)

-- where all before a place pass and none from it on, the filter is what stands before it
pub filter-front : {X : Type 0} (p : X → Bool) (xs : List X) (i : ℕ) → i ≤ length xs
    → AllWithin (λ x. p x ≡ true) xs 0 i → AllWithin (λ x. p x ≡ false) xs i (length xs) → filter p xs ≡ take i xs
filter-front p xs i inside pass fail =
    let front : filter p (take i xs) ≡ take i xs = filter-all p (take i xs) (λ k d l. let below : k < i = omega (arith, length-take i xs) in rw (get_or-take i xs k d below) (pass k d (omega arith) below)) in
    let back : filter p (drop i xs) ≡ [] = filter-none p (drop i xs) (λ k d l. rw (get_or-drop i xs k d) (fail (i + k) d (omega arith) (omega (arith, length-drop i xs)))) in
    let split : filter p xs ≡ filter p (take i xs ++ drop i xs) = ap (filter p) (sym (take-append-drop i xs)) in
    split ∙ filter-append p (take i xs) (drop i xs) ∙ ap (λ ys. filter p (take i xs) ++ ys) back ∙ append-nil (filter p (take i xs)) ∙ front

-- and the other way round
pub filter-back : {X : Type 0} (p : X → Bool) (xs : List X) (i : ℕ) → i ≤ length xs
    → AllWithin (λ x. p x ≡ false) xs 0 i → AllWithin (λ x. p x ≡ true) xs i (length xs) → filter p xs ≡ drop i xs
filter-back p xs i inside fail pass =
    let front : filter p (take i xs) ≡ [] = filter-none p (take i xs) (λ k d l. let below : k < i = omega (arith, length-take i xs) in rw (get_or-take i xs k d below) (fail k d (omega arith) below)) in
    let back : filter p (drop i xs) ≡ drop i xs = filter-all p (drop i xs) (λ k d l. rw (get_or-drop i xs k d) (pass (i + k) d (omega arith) (omega (arith, length-drop i xs)))) in
    let split : filter p xs ≡ filter p (take i xs ++ drop i xs) = ap (filter p) (sym (take-append-drop i xs)) in
    split ∙ filter-append p (take i xs) (drop i xs) ∙ ap (λ ys. ys ++ filter p (drop i xs)) front ∙ back

-- where nothing passes a test, all fail it
all_failed : {X : Type 0} (q : X → Bool) (xs : List X) → length (filter q xs) ≡ 0 → All (λ x. q x ≡ false) xs
all_failed q [] none = All-nil (λ x. q x ≡ false)
all_failed q (x ∷ xs) none =
    elim (cases_Bool (q x)) [
      | inl here ↦ absurd (let more : suc (length (filter q xs)) ≡ 0 = rw here at none in omega arith)
      | inr other ↦ All-cons (λ y. q y ≡ false) x xs other (all_failed q xs (rw other at none))
    ]

-- where something passes, an element does
some_passed : {X : Type 0} (q : X → Bool) (xs : List X) → 0 < length (filter q xs) → Any (λ x. q x ≡ true) xs
some_passed q [] some = absurd (omega arith)
some_passed q (x ∷ xs) some =
    elim (cases_Bool (q x)) [
      | inl here ↦ (0, x, omega arith, refl, here)
      | inr other ↦ let later : Any (λ y. q y ≡ true) xs = some_passed q xs (rw other at some) in
          (suc later.0, later.1, omega (arith, later.2), later.3, later.4)
    ]

-- q passes what p doesn't: p keeps all where nothing passes q
pub filter-kept : {X : Type 0} (p q : X → Bool) → ((x : X) → q x ≡ not (p x)) → (xs : List X) → length xs ≤ length (filter p xs) → filter p xs ≡ xs
filter-kept p q other xs long =
    let none : length (filter q xs) ≡ 0 = omega (arith, length-filter_both p q other xs) in
    filter-all p xs (All-weaker (λ x. q x ≡ false) (λ x. p x ≡ true) (λ x no. passes (p x) (sym (other x) ∙ no)) xs (all_failed q xs none))
  where
    passes : (b : Bool) → not b ≡ false → b ≡ true
    passes true is = refl
    passes false is = cc

-- p leaves something out exactly where something passes q
pub shorter_any : {X : Type 0} (p q : X → Bool) → ((x : X) → q x ≡ not (p x)) → (xs : List X) → length (filter p xs) < length xs → Any (λ x. q x ≡ true) xs
shorter_any p q other xs short = some_passed q xs (omega (arith, length-filter_both p q other xs))

pub any_shorter : {X : Type 0} (p q : X → Bool) → ((x : X) → q x ≡ not (p x)) → (xs : List X) → Any (λ x. q x ≡ true) xs → length (filter p xs) < length xs
any_shorter p q other xs some =
    elim (cases_lt 0 (length (filter q xs))) [
      | inl more ↦ omega (arith, length-filter_both p q other xs)
      | inr none ↦ absurd (false≢true (sym (all_failed q xs (omega arith) some.0 some.1 some.2) ∙ ap q some.3 ∙ some.4))
    ]

-- where R holds of each two elements of both lists, and of each one of the first with each one of the second, it
-- holds of each two elements of the joined list
pub AllPairs-append : {X : Type 0} (R : X → X → Type 0) (xs ys : List X) → AllPairs R xs → AllPairs R ys → All (λ x. All (R x) ys) xs → AllPairs R (xs ++ ys)
AllPairs-append R [] ys first second across = second
AllPairs-append R (x ∷ xs) ys first second across =
    let head : All (R x) xs = λ k d inside. first 0 (suc k) d (omega arith) (omega arith) in
    let tail : AllPairs R xs = λ i j d before inside. first (suc i) (suc j) d (omega arith) (omega arith) in
    let joined : AllPairs R (xs ++ ys) = AllPairs-append R xs ys tail second (All-tail (λ y. All (R y) ys) x xs across) in
    AllPairs-cons R x (xs ++ ys) (All-append (R x) xs ys head (All-head (λ y. All (R y) ys) x xs across)) joined

-- what a filter keeps was there and passes
pub contained_before : {X : Type 0} (p : X → Bool) (xs : List X) (x : X) → Contains (filter p xs) x → Contains xs x
contained_before p xs x has = All-contains (Contains xs) (filter p xs) x (All-filter p (Contains xs) xs (All-contains_itself xs)) has

pub contained_passes : {X : Type 0} (p : X → Bool) (xs : List X) (x : X) → Contains (filter p xs) x → p x ≡ true
contained_passes p xs x has = All-contains (λ y. p y ≡ true) (filter p xs) x (filter_passes p xs) has

at_first : {X : Type 0} (y x : X) (k : ℕ) → k < 1 → get_or (y ∷ []) k x ≡ x → y ≡ x
at_first y x zero below is = is
at_first y x (suc k) below is = absurd (omega arith)

-- a list of one element has that one alone
pub only_one : {X : Type 0} (y x : X) → Contains (y ∷ []) x → y ≡ x
only_one y x has = at_first y x has.0 has.1 has.2

-- what was there and passes is kept
pub contained_after : {X : Type 0} (p : X → Bool) (xs : List X) (x : X) → Contains xs x → p x ≡ true → Contains (filter p xs) x
contained_after p [] x has pass = absurd (omega (arith, has.1))
contained_after p (y ∷ ys) x has pass =
    elim (Contains-append_cases (y ∷ []) ys x has) [
      | inl first ↦
          let same : y ≡ x = only_one y x first in
          let here : p y ≡ true = ap p same ∙ pass in
          rw here (0, omega arith, same)
      | inr later ↦
          let rest : Contains (filter p ys) x = contained_after p ys x later pass in
          elim (cases_Bool (p y)) [
            | inl here ↦ rw here (Contains-append_right (y ∷ []) (filter p ys) x rest)
            | inr other ↦ rw other rest
          ]
    ]
