-- The numbers of a list, and lists with no number twice.
use Rattle.std.proofs.Common.{◌≡◌, ◌≢◌, ℕ, ◌<◌, ◌≤◌, List, [], ◌∷◌, ◌++◌, length, eqb, false, true, not, refl, ap, sym, ◌∙◌, subst, inl, inr, ◌⊎◌, arith}
use Rattle.std.proofs.lemmas.Bool.{cases_eq, cond-true, cond-false, eqb-false, ne_eqb, eq-eqb, eqb-true}
use Rattle.std.proofs.lemmas.List.Elements.{Contains-append_left, Contains-append_right, Contains-append_cases, Contains-push_cases}
use Rattle.std.proofs.lemmas.Map.Steps.{length-le_from_distinct_below}
use Rattle.std.proofs.lemmas.Map.Views.{Contains-from_any}
use Rattle.std.specs.List.{IsDistinct, AllByRecursion, Contains}
use Rattle.link_lists.specs.Lists.{without}

-- ---- what is in a list

pub not_in_nil : (n : ℕ) → Contains [] n → ⊥
not_in_nil n h = omega (arith, h.1)

pub in_here : (n : ℕ) (ns : List ℕ) → Contains (n ∷ ns) n
in_here n ns = (0, omega arith, refl)

pub in_rest : (m n : ℕ) (ns : List ℕ) → Contains ns m → Contains (n ∷ ns) m
in_rest m n ns h = Contains-append_right (n ∷ []) ns m h

pub in_cases : (m n : ℕ) (ns : List ℕ) → Contains (n ∷ ns) m → (n ≡ m) ⊎ Contains ns m
in_cases m n ns h =
    elim (Contains-append_cases (n ∷ []) ns m h) [
      | inl front ↦ elim (Contains-push_cases [] n m front) [ inl none ↦ absurd (not_in_nil m none) | inr same ↦ inl same ]
      | inr rest ↦ inr rest
    ]

pub in_or_not : (n : ℕ) (ns : List ℕ) → Contains ns n ⊎ (Contains ns n → ⊥)
in_or_not n [] = inr (not_in_nil n)
in_or_not n (m ∷ ns) =
    elim (cases_eq m n) [
      | inl same ↦ inl (subst (λ k. Contains (k ∷ ns) n) (sym same) (in_here n ns))
      | inr other ↦ elim (in_or_not n ns) [
        | inl h ↦ inl (in_rest n m ns h)
        | inr none ↦ inr (λ h. elim (in_cases n m ns h) [ inl same ↦ other same | inr rest ↦ none rest ])
      ]
    ]

-- a list around one of its numbers
pub split_at : (n : ℕ) (ns : List ℕ) → Contains ns n → (before : List ℕ) × (after : List ℕ) × (ns ≡ before ++ n ∷ after)
split_at n [] h = absurd (not_in_nil n h)
split_at n (m ∷ ns) h =
    elim (in_cases n m ns h) [
      | inl same ↦ ([], ns, ap (λ k. k ∷ ns) same)
      | inr rest ↦ let parts = split_at n ns rest in (m ∷ parts.0, parts.1, ap (λ ks. m ∷ ks) parts.2)
    ]

pub in_middle : (n : ℕ) (before after : List ℕ) → Contains (before ++ n ∷ after) n
in_middle n before after = Contains-append_right before (n ∷ after) n (in_here n after)

-- a number beside the one in the middle
pub in_sides : (m n : ℕ) (before after : List ℕ) → n ≢ m → Contains (before ++ n ∷ after) m → Contains (before ++ after) m
in_sides m n before after other h =
    elim (Contains-append_cases before (n ∷ after) m h) [
      | inl left ↦ Contains-append_left before after m left
      | inr right ↦ elim (in_cases m n after right) [ inl same ↦ absurd (other same) | inr rest ↦ Contains-append_right before after m rest ]
    ]

pub in_whole : (m n : ℕ) (before after : List ℕ) → Contains (before ++ after) m → Contains (before ++ n ∷ after) m
in_whole m n before after h =
    elim (Contains-append_cases before after m h) [
      | inl left ↦ Contains-append_left before (n ∷ after) m left
      | inr right ↦ Contains-append_right before (n ∷ after) m (in_rest m n after right)
    ]

-- ---- lists with no number twice

differs : (n : ℕ) (ns : List ℕ) → (Contains ns n → ⊥) → AllByRecursion (λ m. eqb n m ≡ false) ns
differs n [] none = tt
differs n (m ∷ ns) none =
    (ne_eqb n m (λ same. none (subst (λ k. Contains (k ∷ ns) n) same (in_here n ns))), differs n ns (λ h. none (in_rest n m ns h)))

differs_from : (n : ℕ) (ns : List ℕ) → AllByRecursion (λ m. eqb n m ≡ false) ns → Contains ns n → ⊥
differs_from n [] all h = not_in_nil n h
differs_from n (m ∷ ns) all h =
    elim (in_cases n m ns h) [ inl same ↦ eqb-false n m all.0 (sym same) | inr rest ↦ differs_from n ns all.1 rest ]

pub distinct_nil : IsDistinct eqb []
unfolding IsDistinct
distinct_nil = tt

pub distinct_cons : (n : ℕ) (ns : List ℕ) → (Contains ns n → ⊥) → IsDistinct eqb ns → IsDistinct eqb (n ∷ ns)
unfolding IsDistinct
distinct_cons n ns none rest = (differs n ns none, rest)

pub distinct_head : (n : ℕ) (ns : List ℕ) → IsDistinct eqb (n ∷ ns) → Contains ns n → ⊥
unfolding IsDistinct
distinct_head n ns all = differs_from n ns all.0

pub distinct_rest : (n : ℕ) (ns : List ℕ) → IsDistinct eqb (n ∷ ns) → IsDistinct eqb ns
unfolding IsDistinct
distinct_rest n ns all = all.1

pub distinct_append : (ms ns : List ℕ) → IsDistinct eqb ms → IsDistinct eqb ns → ((k : ℕ) → Contains ms k → Contains ns k → ⊥) → IsDistinct eqb (ms ++ ns)
distinct_append [] ns left right apart = right
distinct_append (m ∷ ms) ns left right apart =
    distinct_cons m (ms ++ ns)
    (λ h. elim (Contains-append_cases ms ns m h) [ inl again ↦ distinct_head m ms left again | inr other ↦ apart m (in_here m ms) other ])
    (distinct_append ms ns (distinct_rest m ms left) right (λ k a b. apart k (in_rest k m ms a) b))

pub distinct_left : (ms ns : List ℕ) → IsDistinct eqb (ms ++ ns) → IsDistinct eqb ms
distinct_left [] ns all = distinct_nil
distinct_left (m ∷ ms) ns all =
    distinct_cons m ms
    (λ h. distinct_head m (ms ++ ns) all (Contains-append_left ms ns m h))
    (distinct_left ms ns (distinct_rest m (ms ++ ns) all))

pub distinct_right : (ms ns : List ℕ) → IsDistinct eqb (ms ++ ns) → IsDistinct eqb ns
distinct_right [] ns all = all
distinct_right (m ∷ ms) ns all = distinct_right ms ns (distinct_rest m (ms ++ ns) all)

pub distinct_apart : (ms ns : List ℕ) → IsDistinct eqb (ms ++ ns) → (k : ℕ) → Contains ms k → Contains ns k → ⊥
distinct_apart [] ns all k left right = not_in_nil k left
distinct_apart (m ∷ ms) ns all k left right =
    elim (in_cases k m ms left) [
      | inl same ↦ distinct_head m (ms ++ ns) all (Contains-append_right ms ns m (subst (Contains ns) (sym same) right))
      | inr rest ↦ distinct_apart ms ns (distinct_rest m (ms ++ ns) all) k rest right
    ]

-- a list without the number in its middle
pub distinct_sides : (n : ℕ) (before after : List ℕ) → IsDistinct eqb (before ++ n ∷ after) → IsDistinct eqb (before ++ after)
distinct_sides n before after all =
    distinct_append before after (distinct_left before (n ∷ after) all) (distinct_rest n after (distinct_right before (n ∷ after) all))
    (λ k left right. distinct_apart before (n ∷ after) all k left (in_rest k n after right))

pub not_in_sides : (n : ℕ) (before after : List ℕ) → IsDistinct eqb (before ++ n ∷ after) → Contains (before ++ after) n → ⊥
not_in_sides n before after all h =
    elim (Contains-append_cases before after n h) [
      | inl left ↦ distinct_apart before (n ∷ after) all n left (in_here n after)
      | inr right ↦ distinct_head n after (distinct_right before (n ∷ after) all) right
    ]

-- a list has one split around a number
pub one_split : (n : ℕ) (ks ls ms ns : List ℕ) → ks ++ n ∷ ls ≡ ms ++ n ∷ ns → IsDistinct eqb (ks ++ n ∷ ls) → (ks ≡ ms) × (ls ≡ ns)
one_split n [] ls [] ns same all = (refl, cc)
one_split n [] ls (m ∷ ms) ns same all =
    let tails : ls ≡ ms ++ n ∷ ns = cc in
    absurd (distinct_head n ls all (subst (λ k. Contains k n) (sym tails) (in_middle n ms ns)))
one_split n (k ∷ ks) ls [] ns same all =
    let heads : k ≡ n = cc in
    absurd (distinct_head k (ks ++ n ∷ ls) all (subst (Contains (ks ++ n ∷ ls)) (sym heads) (in_middle n ks ls)))
one_split n (k ∷ ks) ls (m ∷ ms) ns same all =
    let heads : k ≡ m = cc in
    let tails : ks ++ n ∷ ls ≡ ms ++ n ∷ ns = cc in
    let rest = one_split n ks ls ms ns tails (distinct_rest k (ks ++ n ∷ ls) all) in
    let front : ks ≡ ms = rest.0 in
    (cc, rest.1)

-- numbers below a limit with no two equal are no more than the limit
pub length-distinct : (ns : List ℕ) (limit : ℕ) → IsDistinct eqb ns → ((n : ℕ) → Contains ns n → n < limit) → length ns ≤ limit
length-distinct ns limit all below =
    length-le_from_distinct_below ns limit all (λ n found. below n (Contains-from_any (λ a b. eqb-true a b) n ns found))

-- ---- a list without a number

pub without-absent : (n : ℕ) (ns : List ℕ) → (Contains ns n → ⊥) → without n ns ≡ ns
without-absent n [] none = refl
without-absent n (m ∷ ns) none =
    let other : m ≢ n = λ same. none (subst (λ k. Contains (k ∷ ns) n) (sym same) (in_here n ns)) in
    let test : not (eqb m n) ≡ true = ap not (ne_eqb m n other) in
    cond-true (not (eqb m n)) (m ∷ without n ns) (without n ns) test ∙ ap (λ l. m ∷ l) (without-absent n ns (λ h. none (in_rest n m ns h)))

pub without-split : (n : ℕ) (before after : List ℕ) → IsDistinct eqb (before ++ n ∷ after) → without n (before ++ n ∷ after) ≡ before ++ after
without-split n [] after all =
    let test : not (eqb n n) ≡ false = ap not (eq-eqb n n refl) in
    cond-false (not (eqb n n)) (n ∷ without n after) (without n after) test ∙ without-absent n after (distinct_head n after all)
without-split n (m ∷ before) after all =
    let other : m ≢ n = λ same. distinct_head m (before ++ n ∷ after) all (subst (Contains (before ++ n ∷ after)) (sym same) (in_middle n before after)) in
    let test : not (eqb m n) ≡ true = ap not (ne_eqb m n other) in
    cond-true (not (eqb m n)) (m ∷ without n (before ++ n ∷ after)) (without n (before ++ n ∷ after)) test
    ∙ ap (λ l. m ∷ l) (without-split n before after (distinct_rest m (before ++ n ∷ after) all))
