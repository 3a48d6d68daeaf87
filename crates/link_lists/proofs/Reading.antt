-- What the neighbours of a place tell of the lists.
use Rattle.std.proofs.Common.{Bool, true, false, not, ◌↔◌, ◌≡◌, ◌≢◌, ℕ, zero, suc, ◌+◌, ◌<◌, ◌≤◌, List, [], ◌∷◌, ◌++◌, Option, Some, None, length, eqb, ap, sym, ◌∙◌, subst, inl, inr, ◌⊎◌, arith, refl, length-append, slice_get}
use Rattle.std.proofs.lemmas.Bool.{cases_eq, eq-eqb, ne_eqb, true≢false, false≢true}
use Rattle.std.specs.Prelude.{IsTrue, IsFalse, IfSome}
use Rattle.std.specs.Bool.{then_some}
use Rattle.std.specs.List.{Contains, IsDistinct}
use Rattle.link_lists.specs.declared.rings.RingPlace.TheVariants.{Node, End}
use Rattle.link_lists.specs.declared.rings.Neighbours.{Neighbours}
use Rattle.link_lists.specs.declared.rings.Rings.{Rings}
use Rattle.link_lists.specs.Lists.{list_at, IsFree, IsLinked, IsLinks}
use Rattle.link_lists.specs.Rings.{Chain, StandsFor, neighbours, place_after, nodes_from, lists_of}
use Rattle.link_lists.proofs.Members.{not_in_nil, in_here, in_cases, in_or_not, in_middle, distinct_right, distinct_head, length-distinct, split_at}
use Rattle.link_lists.proofs.Chains.{same_node, end_not_node, chain_right, node_after_start, end_after_start, nodes_from-chain}
use Rattle.link_lists.proofs.Stands.{list_in_range, ring_at, first_node, no_first_node}

-- ---- a number at an index

-- a list around the number at an index, and what stands at the next index
pub split_get : (ns : List ℕ) (k n : ℕ) → slice_get ns k ≡ Some n → (before : List ℕ) × (after : List ℕ) × (ns ≡ before ++ n ∷ after) × (slice_get ns (k + 1) ≡ slice_get after 0)
split_get [] k n is = cc
split_get (m ∷ ns) zero n is = let same : m ≡ n = cc in ([], ns, ap (λ l. l ∷ ns) same, refl)
split_get (m ∷ ns) (suc k) n is =
    let parts = split_get ns k n is in
    let step : suc k + 1 ≡ suc (k + 1) = omega arith in
    (m ∷ parts.0, parts.1, ap (λ l. m ∷ l) parts.2, subst (λ j. slice_get (m ∷ ns) j ≡ slice_get parts.1 0) (sym step) parts.3)

pub contains_from_get : (ns : List ℕ) (k n : ℕ) → slice_get ns k ≡ Some n → Contains ns n
contains_from_get ns k n is =
    let parts = split_get ns k n is in
    subst (λ l. Contains l n) (sym parts.2) (in_middle n parts.0 parts.1)

pub get_from_contains : (n : ℕ) (ns : List ℕ) → Contains ns n → (k : ℕ) × (slice_get ns k ≡ Some n)
get_from_contains n [] h = absurd (not_in_nil n h)
get_from_contains n (m ∷ ns) h =
    elim (in_cases n m ns h) [
      | inl same ↦ (0, ap Some same)
      | inr rest ↦ let found = get_from_contains n ns rest in (suc found.0, found.1)
    ]

pub headed : (ns : List ℕ) (n : ℕ) → slice_get ns 0 ≡ Some n → (rest : List ℕ) × (ns ≡ n ∷ rest)
headed [] n is = cc
headed (m ∷ ns) n is = let same : m ≡ n = cc in (ns, ap (λ k. k ∷ ns) same)

-- ---- a number is in a list or in none

linked_or_not : (links : List (List ℕ)) (n most : ℕ) → IsLinked links n ⊎ ((i : ℕ) → i < most → Contains (list_at links i) n → ⊥)
linked_or_not links n zero = inr (λ i below h. omega (arith, below))
linked_or_not links n (suc most) =
    elim (in_or_not n (list_at links most)) [
      | inl h ↦ inl (most, h)
      | inr none ↦ elim (linked_or_not links n most) [
        | inl linked ↦ inl linked
        | inr others ↦ inr (λ i below h. elim (cases_eq i most) [
          | inl same ↦ none (subst (λ j. Contains (list_at links j) n) same h)
          | inr other ↦ others i (omega (arith, below)) h
        ])
      ]
    ]

pub linked_or_free : {N L : ℕ} {links : List (List ℕ)} → IsLinks N L links → (n : ℕ) → IsLinked links n ⊎ IsFree links n
linked_or_free {N} {L} {links} all n =
    elim (linked_or_not links n L) [
      | inl linked ↦ inl linked
      | inr none ↦ inr (λ i h. none i (list_in_range all i n h) h)
    ]

-- ---- what stands after a place

pub shown_stands : {N L : ℕ} {r : Rings N L} {links : List (List ℕ)} → StandsFor r (lists_of r) → lists_of r ≡ links → StandsFor r links
shown_stands {N} {L} {r} {links} stood shown = subst (StandsFor r) shown stood

pub first_is : {N L : ℕ} {r : Rings N L} {links : List (List ℕ)} {sides : Neighbours} (i n : ℕ) → StandsFor r links → i < L → sides ≡ neighbours r (End i) → sides.after ≡ Node n → Some n ≡ slice_get (list_at links i) 0
first_is {N} {L} {r} {links} {sides} i n s within is after =
    let found = first_node i n s within (subst (λ v. v.after ≡ Node n) is after) in
    sym (ap (λ l. slice_get l 0) found.1)

pub first_below : {N L : ℕ} {r : Rings N L} {links : List (List ℕ)} {sides : Neighbours} (i n : ℕ) → StandsFor r links → i < L → sides ≡ neighbours r (End i) → sides.after ≡ Node n → n < N
first_below {N} {L} {r} {links} {sides} i n s within is after =
    let found = first_node i n s within (subst (λ v. v.after ≡ Node n) is after) in
    s.shape.below i n (subst (λ l. Contains l n) (sym found.1) (in_here n found.0))

pub none_is : {N L : ℕ} {r : Rings N L} {links : List (List ℕ)} {sides : Neighbours} (i k : ℕ) → StandsFor r links → i < L → sides ≡ neighbours r (End i) → sides.after ≡ End k → list_at links i ≡ []
none_is {N} {L} {r} {links} {sides} i k s within is after =
    no_first_node i k s within (subst (λ v. v.after ≡ End k) is after)

-- the chain from a node in a list to its end
pub rest_of : {N L : ℕ} {r : Rings N L} {links : List (List ℕ)} (s : StandsFor r links) (i n : ℕ) (before after : List ℕ) → list_at links i ≡ before ++ n ∷ after → Chain r (Node n) after (End i)
rest_of {N} {L} {r} {links} s i n before after split =
    let within = list_in_range s.shape i n (subst (λ l. Contains l n) (sym split) (in_middle n before after)) in
    chain_right r (End i) before n after (End i) (ring_at s i n before after within split)

-- a node comes after a linked one
pub next_is : {N L : ℕ} {r : Rings N L} {links : List (List ℕ)} {sides : Neighbours} (n m : ℕ) → StandsFor r links → sides ≡ neighbours r (Node n) → sides.after ≡ Node m → (i k : ℕ) → slice_get (list_at links i) k ≡ Some n → Some m ≡ slice_get (list_at links i) (k + 1)
next_is {N} {L} {r} {links} {sides} n m s is after i k at =
    let parts = split_get (list_at links i) k n at in
    let found = node_after_start r (Node n) parts.1 i m (rest_of s i n parts.0 parts.1 parts.2) (subst (λ v. v.after ≡ Node m) is after) in
    sym (parts.3 ∙ ap (λ l. slice_get l 0) found.1)

pub next_below : {N L : ℕ} {r : Rings N L} {links : List (List ℕ)} {sides : Neighbours} (n m : ℕ) → StandsFor r links → IsLinked links n → sides ≡ neighbours r (Node n) → sides.after ≡ Node m → m < N
next_below {N} {L} {r} {links} {sides} n m s linked is after =
    let i = linked.0 in
    let place = get_from_contains n (list_at links i) linked.1 in
    s.shape.below i m (contains_from_get (list_at links i) (place.0 + 1) m (sym (next_is n m s is after i place.0 place.1)))

-- the end comes after the last one
pub next_is_none : {N L : ℕ} {r : Rings N L} {links : List (List ℕ)} {sides : Neighbours} (n e : ℕ) → StandsFor r links → sides ≡ neighbours r (Node n) → sides.after ≡ End e → (i k : ℕ) → slice_get (list_at links i) k ≡ Some n → None ≡ slice_get (list_at links i) (k + 1)
next_is_none {N} {L} {r} {links} {sides} n e s is after i k at =
    let parts = split_get (list_at links i) k n at in
    let found = end_after_start r (Node n) parts.1 i e (rest_of s i n parts.0 parts.1 parts.2) (subst (λ v. v.after ≡ End e) is after) in
    sym (parts.3 ∙ ap (λ l. slice_get l 0) found.1)

-- no linked node comes after itself
pub linked_not_alone : {N L : ℕ} {r : Rings N L} {links : List (List ℕ)} {sides : Neighbours} (n : ℕ) → StandsFor r links → IsLinked links n → sides ≡ neighbours r (Node n) → sides.after ≡ Node n → ⊥
linked_not_alone {N} {L} {r} {links} {sides} n s linked is after =
    let i = linked.0 in
    let parts = split_at n (list_at links i) linked.1 in
    let found = node_after_start r (Node n) parts.1 i n (rest_of s i n parts.0 parts.1 parts.2) (subst (λ v. v.after ≡ Node n) is after) in
    let distinct : IsDistinct eqb (parts.0 ++ n ∷ parts.1) = subst (IsDistinct eqb) parts.2 (s.shape.distinct i) in
    distinct_head n parts.1 (distinct_right parts.0 (n ∷ parts.1) distinct) (subst (λ l. Contains l n) (sym found.1) (in_here n found.0))

-- a free node comes after itself
pub free_alone : {N L : ℕ} {r : Rings N L} {links : List (List ℕ)} {sides : Neighbours} (n : ℕ) → StandsFor r links → n < N → IsFree links n → sides ≡ neighbours r (Node n) → sides.after ≡ Node n
free_alone {N} {L} {r} {links} {sides} n s below free is = ap (λ v. v.after) is ∙ s.alone n below free

-- so a node that another place comes after is linked
pub linked_from_node : {N L : ℕ} {r : Rings N L} {links : List (List ℕ)} {sides : Neighbours} (n m : ℕ) → StandsFor r links → n < N → sides ≡ neighbours r (Node n) → sides.after ≡ Node m → m ≢ n → IsLinked links n
linked_from_node {N} {L} {r} {links} {sides} n m s below is after other =
    elim (linked_or_free s.shape n) [
      | inl linked ↦ linked
      | inr free ↦ absurd (other (same_node m n (sym after ∙ free_alone n s below free is)))
    ]

pub linked_from_end : {N L : ℕ} {r : Rings N L} {links : List (List ℕ)} {sides : Neighbours} (n e : ℕ) → StandsFor r links → n < N → sides ≡ neighbours r (Node n) → sides.after ≡ End e → IsLinked links n
linked_from_end {N} {L} {r} {links} {sides} n e s below is after =
    elim (linked_or_free s.shape n) [
      | inl linked ↦ linked
      | inr free ↦ absurd (end_not_node e n (sym after ∙ free_alone n s below free is))
    ]

-- the end that comes after a node is that of its list
pub end_is : {N L : ℕ} {r : Rings N L} {links : List (List ℕ)} {sides : Neighbours} (n e i : ℕ) → StandsFor r links → sides ≡ neighbours r (Node n) → sides.after ≡ End e → Contains (list_at links i) n → i ≡ e
end_is {N} {L} {r} {links} {sides} n e i s is after h =
    let parts = split_at n (list_at links i) h in
    (end_after_start r (Node n) parts.1 i e (rest_of s i n parts.0 parts.1 parts.2) (subst (λ v. v.after ≡ End e) is after)).0

-- how many nodes the walk from a node has before it
pub left_after : {N L : ℕ} {r : Rings N L} {links : List (List ℕ)} (s : StandsFor r links) (i n : ℕ) (before after : List ℕ) → list_at links i ≡ before ++ n ∷ after → length (nodes_from r N (place_after r (Node n))) ≡ length after
left_after {N} {L} {r} {links} s i n before after split =
    let long : length (list_at links i) ≤ N = length-distinct (list_at links i) N (s.shape.distinct i) (s.shape.below i) in
    let whole : length (list_at links i) ≡ length (before ++ n ∷ after) = ap length split in
    let fits : length after ≤ N = omega (arith, length-append before (n ∷ after)) in
    ap length (nodes_from-chain r N (Node n) after i (rest_of s i n before after split) fits)

-- ---- what the calls answer

-- `next`, by the node that comes after this one
pub record AnswersNext (nodes : ℕ) (links : List (List ℕ)) (n : ℕ) (answer : Option ℕ) : Type 0 where
  pub range : IfSome answer (λ m. m < nodes)
  pub next : (i k : ℕ) → slice_get (list_at links i) k ≡ Some n → answer ≡ slice_get (list_at links i) (k + 1)
  pub free : IsFree links n → answer ≡ None

pub answers_next : {N L : ℕ} {r : Rings N L} {links : List (List ℕ)} {sides : Neighbours} (n m : ℕ) (answer : Option ℕ) → StandsFor r links → n < N → sides ≡ neighbours r (Node n) → sides.after ≡ Node m → answer ≡ then_some (not (eqb m n)) m → AnswersNext N links n answer
answers_next {N} {L} {r} {links} {sides} n m answer s below is after given =
    elim (cases_eq m n) [
      | inl same ↦
          let none : answer ≡ None = given ∙ ap (λ b. then_some (not b) m) (eq-eqb m n same) in
          let itself : sides.after ≡ Node n = after ∙ ap Node same in
          record {
            range = subst (λ o. IfSome o (λ k. k < N)) (sym none) tt;
            next = λ i k at. absurd (linked_not_alone n s (i, contains_from_get (list_at links i) k n at) is itself);
            free = λ _. none;
          }
      | inr other ↦
          let some : answer ≡ Some m = given ∙ ap (λ b. then_some (not b) m) (ne_eqb m n other) in
          record {
            range = subst (λ o. IfSome o (λ k. k < N)) (sym some) (next_below n m s (linked_from_node n m s below is after other) is after);
            next = λ i k at. some ∙ next_is n m s is after i k at;
            free = λ free. absurd (other (same_node m n (sym after ∙ free_alone n s below free is)));
          }
    ]

-- `is_linked`, by the node that comes after this one
pub record AnswersLinked (links : List (List ℕ)) (n : ℕ) (answer : Bool) : Type 0 where
  pub linked : IsTrue answer ↔ IsLinked links n
  pub free : IsFalse answer ↔ IsFree links n

pub answers_linked : {N L : ℕ} {r : Rings N L} {links : List (List ℕ)} {sides : Neighbours} (n m : ℕ) → StandsFor r links → n < N → sides ≡ neighbours r (Node n) → sides.after ≡ Node m → AnswersLinked links n (not (eqb m n))
answers_linked {N} {L} {r} {links} {sides} n m s below is after =
    elim (cases_eq m n) [
      | inl same ↦
          let test : not (eqb m n) ≡ false = ap not (eq-eqb m n same) in
          let none : IsLinked links n → ⊥ = λ linked. linked_not_alone n s linked is (after ∙ ap Node same) in
          record {
            linked = (λ yes. absurd (false≢true (sym test ∙ yes)), λ linked. absurd (none linked));
            free = (λ _ i h. none (i, h), λ _. test);
          }
      | inr other ↦
          let test : not (eqb m n) ≡ true = ap not (ne_eqb m n other) in
          let linked : IsLinked links n = linked_from_node n m s below is after other in
          record {
            linked = (λ _. linked, λ _. test);
            free = (λ no. absurd (true≢false (sym test ∙ no)), λ free. absurd (free linked.0 linked.1));
          }
    ]

-- `pop_front`, by what `unlink` leaves
pub popped_is : (old new : List (List ℕ)) (i n : ℕ) → Some n ≡ slice_get (list_at old i) 0 → ((k : ℕ) (before after : List ℕ) → list_at old k ≡ before ++ n ∷ after → list_at new k ≡ before ++ after) → list_at old i ≡ n ∷ list_at new i
popped_is old new i n first unlinked =
    let found = headed (list_at old i) n (sym first) in
    found.1 ∙ ap (λ l. n ∷ l) (sym (unlinked i [] found.0 found.1))
