-- What putting one list behind another leaves.
use Rattle.std.proofs.Common.{◌≡◌, ◌≢◌, ◌↔◌, ℕ, ◌<◌, List, [], ◌∷◌, ◌++◌, length, set, eqb, ap, sym, ◌∙◌, subst, inl, inr, arith}
use Rattle.std.proofs.lemmas.Bool.{cases_eq}
use Rattle.std.proofs.lemmas.List.{length-set}
use Rattle.std.proofs.lemmas.List.Elements.{Contains-append_left, Contains-append_right, Contains-append_cases}
use Rattle.std.specs.List.{Contains, IsDistinct}
use Rattle.link_lists.specs.declared.rings.RingPlace.TheVariants.{Node, End}
use Rattle.link_lists.specs.declared.rings.Neighbours.{Neighbours}
use Rattle.link_lists.specs.declared.rings.Rings.{Rings}
use Rattle.link_lists.specs.Lists.{list_at, IsFree, IsLinked, IsLinks}
use Rattle.link_lists.specs.Rings.{Joins, Chain, StandsFor, neighbours, place_before, place_after, lists_of}
use Rattle.link_lists.proofs.Members.{not_in_nil, in_here, distinct_nil, distinct_rest, distinct_head, distinct_append}
use Rattle.link_lists.proofs.Shapes.{list_at-set, list_at-same, list_at-other, IsLinks-set}
use Rattle.link_lists.proofs.Chains.{Misses, misses_node, misses_end, misses_rest, node_not_end, end_not_node, same_end, chain_kept, chain_append, chain_to}
use Rattle.link_lists.proofs.Stands.{IsOff, lists_of-stands, stands_shown, first_node, on_end, on_before_end, on_after_end, off_other, free_not_on, ring_kept}

-- the lists afterwards
abbrev pub moved : List (List ℕ) → ℕ → ℕ → List (List ℕ)
moved links from to = set (set links from []) to (list_at links to ++ list_at links from)

-- a list afterwards
pub moved_to : (links : List (List ℕ)) (from to : ℕ) → to < length links → list_at (moved links from to) to ≡ list_at links to ++ list_at links from
moved_to links from to inside =
    list_at-same (set links from []) to (list_at links to ++ list_at links from) (omega (arith, length-set links from []))

pub moved_from : (links : List (List ℕ)) (from to : ℕ) → from < length links → from ≢ to → list_at (moved links from to) from ≡ []
moved_from links from to inside other =
    list_at-other (set links from []) to (list_at links to ++ list_at links from) from other ∙ list_at-same links from [] inside

pub moved_others : (links : List (List ℕ)) (from to k : ℕ) → k ≢ from → k ≢ to → list_at (moved links from to) k ≡ list_at links k
moved_others links from to k not_from not_to =
    list_at-other (set links from []) to (list_at links to ++ list_at links from) k not_to ∙ list_at-other links from [] k not_from

shape : {N L : ℕ} {links : List (List ℕ)} (from to : ℕ) → IsLinks N L links → from < L → to < L → from ≢ to → IsLinks N L (moved links from to)
shape {N} {L} {links} from to all from_within to_within different =
    let inside : from < length links = omega (arith, all.count) in
    let cleared : IsLinks N L (set links from []) =
    IsLinks-set links from [] all from_within (λ n h. absurd (not_in_nil n h)) distinct_nil (λ j n other h there. not_in_nil n h) in
    IsLinks-set (set links from []) to (list_at links to ++ list_at links from) cleared to_within
    (λ n h. elim (Contains-append_cases (list_at links to) (list_at links from) n h) [
      | inl left ↦ all.below to n left
      | inr right ↦ all.below from n right
    ])
    (distinct_append (list_at links to) (list_at links from) (all.distinct to) (all.distinct from)
    (λ n left right. different (all.apart from to n right left)))
    (λ j n other h there. elim (list_at-set links from [] j inside) [
      | inl (same, is) ↦ not_in_nil n (subst (λ l. Contains l n) is there)
      | inr (elsewhere, is) ↦ elim (Contains-append_cases (list_at links to) (list_at links from) n h) [
        | inl left ↦ other (all.apart j to n (subst (λ l. Contains l n) is there) left)
        | inr right ↦ elsewhere (all.apart j from n (subst (λ l. Contains l n) is there) right)
      ]
    ])

-- the ring of the list that is moved to
joined : {N L : ℕ} {r r₁ r₂ r₃ : Rings N L} {links : List (List ℕ)} (from to y : ℕ) (ys : List ℕ) → StandsFor r links → from < L → to < L → from ≢ to → list_at links from ≡ y ∷ ys → Joins r r₁ (place_before r (End to)) (Node y) → Joins r₁ r₂ (place_before r (End from)) (End to) → Joins r₂ r₃ (End from) (End from) → Chain r₃ (End to) (list_at links to ++ y ∷ ys) (End to)
joined {N} {L} {r} {r₁} {r₂} {r₃} {links} from to y ys s from_within to_within different split one two three =
    let all = s.shape in
    let ns = list_at links to in
    let apart : to ≢ from = λ same. different (sym same) in
    let source : Chain r (End from) (y ∷ ys) (End from) = subst (λ l. Chain r (End from) l (End from)) split (s.rings from from_within) in
    let distinct : IsDistinct eqb (y ∷ ys) = subst (IsDistinct eqb) split (all.distinct from) in
    let in_from : (n : ℕ) → Contains (y ∷ ys) n → Contains (list_at links from) n = λ n h. subst (λ l. Contains l n) (sym split) h in
    let once : Misses ys (Node y) = misses_node ys y (distinct_head y ys distinct) in
    let new_there : Misses ns (Node y) = misses_node ns y (λ h. apart (all.apart to from y h (in_from y (in_here y ys)))) in
    let off_last : IsOff links from (place_before r (End to)) = off_other all different (on_before_end s to to_within) in
    let off_source : IsOff links to (place_before r (End from)) = off_other all apart (on_before_end s from from_within) in
    let clear : Misses (y ∷ ys) (place_before r (End to)) = record { miss = λ n h. off_last.nodes.miss n (in_from n h) } in
    let left_1 : Chain r₁ (End to) ns (Node y) =
    chain_to (End to) ns (End to) one (all.distinct to) (misses_end ns to) new_there (s.rings to to_within) in
    let right_1 : Chain r₁ (Node y) ys (End from) =
    chain_kept one (Node y) ys (End from) (clear.miss y (in_here y ys)) (misses_rest clear) once (end_not_node from y) source.1 in
    let last_is : place_before r₁ (End from) ≡ place_before r (End from) = one.before_others (End from) (end_not_node from y) in
    let right_2 : Chain r₂ (Node y) ys (End to) =
    chain_to (Node y) ys (End from) (subst (λ p. Joins r₁ r₂ p (End to)) (sym last_is) two) (distinct_rest y ys distinct) once (misses_end ys to) right_1 in
    let left_2 : Chain r₂ (End to) ns (Node y) =
    chain_kept two (End to) ns (Node y) off_source.end off_source.nodes (misses_end ns to) (node_not_end y to) left_1 in
    let ends : End to ≢ End from = λ same. apart (same_end to from same) in
    chain_kept three (End to) (ns ++ y ∷ ys) (End to) ends (misses_end (ns ++ y ∷ ys) from) (misses_end (ns ++ y ∷ ys) from) ends
    (chain_append r₂ (End to) ns y ys (End to) left_2 right_2)

pub stands_moved : {N L : ℕ} {r r₁ r₂ r₃ : Rings N L} {links : List (List ℕ)} (from to y : ℕ) (ys : List ℕ) → StandsFor r links → from < L → to < L → from ≢ to → list_at links from ≡ y ∷ ys → Joins r r₁ (place_before r (End to)) (place_after r (End from)) → Joins r₁ r₂ (place_before r (End from)) (End to) → Joins r₂ r₃ (End from) (End from) → StandsFor r₃ (moved links from to)
stands_moved {N} {L} {r} {r₁} {r₂} {r₃} {links} from to y ys s from_within to_within different split one two three =
    let all = s.shape in
    let from_inside : from < length links = omega (arith, all.count) in
    let to_inside : to < length links = omega (arith, all.count) in
    let source : Chain r (End from) (y ∷ ys) (End from) = subst (λ l. Chain r (End from) l (End from)) split (s.rings from from_within) in
    let first : Joins r r₁ (place_before r (End to)) (Node y) = subst (λ p. Joins r r₁ (place_before r (End to)) p) source.0.after one in
    let whole : Chain r₃ (End to) (list_at links to ++ list_at links from) (End to) =
    subst (λ l. Chain r₃ (End to) (list_at links to ++ l) (End to)) (sym split)
    (joined from to y ys s from_within to_within different split first two three) in
    let on_last = on_before_end s to to_within in
    let on_source = on_before_end s from from_within in
    record {
      shape = shape from to all from_within to_within different;
      rings = λ k k_within. elim (cases_eq k to) [
        | inl same ↦
            subst (λ j. Chain r₃ (End j) (list_at (moved links from to) j) (End j)) (sym same)
            (subst (λ l. Chain r₃ (End to) l (End to)) (sym (moved_to links from to to_inside)) whole)
        | inr not_to ↦ elim (cases_eq k from) [
          | inl same ↦
              subst (λ j. Chain r₃ (End j) (list_at (moved links from to) j) (End j)) (sym same)
              (subst (λ l. Chain r₃ (End from) l (End from)) (sym (moved_from links from to from_inside different)) (record { after = three.after_first; before = three.before_second }))
          | inr not_from ↦
              let off_end = off_other all not_from (on_end links from) in
              subst (λ l. Chain r₃ (End k) l (End k)) (sym (moved_others links from to k not_from not_to))
              (ring_kept three off_end off_end
              (ring_kept two (off_other all not_from on_source) (off_other all not_to (on_end links to))
              (ring_kept one (off_other all not_to on_last) (off_other all not_from (on_after_end s from from_within)) (s.rings k k_within))))
        ]
      ];
      alone = λ m m_below m_free.
          let there : Contains (list_at links to ++ list_at links from) m → ⊥ = λ h. m_free to (subst (λ l. Contains l m) (sym (moved_to links from to to_inside)) h) in
          let was_free : IsFree links m = λ k h. elim (cases_eq k to) [
            | inl same ↦ there (Contains-append_left (list_at links to) (list_at links from) m (subst (λ j. Contains (list_at links j) m) same h))
            | inr not_to ↦ elim (cases_eq k from) [
              | inl same ↦ there (Contains-append_right (list_at links to) (list_at links from) m (subst (λ j. Contains (list_at links j) m) same h))
              | inr not_from ↦ m_free k (subst (λ l. Contains l m) (sym (moved_others links from to k not_from not_to)) h)
            ]
          ] in
          three.after_others (Node m) (node_not_end m from)
          ∙ (two.after_others (Node m) (free_not_on m was_free on_source)
          ∙ (one.after_others (Node m) (free_not_on m was_free on_last) ∙ s.alone m m_below was_free));
    }

-- what the fields show afterwards
pub record Moves {N L : ℕ} (links : List (List ℕ)) (from to : ℕ) (r : Rings N L) : Type 0 where
  pub stands : StandsFor r (lists_of r)
  pub moved_at : list_at (lists_of r) to ≡ list_at links to ++ list_at links from
  pub emptied : list_at (lists_of r) from ≡ []
  pub others : (k : ℕ) → k ≢ from → k ≢ to → list_at (lists_of r) k ≡ list_at links k
  pub kept : (n : ℕ) → IsLinked (lists_of r) n ↔ IsLinked links n

linked_before : (links new : List (List ℕ)) (from to n : ℕ) → list_at new to ≡ list_at links to ++ list_at links from → list_at new from ≡ [] → ((k : ℕ) → k ≢ from → k ≢ to → list_at new k ≡ list_at links k) → IsLinked new n → IsLinked links n
linked_before links new from to n moved_at emptied others linked =
    let k = linked.0 in
    elim (cases_eq k to) [
      | inl same ↦ elim (Contains-append_cases (list_at links to) (list_at links from) n (subst (λ l. Contains l n) moved_at (subst (λ j. Contains (list_at new j) n) same linked.1))) [
        | inl left ↦ (to, left)
        | inr right ↦ (from, right)
      ]
      | inr not_to ↦ elim (cases_eq k from) [
        | inl same ↦ absurd (not_in_nil n (subst (λ l. Contains l n) emptied (subst (λ j. Contains (list_at new j) n) same linked.1)))
        | inr not_from ↦ (k, subst (λ l. Contains l n) (others k not_from not_to) linked.1)
      ]
    ]

linked_after : (links new : List (List ℕ)) (from to n : ℕ) → list_at new to ≡ list_at links to ++ list_at links from → ((k : ℕ) → k ≢ from → k ≢ to → list_at new k ≡ list_at links k) → IsLinked links n → IsLinked new n
linked_after links new from to n moved_at others linked =
    let k = linked.0 in
    elim (cases_eq k to) [
      | inl same ↦ (to, subst (λ l. Contains l n) (sym moved_at) (Contains-append_left (list_at links to) (list_at links from) n (subst (λ j. Contains (list_at links j) n) same linked.1)))
      | inr not_to ↦ elim (cases_eq k from) [
        | inl same ↦ (to, subst (λ l. Contains l n) (sym moved_at) (Contains-append_right (list_at links to) (list_at links from) n (subst (λ j. Contains (list_at links j) n) same linked.1)))
        | inr not_from ↦ (k, subst (λ l. Contains l n) (sym (others k not_from not_to)) linked.1)
      ]
    ]

pub moves : {N L : ℕ} {r r₁ r₂ r₃ : Rings N L} {links : List (List ℕ)} {source target : Neighbours} (from to y : ℕ) → StandsFor r (lists_of r) → lists_of r ≡ links → from < L → to < L → from ≢ to → source ≡ neighbours r (End from) → source.after ≡ Node y → target ≡ neighbours r (End to) → Joins r r₁ target.before source.after → Joins r₁ r₂ source.before (End to) → Joins r₂ r₃ (End from) (End from) → Moves links from to r₃
moves {N} {L} {r} {r₁} {r₂} {r₃} {links} {source} {target} from to y stood shown from_within to_within different source_is first_is target_is one two three =
    let s : StandsFor r links = subst (StandsFor r) shown stood in
    let first : place_after r (End from) ≡ Node y = subst (λ v. v.after ≡ Node y) source_is first_is in
    let parts = first_node from y s from_within first in
    let one' : Joins r r₁ target.before (place_after r (End from)) = subst (λ v. Joins r r₁ target.before v.after) source_is one in
    let one'' : Joins r r₁ (place_before r (End to)) (place_after r (End from)) = subst (λ v. Joins r r₁ v.before (place_after r (End from))) target_is one' in
    let two' : Joins r₁ r₂ (place_before r (End from)) (End to) = subst (λ v. Joins r₁ r₂ v.before (End to)) source_is two in
    let after = stands_moved from to y parts.0 s from_within to_within different parts.1 one'' two' three in
    let now = lists_of-stands after in
    let moved_at : list_at (lists_of r₃) to ≡ list_at links to ++ list_at links from =
    ap (λ l. list_at l to) now ∙ moved_to links from to (omega (arith, s.shape.count)) in
    let emptied : list_at (lists_of r₃) from ≡ [] =
    ap (λ l. list_at l from) now ∙ moved_from links from to (omega (arith, s.shape.count)) different in
    let others : (k : ℕ) → k ≢ from → k ≢ to → list_at (lists_of r₃) k ≡ list_at links k =
    λ k not_from not_to. ap (λ l. list_at l k) now ∙ moved_others links from to k not_from not_to in
    record {
      stands = stands_shown after;
      moved_at = moved_at;
      emptied = emptied;
      others = others;
      kept = λ n. (linked_before links (lists_of r₃) from to n moved_at emptied others, linked_after links (lists_of r₃) from to n moved_at others);
    }
