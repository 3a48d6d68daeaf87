-- Chains of places, and what a join leaves of them.
use Rattle.std.proofs.Common.{◌≡◌, ◌≢◌, ℕ, zero, suc, ◌≤◌, List, [], ◌∷◌, ◌++◌, length, eqb, ap, sym, ◌∙◌, subst, inl, inr, ◌⊎◌, arith, refl}
use Rattle.std.specs.List.{IsDistinct, Contains}
use Rattle.link_lists.specs.declared.rings.RingPlace.{RingPlace}
use Rattle.link_lists.specs.declared.rings.RingPlace.TheVariants.{Node, End}
use Rattle.link_lists.specs.declared.rings.Rings.{Rings}
use Rattle.link_lists.specs.Rings.{Joins, IsBeside, Chain, place_after, place_before, nodes_from}
use Rattle.link_lists.proofs.Members.{in_here, in_rest, distinct_head, distinct_rest}

pub node_not_end : (n i : ℕ) → Node n ≢ End i
node_not_end n i same = cc

pub end_not_node : (i n : ℕ) → End i ≢ Node n
end_not_node i n same = cc

pub same_node : (m n : ℕ) → Node m ≡ Node n → m ≡ n
same_node m n same = cc

pub same_end : (i j : ℕ) → End i ≡ End j → i ≡ j
same_end i j same = cc

-- two places stay beside each other where a join is elsewhere
beside_kept : {N L : ℕ} {old new : Rings N L} {p q : RingPlace} (j : Joins old new p q) (s t : RingPlace) → s ≢ p → t ≢ q → IsBeside old s t → IsBeside new s t
beside_kept j s t not_first not_second b =
    record { after = j.after_others s not_first ∙ b.after; before = j.before_others t not_second ∙ b.before }

-- none of these places
pub record Misses (ns : List ℕ) (p : RingPlace) : Type 0 where
  pub miss : (n : ℕ) → Contains ns n → Node n ≢ p

pub misses_rest : {n : ℕ} {ns : List ℕ} {p : RingPlace} → Misses (n ∷ ns) p → Misses ns p
misses_rest {n} {ns} {p} m = record { miss = λ k h. m.miss k (in_rest k n ns h) }

pub misses_end : (ns : List ℕ) (i : ℕ) → Misses ns (End i)
misses_end ns i = record { miss = λ n h. node_not_end n i }

pub misses_node : (ns : List ℕ) (n : ℕ) → (Contains ns n → ⊥) → Misses ns (Node n)
misses_node ns n none = record { miss = λ k h same. none (subst (Contains ns) (same_node k n same) h) }

-- a chain stays where a join is elsewhere
pub chain_kept : {N L : ℕ} {old new : Rings N L} {p q : RingPlace} (j : Joins old new p q) (s : RingPlace) (ns : List ℕ) (e : RingPlace) → s ≢ p → Misses ns p → Misses ns q → e ≢ q → Chain old s ns e → Chain new s ns e
chain_kept j s [] e start first second stop c = beside_kept j s e start stop c
chain_kept j s (n ∷ ns) e start first second stop c = (
  beside_kept j s (Node n) start (second.miss n (in_here n ns)) c.0,
  chain_kept j (Node n) ns e (first.miss n (in_here n ns)) (misses_rest first) (misses_rest second) stop c.1,
)

-- two chains that meet at a node are one, and the other way round
pub chain_append : {N L : ℕ} (r : Rings N L) (s : RingPlace) (ms : List ℕ) (n : ℕ) (ns : List ℕ) (e : RingPlace) → Chain r s ms (Node n) → Chain r (Node n) ns e → Chain r s (ms ++ n ∷ ns) e
chain_append r s [] n ns e left right = (left, right)
chain_append r s (m ∷ ms) n ns e left right = (left.0, chain_append r (Node m) ms n ns e left.1 right)

pub chain_left : {N L : ℕ} (r : Rings N L) (s : RingPlace) (ms : List ℕ) (n : ℕ) (ns : List ℕ) (e : RingPlace) → Chain r s (ms ++ n ∷ ns) e → Chain r s ms (Node n)
chain_left r s [] n ns e c = c.0
chain_left r s (m ∷ ms) n ns e c = (c.0, chain_left r (Node m) ms n ns e c.1)

pub chain_right : {N L : ℕ} (r : Rings N L) (s : RingPlace) (ms : List ℕ) (n : ℕ) (ns : List ℕ) (e : RingPlace) → Chain r s (ms ++ n ∷ ns) e → Chain r (Node n) ns e
chain_right r s [] n ns e c = c.1
chain_right r s (m ∷ ms) n ns e c = chain_right r (Node m) ms n ns e c.1

-- the place before a chain's stop is its start or one of its nodes
pub before_stop : {N L : ℕ} (r : Rings N L) (s : RingPlace) (ns : List ℕ) (e : RingPlace) → Chain r s ns e → (place_before r e ≡ s) ⊎ ((n : ℕ) × Contains ns n × (place_before r e ≡ Node n))
before_stop r s [] e c = inl c.before
before_stop r s (n ∷ ns) e c =
    elim (before_stop r (Node n) ns e c.1) [
      | inl is ↦ inr (n, in_here n ns, is)
      | inr (m, h, is) ↦ inr (m, in_rest m n ns h, is)
    ]

-- so a place that is neither isn't before the stop
pub not_before_stop : {N L : ℕ} (r : Rings N L) (s : RingPlace) (ns : List ℕ) (e p : RingPlace) → Chain r s ns e → p ≢ s → Misses ns p → p ≢ place_before r e
not_before_stop r s ns e p c start others same =
    elim (before_stop r s ns e c) [
      | inl is ↦ start (same ∙ is)
      | inr (n, h, is) ↦ others.miss n h (sym (same ∙ is))
    ]

-- the place after a chain's start is its stop or its first node
pub after_start : {N L : ℕ} (r : Rings N L) (s : RingPlace) (ns : List ℕ) (e : RingPlace) → Chain r s ns e → (place_after r s ≡ e) ⊎ ((n : ℕ) × Contains ns n × (place_after r s ≡ Node n))
after_start r s [] e c = inl c.after
after_start r s (n ∷ ns) e c = inr (n, in_here n ns, c.0.after)

-- what a node or an end after the start says of a chain to an end
pub node_after_start : {N L : ℕ} (r : Rings N L) (s : RingPlace) (ns : List ℕ) (i n : ℕ) → Chain r s ns (End i) → place_after r s ≡ Node n → (rest : List ℕ) × (ns ≡ n ∷ rest)
node_after_start r s [] i n c is = absurd (end_not_node i n (sym c.after ∙ is))
node_after_start r s (m ∷ ns) i n c is = (ns, ap (λ k. k ∷ ns) (same_node m n (sym c.0.after ∙ is)))

pub end_after_start : {N L : ℕ} (r : Rings N L) (s : RingPlace) (ns : List ℕ) (i k : ℕ) → Chain r s ns (End i) → place_after r s ≡ End k → (i ≡ k) × (ns ≡ [])
end_after_start r s [] i k c is = (same_end i k (sym c.after ∙ is), refl)
end_after_start r s (m ∷ ns) i k c is = absurd (node_not_end m k (sym c.0.after ∙ is))

-- a chain goes to another stop, where the place before its stop is joined to that one
pub chain_to : {N L : ℕ} {old new : Rings N L} {q : RingPlace} (s : RingPlace) (ns : List ℕ) (e : RingPlace) → Joins old new (place_before old e) q → IsDistinct eqb ns → Misses ns s → Misses ns q → Chain old s ns e → Chain new s ns q
chain_to {N} {L} {old} {new} {q} s [] e j distinct start stop c =
    record {
      after = subst (λ p. place_after new p ≡ q) c.before j.after_first;
      before = j.before_second ∙ c.before;
    }
chain_to {N} {L} {old} {new} {q} s (n ∷ ns) e j distinct start stop c =
    let apart : Misses ns (Node n) = misses_node ns n (distinct_head n ns distinct) in
    let ahead : s ≢ place_before old e =
    not_before_stop old (Node n) ns e s c.1 (λ same. start.miss n (in_here n ns) (sym same)) (misses_rest start) in (
      beside_kept j s (Node n) ahead (stop.miss n (in_here n ns)) c.0,
      chain_to (Node n) ns e j (distinct_rest n ns distinct) apart (misses_rest stop) c.1,
    )

-- the walk along a chain meets its nodes
pub nodes_from-chain : {N L : ℕ} (r : Rings N L) (most : ℕ) (s : RingPlace) (ns : List ℕ) (i : ℕ) → Chain r s ns (End i) → length ns ≤ most → nodes_from r most (place_after r s) ≡ ns
nodes_from-chain r zero s [] i c fits = refl
nodes_from-chain r (suc most) s [] i c fits = rw c.after refl
nodes_from-chain r zero s (n ∷ ns) i c fits = absurd (omega (arith, fits))
nodes_from-chain r (suc most) s (n ∷ ns) i c fits =
    rw c.0.after (ap (λ ks. n ∷ ks) (nodes_from-chain r most (Node n) ns i c.1 (omega (arith, fits))))
