-- What new rings stand for.
use Rattle.std.proofs.Common.{◌≡◌, ℕ, List, [], replicate, eqb, ap, sym, ◌∙◌, subst, inl, inr, arith}
use Rattle.std.proofs.lemmas.Bool.{cases_lt}
use Rattle.std.proofs.lemmas.List.{get_or_past, get_or-replicate, length-replicate}
use Rattle.std.specs.List.{Contains, IsDistinct}
use Rattle.link_lists.specs.declared.rings.RingPlace.{RingPlace}
use Rattle.link_lists.specs.declared.rings.RingPlace.TheVariants.{Node, End}
use Rattle.link_lists.specs.declared.rings.Rings.{Rings}
use Rattle.link_lists.specs.Lists.{list_at, IsLinks}
use Rattle.link_lists.specs.Rings.{IsRingPlace, Chain, StandsFor, neighbours, lists_of}
use Rattle.link_lists.proofs.Members.{not_in_nil, distinct_nil}
use Rattle.link_lists.proofs.Stands.{lists_of-stands, stands_shown}

empty_list : (lists i : ℕ) → list_at (replicate lists []) i ≡ []
empty_list lists i =
    elim (cases_lt i lists) [
      | inl within ↦ get_or-replicate lists i [] [] within
      | inr past ↦ get_or_past (replicate lists []) i [] (omega (arith, length-replicate {A = List ℕ} lists []))
    ]

nothing_in : (lists i n : ℕ) → Contains (list_at (replicate lists []) i) n → ⊥
nothing_in lists i n h = not_in_nil n (subst (λ l. Contains l n) (empty_list lists i) h)

shape : (nodes lists : ℕ) → IsLinks nodes lists (replicate lists [])
shape nodes lists =
    record {
      count = length-replicate lists [];
      below = λ i n h. absurd (nothing_in lists i n h);
      distinct = λ i. subst (IsDistinct eqb) (sym (empty_list lists i)) distinct_nil;
      apart = λ i j n h there. absurd (nothing_in lists i n h);
    }

-- what the fields show
pub record Empties {N L : ℕ} (r : Rings N L) : Type 0 where
  pub stands : StandsFor r (lists_of r)
  pub empty : (i : ℕ) → list_at (lists_of r) i ≡ []

pub empties : {N L : ℕ} (r : Rings N L) → ((p : RingPlace) → IsRingPlace N L p → neighbours r p ≡ record { before = p; after = p }) → Empties r
empties {N} {L} r alone =
    let s : StandsFor r (replicate L []) =
    record {
      shape = shape N L;
      rings = λ i within. subst (λ l. Chain r (End i) l (End i)) (sym (empty_list L i))
          (record { after = ap (λ v. v.after) (alone (End i) within); before = ap (λ v. v.before) (alone (End i) within) });
      alone = λ n below _. ap (λ v. v.after) (alone (Node n) below);
    } in
    record {
      stands = stands_shown s;
      empty = λ i. ap (λ l. list_at l i) (lists_of-stands s) ∙ empty_list L i;
    }
