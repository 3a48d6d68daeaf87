-- Threads leave a list, in a walk along it.
use Rattle.std.specs.Prelude.{◌≡◌, ◌≢◌, ℕ, suc, ◌<◌, nat_eq, Bool, true, false, List, [], ◌∷◌, ◌++◌, length, filter, slice_get, Option, Some, None, Contains}
use Rattle.std.specs.List.{IsDistinct}
use Rattle.std.proofs.Common.{refl, ap, sym, ◌∙◌, arith, append_assoc, length-append, subst, inl, inr}
use Rattle.std.proofs.Math.Seq.{get_or-append_seam}
use Rattle.std.proofs.lemmas.Bool.{cases_Bool, eq-eqb, ne_eqb, eqb-false}
use Rattle.std.proofs.lemmas.List.{append-nil}
use Rattle.std.proofs.lemmas.List.Elements.{filter-append}
use Rattle.std.proofs.lemmas.Map.Keys.{apart_from_distinct, IsDistinct-tail}
use Rattle.link_lists.specs.Lists.{without}
use Rattle.tree_walk.proofs.Along.{Along, rest_ahead, none_ahead, all_passed, next_ahead, left_from, left_ahead}
use Rattle.tree_walk.proofs.Loses.{SaysNext}

-- who isn't in a list doesn't leave it
pub without_stranger : (id : ℕ) (threads : List ℕ) → (Contains threads id → ⊥) → without id threads ≡ threads
without_stranger id [] strange = refl
without_stranger id (first ∷ threads) strange =
    let other : first ≢ id = λ same. strange (0, omega arith, same) in
    let rest : Contains threads id → ⊥ = λ there. strange (suc there.0, omega (arith, there.1), there.2) in
    rw (ne_eqb first id other, without_stranger id threads rest) refl

-- a list has its first thread once
once_first : (id : ℕ) (rest : List ℕ) → IsDistinct nat_eq (id ∷ rest) → Contains rest id → ⊥
once_first id rest distinct there =
    let place : suc there.0 < length (id ∷ rest) = omega (arith, there.1) in
    let apart = apart_from_distinct nat_eq (id ∷ rest) 0 (suc there.0) id distinct (omega arith) place in
    eqb-false id id (rw there.2 at apart) refl

-- and each that it has before another thread is another
before_other : (x id : ℕ) (passed rest : List ℕ) → IsDistinct nat_eq (x ∷ passed ++ id ∷ rest) → nat_eq x id ≡ false
before_other x id passed rest distinct =
    let place : suc (length passed) < length (x ∷ passed ++ id ∷ rest) = omega (arith, length-append passed (id ∷ rest)) in
    let apart = apart_from_distinct nat_eq (x ∷ passed ++ id ∷ rest) 0 (suc (length passed)) 0 distinct (omega arith) place in
    rw (get_or-append_seam passed id rest 0) at apart

without_seam : (stays : ℕ → Bool) (passed rest : List ℕ) (id : ℕ) → IsDistinct nat_eq (passed ++ id ∷ rest) → without id (filter stays passed ++ id ∷ rest) ≡ filter stays passed ++ rest
without_seam stays [] rest id distinct = rw (eq-eqb id id refl, without_stranger id rest (once_first id rest distinct)) refl
without_seam stays (x ∷ passed) rest id distinct =
    let other = before_other x id passed rest distinct in
    let others = without_seam stays passed rest id (IsDistinct-tail nat_eq x (passed ++ id ∷ rest) distinct) in
    elim (cases_Bool (stays x)) [
      | inl keeps ↦ rw (keeps, other, others) refl
      | inr goes ↦ rw (goes, others) refl
    ]

-- Of the threads that a walk has passed only those are left that stay; those ahead are there still.
pub record Sweeps (stays : ℕ → Bool) (threads now : List ℕ) (at : Option ℕ) : Type 0 where
  pub passed : List ℕ
  pub ahead : List ℕ
  pub along : Along threads passed ahead at
  pub now_is : now ≡ filter stays passed ++ ahead

pub sweeps_yet : (stays : ℕ → Bool) (threads : List ℕ) (at : Option ℕ) → at ≡ slice_get threads 0 → Sweeps stays threads threads at
sweeps_yet stays threads at first = record {
  passed = [];
  ahead = threads;
  along = record { whole = refl; here = first };
  now_is = refl;
}

record SweepsAt (stays : ℕ → Bool) (threads now : List ℕ) (id : ℕ) : Type 0 where
  pub passed : List ℕ
  pub rest : List ℕ
  pub whole : threads ≡ passed ++ id ∷ rest
  pub now_is : now ≡ filter stays passed ++ id ∷ rest

sweeps_at : (stays : ℕ → Bool) (threads now : List ℕ) (id : ℕ) → Sweeps stays threads now (Some id) → SweepsAt stays threads now id
sweeps_at stays threads now id sweeps =
    let rest = rest_ahead threads sweeps.passed sweeps.ahead id sweeps.along in
    record {
      passed = sweeps.passed;
      rest = rest.0;
      whole = sweeps.along.whole ∙ ap (λ (l : List ℕ). sweeps.passed ++ l) rest.1;
      now_is = sweeps.now_is ∙ ap (λ (l : List ℕ). filter stays sweeps.passed ++ l) rest.1;
    }

-- one more is passed
passed_one : (stays : ℕ → Bool) (threads now : List ℕ) (id : ℕ) (next : Option ℕ) (s : SweepsAt stays threads now id) → SaysNext now id next → Along threads (s.passed ++ id ∷ []) s.rest next
passed_one stays threads now id next s says = record {
  whole = s.whole ∙ sym (append_assoc s.passed (id ∷ []) s.rest);
  here = next_ahead (filter stays s.passed) s.rest id next (subst (λ (l : List ℕ). SaysNext l id next) s.now_is says);
}

pub sweeps_in : (stays : ℕ → Bool) (threads now : List ℕ) (id : ℕ) → Sweeps stays threads now (Some id) → Contains threads id
sweeps_in stays threads now id sweeps =
    let s = sweeps_at stays threads now id sweeps in
    rw s.whole (length s.passed, omega (arith, length-append s.passed (id ∷ s.rest)), get_or-append_seam s.passed id s.rest _)

pub sweeps_shorter : (stays : ℕ → Bool) (threads now : List ℕ) (id : ℕ) (next : Option ℕ) → IsDistinct nat_eq threads → Sweeps stays threads now (Some id) → SaysNext now id next →
    left_from threads next < left_from threads (Some id)
sweeps_shorter stays threads now id next distinct sweeps says =
    let s = sweeps_at stays threads now id sweeps in
    let here = left_ahead threads s.passed (id ∷ s.rest) (Some id) distinct (record { whole = s.whole; here = refl }) in
    let there = left_ahead threads (s.passed ++ id ∷ []) s.rest next distinct (passed_one stays threads now id next s says) in
    omega (arith, here, there)

pub sweeps_stays : (stays : ℕ → Bool) (threads now : List ℕ) (id : ℕ) (next : Option ℕ) → Sweeps stays threads now (Some id) → stays id ≡ true → SaysNext now id next →
    Sweeps stays threads now next
sweeps_stays stays threads now id next sweeps keeps says =
    let s = sweeps_at stays threads now id sweeps in
    record {
      passed = s.passed ++ id ∷ [];
      ahead = s.rest;
      along = passed_one stays threads now id next s says;
      now_is = rw (filter-append, keeps, append_assoc) s.now_is;
    }

pub sweeps_leaves : (stays : ℕ → Bool) (threads now : List ℕ) (id : ℕ) (next : Option ℕ) → IsDistinct nat_eq threads → Sweeps stays threads now (Some id) → stays id ≡ false →
    SaysNext now id next → Sweeps stays threads (without id now) next
sweeps_leaves stays threads now id next distinct sweeps goes says =
    let s = sweeps_at stays threads now id sweeps in
    let distinct_so = rw s.whole at distinct in
    record {
      passed = s.passed ++ id ∷ [];
      ahead = s.rest;
      along = passed_one stays threads now id next s says;
      now_is = rw (filter-append, goes, append-nil) (ap (without id) s.now_is ∙ without_seam stays s.passed s.rest id distinct_so);
    }

pub sweeps_all : (stays : ℕ → Bool) (threads now : List ℕ) → Sweeps stays threads now None → now ≡ filter stays threads
sweeps_all stays threads now sweeps =
    let all = all_passed threads sweeps.passed sweeps.ahead sweeps.along in
    let nothing : sweeps.ahead ≡ [] = none_ahead threads sweeps.passed sweeps.ahead sweeps.along in
    sweeps.now_is ∙ (ap (λ (l : List ℕ). filter stays sweeps.passed ++ l) nothing ∙ (append-nil (filter stays sweeps.passed) ∙ ap (filter stays) (sym all)))
