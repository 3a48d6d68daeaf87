-- A walk along a list of threads: those that it has passed, and those that are ahead.
use Rattle.std.specs.Prelude.{◌≡◌, ℕ, suc, ◌+◌, ◌<◌, ◌==◌, nat_eq, if◌then◌else◌, List, [], ◌∷◌, ◌++◌, length, slice_get, Option, Some, None}
use Rattle.std.specs.List.{IsDistinct}
use Rattle.std.proofs.Common.{refl, ap, ◌∙◌, arith, add-one, length-append}
use Rattle.std.proofs.Math.Seq.{get_or-append_seam}
use Rattle.std.proofs.lemmas.Bool.{eq-eqb}
use Rattle.std.proofs.lemmas.List.{append-nil}
use Rattle.std.proofs.lemmas.Map.Keys.{apart_from_distinct, IsDistinct-tail}

-- The walk stands at the first of those that are ahead, if there is one.
pub record Along (threads passed ahead : List ℕ) (at : Option ℕ) : Type 0 where
  pub whole : threads ≡ passed ++ ahead
  pub here : at ≡ slice_get ahead 0

pub along_begins : (threads : List ℕ) → Along threads [] threads (slice_get threads 0)
along_begins threads = record { whole = refl; here = refl }

-- where it stands at a thread, that is the first ahead
pub rest_ahead : (threads passed ahead : List ℕ) (id : ℕ) → Along threads passed ahead (Some id) → (rest : List ℕ) × (ahead ≡ id ∷ rest)
rest_ahead threads passed [] id along = absurd (cc along.here)
rest_ahead threads passed (first ∷ rest) id along = (rest, ap (λ (n : ℕ). n ∷ rest) (let e : first ≡ id = cc along.here in e))

-- where it stands at none, none is ahead: it has passed all

pub none_ahead : (threads passed ahead : List ℕ) → Along threads passed ahead None → ahead ≡ []
none_ahead threads passed [] along = refl
none_ahead threads passed (first ∷ rest) along = absurd (cc along.here)

pub all_passed : (threads passed ahead : List ℕ) → Along threads passed ahead None → threads ≡ passed
all_passed threads passed ahead along =
    along.whole ∙ (ap (λ (l : List ℕ). passed ++ l) (none_ahead threads passed ahead along) ∙ append-nil passed)

at_seam : (passed rest : List ℕ) (id : ℕ) → slice_get (passed ++ id ∷ rest) (length passed) ≡ Some id
at_seam [] rest id = refl
at_seam (x ∷ passed) rest id = at_seam passed rest id

behind_seam : (passed rest : List ℕ) (id : ℕ) → slice_get (passed ++ id ∷ rest) (suc (length passed)) ≡ slice_get rest 0
behind_seam [] rest id = refl
behind_seam (x ∷ passed) rest id = behind_seam passed rest id

-- the thread behind this one is the first of the rest
pub next_ahead : (passed rest : List ℕ) (id : ℕ) (next : Option ℕ) → ((k : ℕ) → slice_get (passed ++ id ∷ rest) k ≡ Some id → next ≡ slice_get (passed ++ id ∷ rest) (k + 1)) →
    next ≡ slice_get rest 0
next_ahead passed rest id next says =
    says (length passed) (at_seam passed rest id) ∙ (ap (slice_get (passed ++ id ∷ rest)) (add-one (length passed)) ∙ behind_seam passed rest id)

-- how many are ahead, by the thread at which the walk stands

from : List ℕ → ℕ → ℕ
from [] id = 0
from (x ∷ threads) id = if x == id then suc (length threads) else from threads id

pub left_from : List ℕ → Option ℕ → ℕ
left_from threads None = 0
left_from threads (Some id) = from threads id

from_here : (passed rest : List ℕ) (id : ℕ) → IsDistinct nat_eq (passed ++ id ∷ rest) → from (passed ++ id ∷ rest) id ≡ suc (length rest)
unfolding from
from_here [] rest id distinct = rw (eq-eqb id id refl) refl
from_here (x ∷ passed) rest id distinct =
    let place : suc (length passed) < length (x ∷ passed ++ id ∷ rest) = omega (arith, length-append passed (id ∷ rest)) in
    let apart = apart_from_distinct nat_eq (x ∷ passed ++ id ∷ rest) 0 (suc (length passed)) 0 distinct (omega arith) place in
    let other = rw (get_or-append_seam passed id rest 0) at apart in
    rw other (from_here passed rest id (IsDistinct-tail nat_eq x (passed ++ id ∷ rest) distinct))

pub left_ahead : (threads passed ahead : List ℕ) (at : Option ℕ) → IsDistinct nat_eq threads → Along threads passed ahead at → left_from threads at ≡ length ahead
unfolding left_from
left_ahead threads passed [] at distinct along = rw along.here refl
left_ahead threads passed (id ∷ rest) at distinct along =
    let distinct_so = rw along.whole at distinct in
    rw (along.here, along.whole) (from_here passed rest id distinct_so)
