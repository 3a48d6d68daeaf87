-- Whether a list loses a thread that vanishes, by a walk along it.
use Rattle.std.specs.Prelude.{◌≡◌, ℕ, ◌+◌, ◌<◌, nat_eq, not, Bool, true, false, List, [], ◌∷◌, ◌++◌, length, slice_get, Option, Some, None, Contains}
use Rattle.std.specs.List.{list_any, IsDistinct}
use Rattle.std.proofs.Common.{refl, ap, sym, ◌∙◌, arith, append_assoc, length-append, subst}
use Rattle.std.proofs.Math.Seq.{get_or-append_seam}
use Rattle.std.proofs.lemmas.List.Folds.{list_any-append}
use Rattle.plain_model.specs.States.{State}
use Rattle.plain_model.specs.Sweep.{loses_any}
use Rattle.sls_base.proofs.ListTests.{or_right}
use Rattle.tree_walk.specs.declared.reached.Reached.{Reached}
use Rattle.tree_walk.specs.Reached.{has, TellsReached}
use Rattle.tree_walk.proofs.Along.{Along, rest_ahead, all_passed, next_ahead, left_from, left_ahead}

abbrev pub vanishes : Reached → ℕ → Bool
vanishes reached id = not (has reached id)

-- A walk has passed no thread that vanishes.
pub record PassesNone (reached : Reached) (threads : List ℕ) (at : Option ℕ) : Type 0 where
  pub passed : List ℕ
  pub ahead : List ℕ
  pub along : Along threads passed ahead at
  pub none : list_any (vanishes reached) passed ≡ false

pub passes_none_yet : (reached : Reached) (threads : List ℕ) (at : Option ℕ) → at ≡ slice_get threads 0 → PassesNone reached threads at
passes_none_yet reached threads at first = record {
  passed = [];
  ahead = threads;
  along = record { whole = refl; here = first };
  none = refl;
}

-- it stands at a thread, with these behind that
pub record StandsAt (reached : Reached) (threads : List ℕ) (id : ℕ) : Type 0 where
  pub passed : List ℕ
  pub rest : List ℕ
  pub whole : threads ≡ passed ++ id ∷ rest
  pub none : list_any (vanishes reached) passed ≡ false

stands_at : (reached : Reached) (threads : List ℕ) (id : ℕ) → PassesNone reached threads (Some id) → StandsAt reached threads id
stands_at reached threads id passes =
    let rest = rest_ahead threads passes.passed passes.ahead id passes.along in
    record {
      passed = passes.passed;
      rest = rest.0;
      whole = passes.along.whole ∙ ap (λ (l : List ℕ). passes.passed ++ l) rest.1;
      none = passes.none;
    }

-- what `next` says of a thread of a list
abbrev pub SaysNext : List ℕ → ℕ → Option ℕ → Type 0
SaysNext threads id next = (k : ℕ) → slice_get threads k ≡ Some id → next ≡ slice_get threads (k + 1)

pub passes_none_on : (reached : Reached) (threads : List ℕ) (id : ℕ) (next : Option ℕ) → PassesNone reached threads (Some id) → has reached id ≡ true → SaysNext threads id next →
    PassesNone reached threads next
passes_none_on reached threads id next passes stays says =
    let s = stands_at reached threads id passes in
    record {
      passed = s.passed ++ id ∷ [];
      ahead = s.rest;
      along = record {
        whole = s.whole ∙ sym (append_assoc s.passed (id ∷ []) s.rest);
        here = next_ahead s.passed s.rest id next (subst (λ (l : List ℕ). SaysNext l id next) s.whole says);
      };
      none = list_any-append (vanishes reached) s.passed (id ∷ []) ∙ rw (s.none, stays) refl;
    }

pub passes_shorter : (reached : Reached) (threads : List ℕ) (id : ℕ) (next : Option ℕ) → IsDistinct nat_eq threads → PassesNone reached threads (Some id) → has reached id ≡ true →
    SaysNext threads id next → left_from threads next < left_from threads (Some id)
passes_shorter reached threads id next distinct passes stays says =
    let s = stands_at reached threads id passes in
    let says_so = subst (λ (l : List ℕ). SaysNext l id next) s.whole says in
    let here = left_ahead threads s.passed (id ∷ s.rest) (Some id) distinct (record { whole = s.whole; here = refl }) in
    let there = left_ahead threads (s.passed ++ id ∷ []) s.rest next distinct
    (record { whole = s.whole ∙ sym (append_assoc s.passed (id ∷ []) s.rest); here = next_ahead s.passed s.rest id next says_so }) in
    omega (arith, here, there)

pub loses_here : (reached : Reached) (threads : List ℕ) (id : ℕ) → PassesNone reached threads (Some id) → has reached id ≡ false → list_any (vanishes reached) threads ≡ true
loses_here reached threads id passes gone =
    let s = stands_at reached threads id passes in
    ap (list_any (vanishes reached)) s.whole
    ∙ (list_any-append (vanishes reached) s.passed (id ∷ s.rest)
    ∙ or_right (list_any (vanishes reached) s.passed) (list_any (vanishes reached) (id ∷ s.rest)) (rw gone refl))

pub loses_none : (reached : Reached) (threads : List ℕ) → PassesNone reached threads None → list_any (vanishes reached) threads ≡ false
loses_none reached threads passes = ap (list_any (vanishes reached)) (all_passed threads passes.passed passes.ahead passes.along) ∙ passes.none

pub loses_alike : (reached : Reached) (s : State) (threads : List ℕ) → TellsReached reached s → list_any (vanishes reached) threads ≡ loses_any s threads
loses_alike reached s [] tells = refl
loses_alike reached s (id ∷ threads) tells = rw (tells id, loses_alike reached s threads tells) refl

pub in_list : (reached : Reached) (threads : List ℕ) (id : ℕ) → PassesNone reached threads (Some id) → Contains threads id
in_list reached threads id passes =
    let s = stands_at reached threads id passes in
    rw s.whole (length s.passed, omega (arith, length-append s.passed (id ∷ s.rest)), get_or-append_seam s.passed id s.rest _)
