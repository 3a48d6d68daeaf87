-- Lists of threads that are in range.
use Rattle.std.proofs.Common.{◌≡◌, ◌≢◌, ℕ, zero, suc, ◌+◌, ◌<◌, ◌≤◌, ◌==◌, cond, Bool, List, [], ◌∷◌, length, get_or, refl, ap, sym, ◌∙◌, subst, arith}
use Rattle.std.specs.Prelude.{slice_get, None}
use Rattle.std.proofs.lemmas.Option.{none-some}
use Rattle.std.specs.List.{All, AllPairs}
use Rattle.std.proofs.lemmas.Bool.{eqb-true, eq-eqb}
use Rattle.std.proofs.lemmas.Bool.Decides.{Decides-eqb}
use Rattle.std.proofs.lemmas.List.Elements.{All-contains, Contains-get_or}
use Rattle.std.proofs.lemmas.List.Sums.{sum_by-cons}
use Rattle.std.proofs.lemmas.Map.Made.{IsDistinct-from_AllPairs, AllPairs-from_IsDistinct}
use Rattle.std.proofs.lemmas.Map.Steps.{length-le_from_distinct_below}
use Rattle.std.proofs.lemmas.Map.Views.{Contains-from_any}
use Rattle.sls_base.specs.declared.limits.TheConstants.{OBJECTS}
use Rattle.link_lists.specs.Lists.{list_at, IsLinks}
use Rattle.plain_laws.specs.Places.{times}
use Rattle.kobj_codec.specs.Objects.{IsList}

-- numbers below 128, of which no two are the same, are at most 128
pub list_of_apart : (ids : List ℕ) → All (λ id. id < OBJECTS) ids → AllPairs (λ a b. a ≢ b) ids → IsList ids
list_of_apart ids below distinct = record {
  most = length-le_from_distinct_below ids OBJECTS (IsDistinct-from_AllPairs Decides-eqb ids distinct)
      (λ q found. All-contains (λ id. id < OBJECTS) ids q below (Contains-from_any (λ x y e. eqb-true x y e) q ids found));
  below = below;
  distinct = distinct;
}

-- each list of those that are linked is so
pub list_of_links : (links : List (List ℕ)) (i : ℕ) → IsLinks OBJECTS OBJECTS links → IsList (list_at links i)
list_of_links links i linked =
    list_of_apart (list_at links i) (λ k d inside. linked.below i (get_or (list_at links i) k d) (Contains-get_or (list_at links i) k d inside))
    (AllPairs-from_IsDistinct Decides-eqb (list_at links i) (linked.distinct i))

-- how often a number stands in a list with one more in front
times_next : (id x : ℕ) (ids : List ℕ) → times id (x ∷ ids) ≡ cond (x == id) 1 0 + times id ids
times_next id x ids = sum_by-cons (λ other. cond (other == id) 1 0) x ids

times_front : (x : ℕ) (ids : List ℕ) → times x (x ∷ ids) ≡ 1 + times x ids
times_front x ids = times_next x x ids ∙ ap (λ (b : Bool). cond b 1 0 + times x ids) (eq-eqb x x refl)

-- a number of a list stands there
pub stands_there : (ids : List ℕ) (k d : ℕ) → k < length ids → 1 ≤ times (get_or ids k d) ids
stands_there [] k d inside = absurd (omega arith)
stands_there (x ∷ ids) zero d inside = let front = times_front x ids in let goal : 1 ≤ times x (x ∷ ids) = omega arith in goal
stands_there (x ∷ ids) (suc k) d inside =
    let next = times_next (get_or ids k d) x ids in
    let there = stands_there ids k d (omega arith) in
    let goal : 1 ≤ times (get_or ids k d) (x ∷ ids) = omega arith in goal

-- a number that stands at two places is there twice
twice_there : (ids : List ℕ) (i j d : ℕ) → i < j → j < length ids → get_or ids i d ≡ get_or ids j d → 2 ≤ times (get_or ids i d) ids
twice_there [] i j d lt inside same = absurd (omega arith)
twice_there (x ∷ ids) zero zero d lt inside same = absurd (omega arith)
twice_there (x ∷ ids) zero (suc j) d lt inside same =
    let front = times_front x ids in
    let there : 1 ≤ times x ids = subst (λ id. 1 ≤ times id ids) (sym same) (stands_there ids j d (omega arith)) in
    let goal : 2 ≤ times x (x ∷ ids) = omega arith in goal
twice_there (x ∷ ids) (suc i) zero d lt inside same = absurd (omega arith)
twice_there (x ∷ ids) (suc i) (suc j) d lt inside same =
    let next = times_next (get_or ids i d) x ids in
    let there = twice_there ids i j d (omega arith) (omega arith) same in
    let goal : 2 ≤ times (get_or ids i d) (x ∷ ids) = omega arith in goal

-- numbers below 128, each once
pub list_of_once : (ids : List ℕ) → ((id : ℕ) → times id ids ≤ 1) → ((id : ℕ) → 1 ≤ times id ids → id < OBJECTS) → IsList ids
list_of_once ids once below =
    list_of_apart ids (λ k d inside. below (get_or ids k d) (stands_there ids k d inside))
    (λ i j d lt inside same. let twice = twice_there ids i j d lt inside same in let one = once (get_or ids i d) in absurd (omega arith))

-- where nothing is at a place, the list ends before it
pub none_behind : (ids : List ℕ) (n : ℕ) → slice_get ids n ≡ None → length ids ≤ n
none_behind [] n none = omega arith
none_behind (x ∷ ids) zero none = absurd (none-some x (sym none))
none_behind (x ∷ ids) (suc n) none = let more = none_behind ids n none in omega (arith, more)
