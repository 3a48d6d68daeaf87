-- What is reached is the least set that is closed under the edges.
use Rattle.std.specs.Prelude.{◌≡◌, ◌⊎◌, ◌↔◌, ℕ, zero, suc, ◌+◌, ◌-◌, ◌<◌, ◌≤◌, nat_lt, Bool, true, false, ◌&&◌, ◌||◌, List, [], ◌∷◌, length, filter}
use Rattle.std.specs.List.{list_any}
use Rattle.std.proofs.Common.{refl, ap, arith, inl, inr, sym, ◌∙◌}
use Rattle.std.proofs.lemmas.Bool.{cases_Bool, lt-ltb, ltb-true}
use Rattle.std.proofs.lemmas.Bool.Decides.{nat_tests}
use Rattle.std.proofs.lemmas.List.FromFn.{length-range_with_len}
use Rattle.sls_base.specs.declared.limits.TheConstants.{OBJECTS}
use Rattle.sls_base.specs.declared.fixed.TheConstants.{FIRST_PROGRAM_OBJECT}
use Rattle.plain_model.specs.Objects.{every_object}
use Rattle.plain_model.specs.States.{State}
use Rattle.plain_model.specs.Sweep.{leads_to, is_within, is_reached}
use Rattle.plain_laws.specs.Laws.{HasFixed, IsClosed, IsLeast, Reaches, fixed, led}
use Rattle.sls_base.proofs.ListTests.{IsIn, here, there, or_left, or_right, or_cases, and_both, and_left, and_right, any_in, in_any, any_same, in_range, range_in}

-- whether an object leads to another that a path of at most n edges leads to
abbrev pub step_from : State → ℕ → ℕ → ℕ → Bool
step_from s n i from = is_within s n from && leads_to (s.objects from) i

pub within_suc : (s : State) (n i : ℕ) → is_within s (suc n) i ≡ (is_within s n i || list_any (step_from s n i) every_object)
unfolding is_within
within_suc s n i = refl

pub within_zero : (s : State) (i : ℕ) → is_within s zero i ≡ nat_lt i FIRST_PROGRAM_OBJECT
unfolding is_within
within_zero s i = refl

-- numbers of objects

pub is_object : (i : ℕ) → i < OBJECTS → IsIn i every_object
unfolding every_object
is_object i l = in_range 0 OBJECTS i (omega arith) (omega arith)

pub object_below : (i : ℕ) → IsIn i every_object → i < OBJECTS
unfolding every_object
object_below i h = let r = range_in 0 OBJECTS i h in omega (arith, r.1)

pub every_object_length : length every_object ≡ OBJECTS
unfolding every_object
every_object_length = length-range_with_len 0 OBJECTS

-- more edges lead to no less

pub within_more : (s : State) (n i : ℕ) → is_within s n i ≡ true → is_within s (suc n) i ≡ true
within_more s n i e = rw within_suc (or_left (is_within s n i) (list_any (step_from s n i) every_object) e)

pub within_by : (s : State) (n k i : ℕ) → is_within s n i ≡ true → is_within s (n + k) i ≡ true
within_by s n zero i e = rw (let z : n + 0 ≡ n = omega arith in z) e
within_by s n (suc k) i e =
    let z : n + suc k ≡ suc (n + k) = omega arith in
    rw z (within_more s (n + k) i (within_by s n k i e))

pub within_up : (s : State) (n m i : ℕ) → n ≤ m → is_within s n i ≡ true → is_within s m i ≡ true
within_up s n m i l e =
    let z : n + (m - n) ≡ m = omega arith in
    rw z at (within_by s n (m - n) i e)

pub fixed_within : (s : State) (n i : ℕ) → i < FIRST_PROGRAM_OBJECT → is_within s n i ≡ true
fixed_within s n i l = within_up s zero n i (omega arith) (rw within_zero (lt-ltb i FIRST_PROGRAM_OBJECT l))

-- an edge leads one further

pub within_step : (s : State) (n from i : ℕ) → from < OBJECTS → is_within s n from ≡ true → leads_to (s.objects from) i ≡ true → is_within s (suc n) i ≡ true
within_step s n from i l e f =
    rw within_suc (or_right (is_within s n i) (list_any (step_from s n i) every_object) (any_in (step_from s n i) every_object from (is_object from l) (and_both (is_within s n from) (leads_to (s.objects from) i) e f)))

-- Least: a path leads to what is within, and each set that is closed has what a path leads to.

pub within_reaches : (s : State) (n i : ℕ) → is_within s n i ≡ true → Reaches s i
within_reaches s zero i e = fixed (ltb-true i FIRST_PROGRAM_OBJECT (rw within_zero at e))
within_reaches s (suc n) i e = elim (or_cases (is_within s n i) (list_any (step_from s n i) every_object) (rw within_suc at e)) [
  | inl h ↦ within_reaches s n i h
  | inr h ↦ let r = in_any (step_from s n i) every_object h in
      led (within_reaches s n r.0 (and_left (is_within s n r.0) (leads_to (s.objects r.0) i) r.2)) (object_below r.0 r.1) (and_right (is_within s n r.0) (leads_to (s.objects r.0) i) r.2)
]

pub reaches_least : (s : State) (set : ℕ → Bool) → HasFixed set → IsClosed s set → (i : ℕ) → Reaches s i → set i ≡ true
reaches_least s set has closed i (fixed l) = has i l
reaches_least s set has closed i (led {from = from} r l e) = closed from i l (reaches_least s set has closed from r) e

-- Closed: after as many edges as there are objects nothing new is reached, since each edge that reaches something new reaches one
-- object more.

-- one edge more reaches no other object
pub record IsStable (s : State) (n : ℕ) : Type 0 where
  pub at : (i : ℕ) → IsIn i every_object → is_within s (suc n) i ≡ is_within s n i

pub later_false : (a b : Bool) → (a || b) ≡ false → b ≡ false
later_false true b e = absurd (cc)
later_false false b e = e

-- then the edge after it reaches nothing new
pub stable_next : (s : State) (n i : ℕ) → IsStable s n → is_within s (suc (suc n)) i ≡ is_within s (suc n) i
stable_next s n i h =
    let same : list_any (step_from s (suc n) i) every_object ≡ list_any (step_from s n i) every_object = any_same (step_from s (suc n) i) (step_from s n i) every_object (λ from j. ap (λ (b : Bool). b && leads_to (s.objects from) i) (h.at from j)) in
    elim (cases_Bool (is_within s (suc n) i)) [
      | inl e ↦ within_more s (suc n) i e ∙ sym e
      | inr e ↦
          let parts : (is_within s n i || list_any (step_from s n i) every_object) ≡ false = sym (within_suc s n i) ∙ e in
          within_suc s (suc n) i ∙ rw (e, same) (later_false (is_within s n i) (list_any (step_from s n i) every_object) parts)
    ]

-- how many pass a test
abbrev pub count_by : (ℕ → Bool) → List ℕ → ℕ
count_by p xs = length (filter p xs)

-- how many are within
abbrev pub reach : State → ℕ → ℕ
reach s n = count_by (is_within s n) every_object

-- of two tests of which one implies the other, the weaker one counts no less, and where both count alike they agree

pub count_more : (p q : ℕ → Bool) (xs : List ℕ) → ((x : ℕ) → p x ≡ true → q x ≡ true) → count_by p xs ≤ count_by q xs
count_more p q [] h = omega arith
count_more p q (x ∷ xs) h = elim (cases_Bool (p x)) [
  | inl e ↦ let f = h x e in let more = count_more p q xs h in rw (e, f) (omega arith)
  | inr e ↦ let more = count_more p q xs h in elim (cases_Bool (q x)) [
    | inl f ↦ rw (e, f) (omega arith)
    | inr f ↦ rw (e, f) (omega arith)
  ]
]

pub alike_at : (p q : ℕ → Bool) (y : ℕ) (xs : List ℕ) (x : ℕ) → IsIn x (y ∷ xs) → q y ≡ p y → (IsIn x xs → q x ≡ p x) → q x ≡ p x
alike_at p q y xs x here e rest = e
alike_at p q y xs x (there i) e rest = rest i

pub count_alike : (p q : ℕ → Bool) (xs : List ℕ) → ((x : ℕ) → p x ≡ true → q x ≡ true) → count_by q xs ≤ count_by p xs → (x : ℕ) → IsIn x xs → q x ≡ p x
count_alike p q [] h le x i = elim i [ ]
count_alike p q (y ∷ xs) h le x i = elim (cases_Bool (p y)) [
  | inl e ↦ let f = h y e in
      let rest : count_by q xs ≤ count_by p xs = (let l = rw (e, f) at le in omega arith) in
      alike_at p q y xs x i (f ∙ sym e) (λ j. count_alike p q xs h rest x j)
  | inr e ↦ elim (cases_Bool (q y)) [
    | inl f ↦ let l = rw (e, f) at le in let more = count_more p q xs h in absurd (omega arith)
    | inr f ↦ let rest : count_by q xs ≤ count_by p xs = (let l = rw (e, f) at le in omega arith) in
        alike_at p q y xs x i (f ∙ sym e) (λ j. count_alike p q xs h rest x j)
  ]
]

pub count_bound : (p : ℕ → Bool) (xs : List ℕ) → count_by p xs ≤ length xs
count_bound p [] = omega arith
count_bound p (x ∷ xs) = let r = count_bound p xs in elim (cases_Bool (p x)) [
  | inl e ↦ rw e (omega arith)
  | inr e ↦ rw e (omega arith)
]

pub count_some : (p : ℕ → Bool) (xs : List ℕ) (x : ℕ) → IsIn x xs → p x ≡ true → 1 ≤ count_by p xs
count_some p [] x i e = elim i [ ]
count_some p (y ∷ xs) x here e = rw e (omega arith)
count_some p (y ∷ xs) x (there i) e = let r = count_some p xs x i e in elim (cases_Bool (p y)) [
  | inl f ↦ rw f (omega arith)
  | inr f ↦ rw f r
]

pub cases_lt : (a b : ℕ) → (a < b) ⊎ (b ≤ a)
cases_lt a b = elim (cases_Bool (nat_lt a b)) [
  | inl e ↦ inl (ltb-true a b e)
  | inr e ↦ inr (grind (arith, nat_tests))
]

-- it is stable, or more are within than there were edges
pub stable_or_more : (s : State) (n : ℕ) → IsStable s n ⊎ (suc n ≤ reach s n)
stable_or_more s zero = inr (count_some (is_within s zero) every_object 0 (is_object 0 (omega arith)) (fixed_within s zero 0 (omega arith)))
stable_or_more s (suc n) = elim (stable_or_more s n) [
  | inl h ↦ inl (record { at = λ i j. stable_next s n i h })
  | inr h ↦ elim (cases_lt (reach s n) (reach s (suc n))) [
    | inl l ↦ inr (omega arith)
    | inr l ↦ inl (record { at = λ i j. stable_next s n i (record { at = count_alike (is_within s n) (is_within s (suc n)) every_object (within_more s n) l }) })
  ]
]

-- with one edge for each object but one nothing new is reached
pub stable_in_time : (s : State) (n : ℕ) → suc n ≡ OBJECTS → IsStable s n
stable_in_time s n e = elim (stable_or_more s n) [
  | inl h ↦ h
  | inr h ↦
      let bound = count_bound (is_within s (suc n)) every_object in
      let full : reach s (suc n) ≤ reach s n = omega (arith, every_object_length) in
      record { at = count_alike (is_within s n) (is_within s (suc n)) every_object (within_more s n) full }
]

pub within_closed : (s : State) (n from i : ℕ) → suc n ≡ OBJECTS → from < OBJECTS → is_within s (suc n) from ≡ true → leads_to (s.objects from) i ≡ true → is_within s (suc n) i ≡ true
within_closed s n from i e l f g = sym (stable_next s n i (stable_in_time s n e)) ∙ within_step s (suc n) from i l f g

pub objects_suc : suc 127 ≡ OBJECTS
objects_suc = refl

pub reached_least : (s : State) → IsLeast s
unfolding is_reached
reached_least s = record {
  fixed = λ i l. fixed_within s OBJECTS i l;
  closed = λ from i l e f. within_closed s 127 from i objects_suc l e f;
  least = λ set has closed i e. reaches_least s set has closed i (within_reaches s OBJECTS i e);
}

-- what is reached is what a path leads to
pub reached_exactly : (s : State) (i : ℕ) → (is_reached s i ≡ true) ↔ Reaches s i
unfolding is_reached
reached_exactly s i =
    let least = reached_least s in
    (within_reaches s OBJECTS i, reaches_least s (is_reached s) least.fixed least.closed i)
