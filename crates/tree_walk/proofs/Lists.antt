-- Lists of numbers, and marks that tell which numbers are in one.
use Rattle.std.specs.Prelude.{◌≡◌, ℕ, zero, suc, ◌+◌, ◌<◌, ◌==◌, ◌||◌, Bool, true, false, List, [], ◌∷◌, ◌++◌, length, map, count_by, slice_index, slice_index_or, slice_set, replicate}
use Rattle.std.specs.List.{list_any}
use Rattle.std.proofs.Common.{refl, ap, sym, ◌∙◌, arith, inl, inr, cond, append_assoc}
use Rattle.std.proofs.lemmas.Bool.{eqb-true, eq-eqb}
use Rattle.std.proofs.lemmas.List.{length-set, append-nil}
use Rattle.std.proofs.lemmas.List.Sums.{sum_by-set, count_by-le-length}
use Rattle.sls_base.proofs.ListTests.{or_left, or_right, or_cases}
use Rattle.tree_walk.specs.Walk.{is_among, Continues}

-- Marks.

-- one mark more
pub count_marked : (is : List Bool) (i : ℕ) → i < length is → slice_index_or is i false ≡ false → count_by (λ (b : Bool). b) (slice_set is i true) ≡ count_by (λ (b : Bool). b) is + 1
count_marked is i below clear =
    let step = rw clear at (sum_by-set (λ (b : Bool). cond b 1 0) is i true false below) in
    omega (arith, step)

-- where a mark is missing there are fewer than all
pub count_below : (is : List Bool) (i : ℕ) → i < length is → slice_index_or is i false ≡ false → count_by (λ (b : Bool). b) is < length is
count_below is i below clear =
    omega (arith, count_marked is i below clear, count_by-le-length (λ (b : Bool). b) (slice_set is i true), length-set is i true)

-- no mark yet
pub none_marked : (n i : ℕ) → slice_index_or (replicate n false) i false ≡ false
none_marked zero i = refl
none_marked (suc n) zero = refl
none_marked (suc n) (suc i) = none_marked n i

-- Tests.

pub any_map : {X Y : Type 0} (p : Y → Bool) (f : X → Y) (xs : List X) → list_any p (map f xs) ≡ list_any (λ x. p (f x)) xs
any_map p f [] = refl
any_map p f (x ∷ xs) = ap (λ (b : Bool). p (f x) || b) (any_map p f xs)

-- a number that is among some is at one of their places
pub place_among : (numbers : List ℕ) (i : ℕ) → is_among numbers i ≡ true → (k : ℕ) × (k < length numbers) × (slice_index numbers k ≡ i)
place_among [] i e = absurd (cc)
place_among (n ∷ numbers) i e = elim (or_cases (n == i) (is_among numbers i) e) [
  | inl h ↦ (0, omega arith, eqb-true n i h)
  | inr h ↦ let r = place_among numbers i h in (suc r.0, omega arith, r.2)
]

-- what stands at a place is among them
pub among_at : (numbers : List ℕ) (k : ℕ) → k < length numbers → is_among numbers (slice_index numbers k) ≡ true
among_at [] k below = absurd (omega arith)
among_at (n ∷ numbers) zero below = or_left (n == n) (is_among numbers n) (eq-eqb n n refl)
among_at (n ∷ numbers) (suc k) below = or_right (n == slice_index numbers k) (is_among numbers (slice_index numbers k)) (among_at numbers k (omega arith))

-- Lists that go on.

pub Continues-same : (numbers : List ℕ) → Continues numbers numbers
Continues-same numbers = record { others = []; is = sym (append-nil numbers) }

pub Continues-more : (a b c : List ℕ) → Continues a b → Continues b c → Continues a c
Continues-more a b c ab bc = record { others = ab.others ++ bc.others; is = bc.is ∙ (ap (λ (l : List ℕ). l ++ bc.others) ab.is ∙ append_assoc a ab.others bc.others) }
