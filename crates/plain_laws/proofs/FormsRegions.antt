-- Forms of objects: the regions of a space.
use Rattle.std.specs.Prelude.{◌≡◌, ◌⊎◌, suc, ◌+◌, ◌<◌, ◌≤◌, nat_lt, Bool, true, false, if◌then◌else◌, List, [], ◌∷◌, length, filter, All, AllPairs}
use Rattle.std.proofs.Common.{refl, ap, arith, inl, inr}
use Rattle.std.proofs.lemmas.Bool.{ltb-true, ltb-false}
use Rattle.std.proofs.lemmas.List.Elements.{All-nil, All-cons, All-head, All-tail, All-weaker}
use Rattle.std.proofs.lemmas.List.Kept.{AllPairs-cons}
use Rattle.plain_state.specs.declared.objects.Region.{Region}
use Rattle.plain_model.specs.Objects.{inserted}
use Rattle.plain_laws.specs.Sound.{IsMapped, IsBefore}

-- Lists.

pub pairs_head : {X : Type 0} (R : X → X → Type 0) (x : X) (xs : List X) → AllPairs R (x ∷ xs) → All (R x) xs
pairs_head R x xs h = λ k d l. h 0 (suc k) d (omega arith) (omega arith)

pub pairs_tail : {X : Type 0} (R : X → X → Type 0) (x : X) (xs : List X) → AllPairs R (x ∷ xs) → AllPairs R xs
pairs_tail R x xs h = λ i j d l m. h (suc i) (suc j) d (omega arith) (omega arith)

pub pairs_none : {X : Type 0} (R : X → X → Type 0) → AllPairs R []
pairs_none R = λ i j d l m. absurd (omega arith)

fewer_if : {X : Type 0} (p : X → Bool) (x : X) (xs : List X) (b : Bool) → length (filter p xs) ≤ length xs → length (if b then x ∷ filter p xs else filter p xs) ≤ suc (length xs)
fewer_if p x xs true l = omega arith
fewer_if p x xs false l = omega arith

pub fewer_left : {X : Type 0} (p : X → Bool) (xs : List X) → length (filter p xs) ≤ length xs
fewer_left p [] = omega arith
fewer_left p (x ∷ xs) = fewer_if p x xs (p x) (fewer_left p xs)

-- One region more.

-- one of two regions ends before the other begins
abbrev pub IsClear : Region → Region → Type 0
IsClear a b = (a.base + a.count ≤ b.base) ⊎ (b.base + b.count ≤ a.base)

length_inserted_if : (region r : Region) (regions : List Region) (b : Bool) → length (inserted region regions) ≡ suc (length regions)
    → length (if b then region ∷ r ∷ regions else r ∷ inserted region regions) ≡ suc (suc (length regions))
length_inserted_if region r regions true h = refl
length_inserted_if region r regions false h = ap suc h

pub length_inserted : (region : Region) (regions : List Region) → length (inserted region regions) ≡ suc (length regions)
length_inserted region [] = refl
length_inserted region (r ∷ regions) = length_inserted_if region r regions (nat_lt region.base r.base) (length_inserted region regions)

all_inserted_if : (P : Region → Type 0) (region r : Region) (regions : List Region) (b : Bool) → P region → All P (r ∷ regions) → All P (inserted region regions)
    → All P (if b then region ∷ r ∷ regions else r ∷ inserted region regions)
all_inserted_if P region r regions true p h more = All-cons P region (r ∷ regions) p h
all_inserted_if P region r regions false p h more = All-cons P r (inserted region regions) (All-head P r regions h) more

pub all_inserted : (P : Region → Type 0) (region : Region) (regions : List Region) → P region → All P regions → All P (inserted region regions)
all_inserted P region [] p h = All-cons P region [] p h
all_inserted P region (r ∷ regions) p h = all_inserted_if P region r regions (nat_lt region.base r.base) p h (all_inserted P region regions p (All-tail P r regions h))

-- a region that is clear of another is before it if its base is lower, and behind it if not

before_higher : (a b : Region) → IsClear a b → IsMapped b → a.base < b.base → IsBefore a b
before_higher a b (inl l) m h = l
before_higher a b (inr l) m h = (let some = m.some_page in absurd (omega arith))

before_lower : (a b : Region) → IsClear a b → IsMapped a → b.base ≤ a.base → IsBefore b a
before_lower a b (inl l) m h = (let some = m.some_page in absurd (omega arith))
before_lower a b (inr l) m h = l

before_more : (region r : Region) (regions : List Region) → IsBefore region r → AllPairs IsBefore (r ∷ regions) → All (IsBefore region) (r ∷ regions)
before_more region r regions l h =
    All-cons (IsBefore region) r regions l (All-weaker (IsBefore r) (IsBefore region) (λ x behind. omega arith) regions (pairs_head IsBefore r regions h))

pairs_inserted_if : (region r : Region) (regions : List Region) (b : Bool) → nat_lt region.base r.base ≡ b → IsMapped region → All IsMapped (r ∷ regions) → All (IsClear region) (r ∷ regions)
    → AllPairs IsBefore (r ∷ regions) → AllPairs IsBefore (inserted region regions) → AllPairs IsBefore (if b then region ∷ r ∷ regions else r ∷ inserted region regions)
pairs_inserted_if region r regions true e m ms clear h more =
    let below = before_higher region r (All-head (IsClear region) r regions clear) (All-head IsMapped r regions ms) (ltb-true region.base r.base e) in
    AllPairs-cons IsBefore region (r ∷ regions) (before_more region r regions below h) h
pairs_inserted_if region r regions false e m ms clear h more =
    let above = before_lower region r (All-head (IsClear region) r regions clear) m (ltb-false region.base r.base e) in
    AllPairs-cons IsBefore r (inserted region regions) (all_inserted (IsBefore r) region regions above (pairs_head IsBefore r regions h)) more

pub pairs_inserted : (region : Region) (regions : List Region) → IsMapped region → All IsMapped regions → All (IsClear region) regions → AllPairs IsBefore regions
    → AllPairs IsBefore (inserted region regions)
pairs_inserted region [] m ms clear h = AllPairs-cons IsBefore region [] (All-nil (IsBefore region)) h
pairs_inserted region (r ∷ regions) m ms clear h =
    pairs_inserted_if region r regions (nat_lt region.base r.base) refl m ms clear h
    (pairs_inserted region regions m (All-tail IsMapped r regions ms) (All-tail (IsClear region) r regions clear) (pairs_tail IsBefore r regions h))
