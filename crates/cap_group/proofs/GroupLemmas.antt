-- The slots of a group as a list.
use Rattle.std.proofs.Common.{◌≡◌, ℕ, ◌<◌, ◌≤◌, true, false, not, Option, Some, None, IsSome, length, get_or, refl, sym, ap, ◌∙◌, subst, arith, position}
use Rattle.std.specs.Option.{is_none, is_some, option_and_then}
use Rattle.std.proofs.lemmas.Option.{slice_get-get_or}
use Rattle.std.proofs.lemmas.List.Sums.{position_or_len_is}
use Rattle.sls_base.specs.declared.limits.TheConstants.{GROUP_SLOTS}
use Rattle.cap_group.specs.declared.group.Group.{Group}
use Rattle.cap_group.specs.Group.{cap_at, IsLowestFree, IsFull}

-- an Option without a value is None
no_value : {X : Type 0} (o : Option X) → is_some o ≡ false → o ≡ None
no_value None is = refl
no_value (Some x) is = cc

-- what a slot holds is its element
cap_at-slot : (g : Group) (k : ℕ) → k < length g.slots → cap_at g k ≡ get_or g.slots k None
cap_at-slot g k inside = ap (option_and_then (λ held. held)) (slice_get-get_or g.slots k None inside)

pub cap_at-taken : (g : Group) (k : ℕ) → k < length g.slots → is_some (get_or g.slots k None) ≡ true → IsSome (cap_at g k)
cap_at-taken g k inside is = subst IsSome (sym (cap_at-slot g k inside)) is

pub cap_at-empty : (g : Group) (k : ℕ) → k < length g.slots → is_some (get_or g.slots k None) ≡ false → cap_at g k ≡ None
cap_at-empty g k inside is = cap_at-slot g k inside ∙ no_value _ is

-- below a number, taken slots aren't empty
none_empty : (g : Group) (n : ℕ) → n ≤ length g.slots → ((k : ℕ) → k < n → IsSome (cap_at g k)) → (k : ℕ) → k < n → is_none (get_or g.slots k None) ≡ false
none_empty g n most taken k below =
    ap not (subst IsSome (cap_at-slot g k (omega arith)) (taken k below))

pub position-lowest : (g : Group) (i : ℕ) → length g.slots ≡ GROUP_SLOTS → IsLowestFree g i → position is_none g.slots ≡ Some i
position-lowest g i all is =
    let first = position_or_len_is is_none g.slots i None (omega (arith, is.there)) (none_empty g i (omega (arith, is.there)) is.lowest) (λ inside. ap is_none (sym (cap_at-slot g i inside) ∙ is.free)) in
    grind (arith, is.there)

pub position-full : (g : Group) → length g.slots ≡ GROUP_SLOTS → IsFull g → position is_none g.slots ≡ None
position-full g all is =
    let first = position_or_len_is is_none g.slots GROUP_SLOTS None (omega arith) (none_empty g GROUP_SLOTS (omega arith) is) (λ inside. absurd (omega arith)) in
    grind arith
