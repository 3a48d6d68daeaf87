-- The first broken rule of some.
use Rattle.std.proofs.Common.{◌≡◌, ℕ, Bool, true, false, List, [], ◌∷◌, Option, Some, None, refl}
use Rattle.boot_image.specs.declared.fault.ImageCause.{ImageCause}
use Rattle.boot_image.specs.declared.fault.ImageError.{ImageError}
use Rattle.boot_image.specs.declared.fault.ImageError.TheVariants as errors
use Rattle.boot_image.specs.Rules.{Fault, unless, first, Refuses}

-- one rule alone
pub first_one : (f : Option Fault) → first (f ∷ []) ≡ f
first_one None = refl
first_one (Some x) = refl

-- where none is broken, each holds
pub first_parts : (f : Option Fault) (rules : List (Option Fault)) → first (f ∷ rules) ≡ None
    → (f ≡ None) × (first rules ≡ None)
first_parts None rules e = (refl, e)
first_parts (Some x) rules e = absurd cc

pub unless_holds : (holds : Bool) (cause : ImageCause) (place : ℕ) → unless holds cause place ≡ None → holds ≡ true
unless_holds true cause place e = refl
unless_holds false cause place e = absurd cc

pub unless_true : (holds : Bool) (cause : ImageCause) (place : ℕ) → holds ≡ true → unless holds cause place ≡ None
unless_true true cause place e = refl
unless_true false cause place e = absurd cc

-- where the first is broken, it is the fault
pub refused_first : (e : ImageError) (f : Option Fault) (rules : List (Option Fault)) → Refuses e f → Refuses e (first (f ∷ rules))
refused_first errors.Memory f rules h = tt
refused_first (errors.Bad cause place) None rules h = absurd cc
refused_first (errors.Bad cause place) (Some x) rules h = h

-- behind rules that hold
pub refused_after : (e : ImageError) (f g : Option Fault) (rules : List (Option Fault)) → f ≡ None → Refuses e (first (g ∷ rules)) → Refuses e (first (f ∷ g ∷ rules))
refused_after e None g rules is h = h
refused_after e (Some x) g rules is h = absurd cc

-- the rules of a field with one, two or three of them beside that it is whole
pub one_holds : (whole a : Bool) (v c : ImageCause) (q p : ℕ) → first (unless whole v q ∷ unless a c p ∷ []) ≡ None → (whole ≡ true) × (a ≡ true)
one_holds true true v c q p e = (refl, refl)
one_holds true false v c q p e = absurd cc
one_holds false a v c q p e = absurd cc

pub two_hold : (whole a b : Bool) (v c d : ImageCause) (q p r : ℕ) → first (unless whole v q ∷ unless a c p ∷ unless b d r ∷ []) ≡ None
    → (whole ≡ true) × (a ≡ true) × (b ≡ true)
two_hold true true true v c d q p r e = (refl, refl, refl)
two_hold true true false v c d q p r e = absurd cc
two_hold true false b v c d q p r e = absurd cc
two_hold false a b v c d q p r e = absurd cc

pub three_hold : (whole a b g : Bool) (v c d h : ImageCause) (q p r t : ℕ)
    → first (unless whole v q ∷ unless a c p ∷ unless b d r ∷ unless g h t ∷ []) ≡ None
    → (whole ≡ true) × (a ≡ true) × (b ≡ true) × (g ≡ true)
three_hold true true true true v c d h q p r t e = (refl, refl, refl, refl)
three_hold true true true false v c d h q p r t e = absurd cc
three_hold true true false g v c d h q p r t e = absurd cc
three_hold true false b g v c d h q p r t e = absurd cc
three_hold false a b g v c d h q p r t e = absurd cc

pub two_none : (a b : Option Fault) → first (a ∷ b ∷ []) ≡ None → (a ≡ None) × (b ≡ None)
two_none None None e = (refl, refl)
two_none None (Some x) e = absurd cc
two_none (Some x) b e = absurd cc

pub three_none : (a b c : Option Fault) → first (a ∷ b ∷ c ∷ []) ≡ None → (a ≡ None) × (b ≡ None) × (c ≡ None)
three_none a b c e =
    let x = first_parts a (b ∷ c ∷ []) e in
    let y = two_none b c x.1 in
    (x.0, y.0, y.1)

pub four_none : (a b c d : Option Fault) → first (a ∷ b ∷ c ∷ d ∷ []) ≡ None → (a ≡ None) × (b ≡ None) × (c ≡ None) × (d ≡ None)
four_none a b c d e =
    let x = first_parts a (b ∷ c ∷ d ∷ []) e in
    let y = three_none b c d x.1 in
    (x.0, y.0, y.1, y.2)

pub six_none : (a b c d f g : Option Fault) → first (a ∷ b ∷ c ∷ d ∷ f ∷ g ∷ []) ≡ None
    → (a ≡ None) × (b ≡ None) × (c ≡ None) × (d ≡ None) × (f ≡ None) × (g ≡ None)
six_none a b c d f g e =
    let x = first_parts a (b ∷ c ∷ d ∷ f ∷ g ∷ []) e in
    let y = first_parts b (c ∷ d ∷ f ∷ g ∷ []) x.1 in
    let z = four_none c d f g y.1 in
    (x.0, y.0, z.0, z.1, z.2, z.3)
