-- Rules in their order, and the first that is broken.
use Rattle.std.specs.Prelude.{◌≡◌, ℕ, ◌+◌, nat_le, Bool, if◌then◌else◌, List, [], ◌∷◌, length, Option, Some, None}
use Rattle.std.specs.Prelude.{Result, Ok, Err}
use Rattle.boot_image.specs.declared.fault.ImageCause.{ImageCause}
use Rattle.boot_image.specs.declared.fault.ImageCause.TheVariants.{Length}
use Rattle.boot_image.specs.declared.fault.ImageError.{ImageError}
use Rattle.boot_image.specs.declared.fault.ImageError.TheVariants as errors
use Rattle.boot_image.specs.declared.format.TheConstants.{WORD_BYTES}

-- a broken rule: its cause, and the place of the field at fault
pub record Fault : Type 0 where
  pub cause : ImageCause
  pub place : ℕ

-- a rule that has to hold
abbrev pub unless : Bool → ImageCause → ℕ → Option Fault
unless holds cause place = if holds then None else Some (record { cause = cause; place = place })

-- the first broken one of some rules
abbrev pub first : List (Option Fault) → Option Fault
first [] = None
first (None ∷ rules) = first rules
first (Some fault ∷ rules) = Some fault

-- the rules of a field at place k of bytes that begin at a place of the file: it is whole, and then those of its value
abbrev pub field : ℕ → ℕ → List ℕ → List (Option Fault) → Option Fault
field at k bytes rules = first (unless (nat_le (k + WORD_BYTES) (length bytes)) Length (at + k) ∷ rules)

-- an error tells the fault, or that there was no memory
abbrev pub Refuses : ImageError → Option Fault → Type 0
Refuses errors.Memory fault = Unit {0}
Refuses (errors.Bad cause place) fault = fault ≡ Some (record { cause = cause; place = place })

-- what was read, seen by view, is the value, and no rule is broken; or the error tells the first that is
abbrev pub Gives : {X Y : Type 0} → (X → Y) → Result X ImageError → Option Fault → Y → Type 0
Gives view (Ok x) fault value = (fault ≡ None) × (view x ≡ value)
Gives view (Err e) fault value = Refuses e fault
