-- What stands on a shelf.
use Rattle.std.specs.Prelude.{◌≡◌, ◌≤◌, ◌<◌, ℕ, List, length, None, Some, ⊤}
use Rattle.std.specs.declared.option.Option.{Option}
use Rattle.std.specs.Map.{lookup}
use Rattle.std.specs.Str.{bytes_eq}
use Rattle.sls_io.specs.declared.shelf.Found.{Found}
use Rattle.sls_io.specs.declared.shelf.Found.TheVariants.{Bytes, Missing, Long}

-- a finite map from names to bytes: its entries, of which the first with a name counts
abbrev pub Names : Type 0
Names = List (List ℕ × List ℕ)

-- the bytes that are told to stand under a name
abbrev pub entry_of : Option Names → List ℕ → Option (List ℕ)
entry_of None name = None
entry_of (Some names) name = lookup (bytes_eq name) names

-- the answer for what stands under a name: missing where nothing does, long where it is longer than the limit,
-- and else its bytes
abbrev pub IsFoundFor : Option (List ℕ) → ℕ → Found → Type 0
IsFoundFor None limit found = found ≡ Missing
IsFoundFor (Some bytes) limit Missing = ⊥
IsFoundFor (Some bytes) limit Long = limit < length bytes
IsFoundFor (Some bytes) limit (Bytes given) = (given.items ≡ bytes) × (length bytes ≤ limit)

-- no more bytes are given than the limit
abbrev pub IsWithin : ℕ → Found → Type 0
IsWithin limit (Bytes given) = length given.items ≤ limit
IsWithin limit Missing = ⊤
IsWithin limit Long = ⊤
