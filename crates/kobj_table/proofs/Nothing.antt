-- Slots with nothing in them.
use Rattle.std.specs.Prelude.{◌≡◌, ℕ, zero, suc, ◌<◌, List, [], ◌∷◌, length, slice_index_or}
use Rattle.std.proofs.Common.{refl, arith}
use Rattle.kobj_table.specs.declared.slot.Slot.{Slot}

pub nothing_there : (slots : List Slot) → ((k : ℕ) → k < length slots → slice_index_or slots k Slot.Empty ≡ Slot.Empty) → (i : ℕ) →
    slice_index_or slots i Slot.Empty ≡ Slot.Empty
nothing_there [] each i = refl
nothing_there (slot ∷ slots) each zero = each zero (omega arith)
nothing_there (slot ∷ slots) each (suc i) = nothing_there slots (λ k within. each (suc k) (omega arith)) i
