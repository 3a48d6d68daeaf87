-- The refusals of calls: their order and their numbers.
use Rattle.std.specs.Prelude.{ℕ, ◌-◌, ◌^◌, List, [], ◌∷◌}
use Rattle.plain_state.specs.declared.calls.Refusal.{Refusal}
use Rattle.plain_state.specs.declared.calls.Refusal.TheVariants.{BadCall, NoCap, WrongKind, NoRight, BadAddress, BadSize, Overlap, NoSlot, NoObjects, NoPages, NoRegions, Full, Empty, Taken}

-- Each refusal is tested for all arguments before the next one. Before them all comes BadCall, where no call is named.
abbrev pub refusal_order : List Refusal
refusal_order =
    NoCap ∷ WrongKind ∷ NoRight ∷ BadAddress ∷ BadSize ∷ Overlap ∷ NoSlot ∷ NoObjects ∷ NoPages ∷ NoRegions ∷ Full
    ∷ Empty ∷ Taken ∷ []

-- the n of the refusal that is answered as -n
abbrev pub refusal_rank : Refusal → ℕ
refusal_rank BadCall = 1
refusal_rank NoCap = 2
refusal_rank WrongKind = 3
refusal_rank NoRight = 4
refusal_rank BadAddress = 5
refusal_rank BadSize = 6
refusal_rank Overlap = 7
refusal_rank NoSlot = 8
refusal_rank NoObjects = 9
refusal_rank NoPages = 10
refusal_rank NoRegions = 11
refusal_rank Full = 12
refusal_rank Empty = 13
refusal_rank Taken = 14

-- the answer of a refused call
abbrev pub refusal_number : Refusal → ℕ
refusal_number refusal = 2 ^ 32 - refusal_rank refusal
