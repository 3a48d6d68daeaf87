-- What a cut leaves of a checkpoint stands for the saved copy.
use Rattle.std.specs.Prelude.{◌≡◌, ℕ}
use Rattle.std.proofs.Common.{sym, subst, arith}
use Rattle.sls_base.specs.declared.limits.TheConstants.{VERSION_AT}
use Rattle.plain_state.specs.Worlds.{World, accepted_count}
use Rattle.durable_state.specs.Parts.{Parts, PartsStand}
use Rattle.version_rooms.specs.Rooms.{LeavesOne, Same, Next}
use Rattle.saved_state.specs.State.{ArePartsOf, Stands}

-- words that say the saved parts at the version that they read stand for the saved copy
pub says_saved : (left : ℕ → ℕ) (w : World) (saved : Parts) → left VERSION_AT ≡ w.version
    → PartsStand left w.version saved → ArePartsOf w.base (accepted_count w) saved w.saved
    → Stands left w.base (accepted_count w) w.saved
says_saved left w saved reads stand are = record {
  parts = saved;
  stand = subst (λ (v : ℕ). PartsStand left v saved) (sym reads) stand;
  are = are;
}

-- words that say one of two versions whole, and read the first, say this one
pub is_first : (left : ℕ → ℕ) (v : ℕ) (saved next : Parts) → left VERSION_AT ≡ v → LeavesOne left v saved next
    → PartsStand left v saved
is_first left v saved next reads (Same at stand) = stand
is_first left v saved next reads (Next at stand) = absurd (omega (arith, reads, at))
