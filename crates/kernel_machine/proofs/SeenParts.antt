-- What is seen of what a machine is at.
use Rattle.std.specs.Prelude.{◌≡◌, ◌⊎◌, ◌↔◌, ℕ, ◌≤◌, List, slice_index_or}
use Rattle.std.proofs.Common.{arith}
use Rattle.sls_base.specs.declared.limits.TheConstants.{CORES, VERSION_AT}
use Rattle.sls_base.specs.declared.image.Image.{Image}
use Rattle.pmem_model.specs.Words.{Word}
use Rattle.pmem_model.specs.Events.{Left}
use Rattle.pmem_model.specs.Memory.{Memory, word_at, AllHome}
use Rattle.plain_model.specs.Initial.{IsAccepted, first_world, initial}
use Rattle.plain_model.specs.Play.{cut}
use Rattle.plain_state.specs.Worlds.{World, accepted_count}
use Rattle.plain_laws.specs.Bounds.{IsOfBytes}
use Rattle.plain_laws.specs.Whole as whole
use Rattle.page_store.specs.Known.{Phase}
use Rattle.durable_state.specs.Parts.{Parts, PartsStand}
use Rattle.saved_state.specs.State.{ArePartsOf, Stands}
use Rattle.version_rooms.specs.declared.rooms.Rooms.{Rooms}
use Rattle.version_rooms.specs.Rooms.{Contents, IsAtRest, RoomsShow}
use Rattle.first_format.specs.declared.formatting.Formatting.{Formatting as Formatter}
use Rattle.first_format.specs.Formatted.{Formats, IsWhole, formatted}
use Rattle.first_format.specs.Parts.{first_parts}
use Rattle.first_format.specs.Shows.{FormattingShows}
use Rattle.tree_restore.specs.declared.recovery.Recovery.{Recovery}
use Rattle.tree_restore.specs.Restores.{RestoreShows}
use Rattle.checkpoint_turns.specs.declared.checkpoint.Checkpoint.{Checkpoint}
use Rattle.checkpoint_turns.specs.Checkpoints.{IsBefore, IsBehind, IsOf}
use Rattle.checkpoint_turns.proofs.Cuts.{says_saved}
use Rattle.machine_contract.specs.Side.{Formatting, Running, IsStarting, free_core}
use Rattle.machine_contract.specs.Shown.{IsSaved, IsUnformatted, VersionReads}
use Rattle.kernel_machine.specs.declared.work.Work.{Work}
use Rattle.kernel_machine.specs.Sides.{hands_of, left_of, mode_of}
use Rattle.kernel_machine.specs.Formats.{format}
use Rattle.kernel_machine.specs.Worlds.{HasAccepted}
use Rattle.kernel_machine.proofs.SeenSides.{IsHand}

-- each word is one that a cut may leave
abbrev pub MayLeave : (ℕ → Word) → (ℕ → ℕ) → Type 0
MayLeave f left = (i : ℕ) → Left (f i) (left i)

-- What is known of what the machine is made of.
pub record SeenLaws : Type 0 where
  pub formats : (s : Formatter) (f : ℕ → Word) (left : ℕ → ℕ) (image : Image) (cores : ℕ) → MayLeave f left
      → FormattingShows s f image cores → Formats image cores left ⊎ IsWhole image cores left
  pub first_stands : (image : Image) (cores : ℕ) → IsAccepted image → 1 ≤ cores → cores ≤ CORES
      → PartsStand (formatted (first_parts image cores)) 0 (first_parts image cores)
  pub first_are : (image : Image) (cores : ℕ) → IsAccepted image → IsOfBytes image → 1 ≤ cores → cores ≤ CORES
      → ArePartsOf (λ channel. 0) (λ channel. 0) (first_parts image cores) (initial image cores)
  pub first_sound : (image : Image) (cores : ℕ) → IsAccepted image → IsOfBytes image
      → whole.IsSound (first_world image cores)
  pub recovers : (r : Recovery) (f : ℕ → Word) (left : ℕ → ℕ) (v : ℕ) (saved : Parts) → MayLeave f left
      → RestoreShows r f v saved → (left VERSION_AT ≡ v) × PartsStand left v saved
  pub rests : (r : Rooms) (f : ℕ → Word) (left : ℕ → ℕ) (v : ℕ) (c : Contents) (phase : Phase) → MayLeave f left
      → IsAtRest r → RoomsShow r f v c phase → (left VERSION_AT ≡ v) × PartsStand left v c.saved
  pub before : (c : Checkpoint) (accepted : List ℕ) (m : Memory) (w : World) (left : ℕ → ℕ)
      → MayLeave (word_at m) left → left VERSION_AT ≡ w.version → IsBefore c accepted m w
      → Stands left w.base (accepted_count w) w.saved
  pub behind : (c : Checkpoint) (accepted : List ℕ) (m : Memory) (w : World) (left : ℕ → ℕ)
      → MayLeave (word_at m) left → IsBehind c accepted m w
      → (left VERSION_AT ≡ w.version) × Stands left w.base (accepted_count w) w.saved
  pub version : (c : Checkpoint) (accepted : List ℕ) (m : Memory) (w : World) → IsOf c accepted m w
      → (word_at m VERSION_AT).durable ≡ w.version

-- words are the saved copy, or the memory isn't formatted yet
abbrev pub IsLeft : Work → (ℕ → ℕ) → World → Type 0
IsLeft now left w = IsSaved format left w ⊎ (mode_of now ≡ Formatting) × IsUnformatted format left w

-- What is seen of what a machine is at says the world that it is.
pub record IsSeen (now : Work) (cores : ℕ) (accepted : List ℕ) (m : Memory) (w : World) : Type 0 where
  pub left : (left : ℕ → ℕ) → MayLeave (word_at m) left → left VERSION_AT ≡ (word_at m VERSION_AT).durable
      → IsLeft now left w
  pub version : VersionReads (mode_of now) (word_at m VERSION_AT).cached w.version
  pub sound : whole.IsSound w
  pub counted : HasAccepted accepted w
  pub starting : IsStarting (mode_of now) → cut w ≡ w
  pub turns : (left_of now ≡ 0) ↔ (mode_of now ≡ Running)
  pub hands : (core : ℕ) → IsHand w (slice_index_or (hands_of now cores) core free_core)
  pub home : AllHome m

-- words that stand for the saved copy are it
pub is_saved : (left : ℕ → ℕ) (w : World) → left VERSION_AT ≡ w.version
    → Stands left w.base (accepted_count w) w.saved → IsSaved format left w
is_saved left w reads stands = record {
  formatted = λ zero. let word = stands.stand.fixed.format in absurd (omega (arith, word, zero));
  version = reads;
  stands = stands;
}

-- so are those that say its parts
pub says_parts : (left : ℕ → ℕ) (w : World) (saved : Parts)
    → (left VERSION_AT ≡ w.version) × PartsStand left w.version saved
    → ArePartsOf w.base (accepted_count w) saved w.saved → IsSaved format left w
says_parts left w saved says are = is_saved left w says.0 (says_saved left w saved says.0 says.1 are)
