-- A machine that is cut before its memory is formatted was formatting it.
use Rattle.std.specs.Prelude.{◌≡◌, ◌⊎◌, ℕ, List, length}
use Rattle.std.proofs.Common.{refl, ap, sym, ◌∙◌, subst, arith, inl, inr}
use Rattle.std.proofs.lemmas.List.{length-replicate}
use Rattle.sls_base.specs.declared.limits.TheConstants.{VERSION_AT}
use Rattle.sls_base.specs.declared.image.Image.{Image}
use Rattle.pmem_layout.specs.declared.places.TheConstants.{FORMAT_AT}
use Rattle.pmem_model.specs.Words.{Word}
use Rattle.pmem_model.specs.Memory.{Memory, word_at}
use Rattle.plain_state.specs.Worlds.{World}
use Rattle.plain_model.specs.Initial.{IsAccepted, first_world}
use Rattle.plain_model.specs.Play.{cut}
use Rattle.plain_laws.specs.Bounds.{IsOfBytes}
use Rattle.plain_laws.specs.Whole as whole
use Rattle.boot_image.specs.Values.{programs_of}
use Rattle.durable_state.specs.Parts.{Parts, PartsStand}
use Rattle.first_format.specs.declared.formatting.Formatting.{Formatting as Formatter}
use Rattle.first_format.specs.Formatted.{Formats, IsWhole}
use Rattle.first_format.specs.Shows.{FormattingShows}
use Rattle.tree_restore.specs.declared.recovery.Recovery.{Recovery}
use Rattle.tree_restore.specs.Restores.{RestoreShows}
use Rattle.leader_helper.specs.Stages.{is_before_commit}
use Rattle.checkpoint_turns.specs.Checkpoints.{Before, Behind}
use Rattle.machine_contract.specs.Side.{Formatting, Running, free_core}
use Rattle.kernel_machine.specs.declared.work.FirstFormat.{FirstFormat}
use Rattle.kernel_machine.specs.declared.work.Work.{Work}
use Rattle.kernel_machine.specs.declared.work.Work.TheVariants as work
use Rattle.kernel_machine.specs.Sides.{hands_of, mode_of}
use Rattle.kernel_machine.specs.Worlds.{IsFormatting, IsWorkOf}
use Rattle.kernel_machine.specs.Shows.{WorksFrom}
use Rattle.kernel_machine.proofs.SeenParts.{IsLeft, MayLeave}
use Rattle.kernel_machine.proofs.SeenSaves.{not_starting}

-- the world is sound
pub sound_of : ((image : Image) (cores : ℕ) → IsAccepted image → IsOfBytes image
    → whole.IsSound (first_world image cores))
    → (now : Work) (cores : ℕ) (accepted : List ℕ) (m : Memory) (w : World)
    → IsWorkOf now cores accepted m w → whole.IsSound w
sound_of first (work.Formats s) cores accepted m w h =
    subst whole.IsSound (sym h.world) (first s.image cores h.shows.begun.accepted h.bytes)
sound_of first (work.Recovers s) cores accepted m w h = h.sound
sound_of first (work.Runs k) cores accepted m w h = h.holds.sound
sound_of first (work.Saves c) cores accepted m w (Before h) = h.sound
sound_of first (work.Saves c) cores accepted m w (Behind h) = h.just.sound
sound_of first work.Between cores accepted m w h = absurd h

-- What is known of formatting and of recovery, and of images of the same programs.
pub record CutLaws : Type 0 where
  pub formats : (s : Formatter) (f : ℕ → Word) (left : ℕ → ℕ) (image : Image) (cores : ℕ) → MayLeave f left
      → FormattingShows s f image cores → Formats image cores left ⊎ IsWhole image cores left
  pub recovers : (r : Recovery) (f : ℕ → Word) (left : ℕ → ℕ) (v : ℕ) (saved : Parts) → MayLeave f left
      → RestoreShows r f v saved → (left VERSION_AT ≡ v) × PartsStand left v saved
  pub accepted : (a b : Image) → programs_of a ≡ programs_of b → IsAccepted a → IsAccepted b
  pub worlds : (a b : Image) (cores : ℕ) → programs_of a ≡ programs_of b → first_world a cores ≡ first_world b cores
  pub formatted : (a b : Image) (cores : ℕ) (words : ℕ → ℕ) → programs_of a ≡ programs_of b
      → Formats a cores words → Formats b cores words

-- It was being formatted from the image.
pub record WasAtFirst (now : Work) (image : Image) (left : ℕ → ℕ) (w : World) (cores : ℕ) : Type 0 where
  pub mode : mode_of now ≡ Formatting
  pub accepted : IsAccepted image
  pub world : cut w ≡ first_world image cores
  pub words : Formats image cores left

module _ (laws : CutLaws) (image : Image) (left : ℕ → ℕ) (cores : ℕ) (accepted : List ℕ) (m : Memory) (w : World)
    (may : MayLeave (word_at m) left) (blank : left FORMAT_AT ≡ 0) where
  was_formatted : (s : FirstFormat) → IsFormatting s cores accepted m w → programs_of s.image ≡ programs_of image
      → WasAtFirst (work.Formats s) image left w cores
  was_formatted s h same =
      let words : Formats s.image cores left =
      elim (laws.formats s.formatting (word_at m) left s.image cores may h.shows) [
        | inl is ↦ is
        | inr is ↦ let word = is FORMAT_AT in absurd (omega (arith, word, blank))
      ] in
      record {
        mode = refl;
        accepted = laws.accepted s.image image same h.shows.begun.accepted;
        world = ap cut h.world ∙ laws.worlds s.image image cores same;
        words = laws.formatted s.image image cores left same words;
      }

  -- and nothing else is left without a format word
  pub was_at_first : (now : Work) → IsWorkOf now cores accepted m w → WorksFrom now image → IsLeft now left w
      → WasAtFirst now image left w (length (hands_of now cores))
  was_at_first (work.Formats s) h made is =
      subst (WasAtFirst (work.Formats s) image left w) (sym (length-replicate cores free_core))
      (was_formatted s h made)
  was_at_first (work.Recovers s) h made is =
      let says = laws.recovers s.recovery (word_at m) left w.version h.saved may h.shows in
      let word = says.1.fixed.format in absurd (omega (arith, word, blank))
  was_at_first (work.Runs k) h made is = elim is [
    | inl saved ↦ absurd (saved.formatted blank)
    | inr other ↦ absurd (let wrong : Running ≡ Formatting = other.0 in cc)
  ]
  was_at_first (work.Saves c) h made is = elim is [
    | inl saved ↦ absurd (saved.formatted blank)
    | inr other ↦ absurd (not_starting (is_before_commit c.leader.stage) (inl other.0))
  ]
  was_at_first work.Between h made is = absurd h
