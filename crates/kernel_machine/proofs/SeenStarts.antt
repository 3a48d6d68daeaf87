-- A machine that formats, or that recovers.
use Rattle.std.specs.Prelude.{◌≡◌, ◌≢◌, ◌⊎◌, ℕ, ◌≤◌, Bool, true, false, if◌then◌else◌, List}
use Rattle.std.proofs.Common.{refl, ap, sym, subst, ◌∙◌, arith, inl, inr}
use mathlib.Core.Path.{fun_ext}
use Rattle.sls_base.specs.declared.limits.TheConstants.{CORES, VERSION_AT}
use Rattle.sls_base.specs.declared.image.Image.{Image}
use Rattle.pmem_layout.specs.declared.places.TheConstants.{FORMAT_AT}
use Rattle.pmem_model.specs.Memory.{Memory, word_at}
use Rattle.plain_model.specs.Initial.{first_world}
use Rattle.plain_model.specs.Play.{cut}
use Rattle.plain_state.specs.Worlds.{World}
use Rattle.plain_laws.specs.Whole as whole
use Rattle.durable_state.specs.Parts.{Parts, PartsStand}
use Rattle.first_format.specs.Formatted.{Formats, IsWhole, content_word, formatted}
use Rattle.first_format.specs.Parts.{first_parts}
use Rattle.machine_contract.specs.Side.{Formatting, Recovering, Running}
use Rattle.machine_contract.specs.Shown.{IsSaved}
use Rattle.kernel_machine.specs.declared.work.FirstFormat.{FirstFormat}
use Rattle.kernel_machine.specs.declared.work.Restoring.{Restoring}
use Rattle.kernel_machine.specs.declared.work.Work.TheVariants as work
use Rattle.kernel_machine.specs.Formats.{format}
use Rattle.kernel_machine.specs.Worlds.{IsFormatting, IsRecovering}
use Rattle.kernel_machine.proofs.SeenSides.{all_free}
use Rattle.kernel_machine.proofs.SeenParts.{IsLeft, IsSeen, MayLeave, SeenLaws, says_parts}

-- The first version.

-- the version word is 0
word_of_version : (p : Parts) → content_word p VERSION_AT ≡ 0
unfolding content_word
word_of_version p = refl

version_is_zero : (p : Parts) → formatted p VERSION_AT ≡ 0
version_is_zero p = word_of_version p

zero_or : {word value : ℕ} → value ≡ 0 → (word ≡ 0) ⊎ (word ≡ value) → word ≡ 0
zero_or zero h = elim h [ inl none ↦ none | inr is ↦ is ∙ zero ]

-- words that may be left before the end
pub unformatted : (image : Image) (cores : ℕ) (left : ℕ → ℕ) → Formats image cores left → left VERSION_AT ≡ 0
unformatted image cores left blank =
    zero_or (version_is_zero (first_parts image cores)) (blank.each VERSION_AT)

-- A memory that is being formatted.
module _ (laws : SeenLaws) (s : FirstFormat) (cores : ℕ) (accepted : List ℕ) (m : Memory) (w : World)
    (h : IsFormatting s cores accepted m w) where
  some : 1 ≤ cores
  some = subst (λ (n : ℕ). 1 ≤ n) h.shows.cores_are h.shows.begun.some

  most : cores ≤ CORES
  most = subst (λ (n : ℕ). n ≤ CORES) h.shows.cores_are h.shows.begun.most

  whole_is_saved : (left : ℕ → ℕ) → IsWhole s.image cores left → IsSaved format left (first_world s.image cores)
  whole_is_saved left is =
      let parts = first_parts s.image cores in
      let same : ◌≡◌ {A = ℕ → ℕ} left (formatted parts) = fun_ext is in
      let stands = laws.first_stands s.image cores h.shows.begun.accepted some most in
      let here : PartsStand left 0 parts = subst (λ (f : ℕ → ℕ). PartsStand f 0 parts) (sym same) stands in
      says_parts left (first_world s.image cores) parts (is VERSION_AT ∙ version_is_zero parts, here)
      (laws.first_are s.image cores h.shows.begun.accepted h.bytes some most)

  formats_left : (left : ℕ → ℕ) → MayLeave (word_at m) left → IsLeft (work.Formats s) left w
  formats_left left may = elim (laws.formats s.formatting (word_at m) left s.image cores may h.shows) [
    | inl blank ↦ inr (
      refl,
      record {
        unformatted = blank.unformatted;
        version = unformatted s.image cores left blank;
        image = s.image;
        cores = cores;
        accepted = h.shows.begun.accepted;
        world = h.world;
        words = blank;
      },
    )
    | inr is ↦ inl (subst (IsSaved format left) (sym h.world) (whole_is_saved left is))
  ]

  cached_is_zero : (word_at m VERSION_AT).cached ≡ 0
  cached_is_zero =
      let other : VERSION_AT ≢ FORMAT_AT = λ same. omega (arith, same) in
      zero_or (word_of_version (first_parts s.image cores)) (h.shows.words.each VERSION_AT other).cached

  first_version : w.version ≡ 0
  first_version = ap (λ (v : World). v.version) h.world

  pub formats_seen : IsSeen (work.Formats s) cores accepted m w
  formats_seen = record {
    left = λ left may reads. formats_left left may;
    version = inl (cached_is_zero ∙ sym first_version);
    sound = subst whole.IsSound (sym h.world) (laws.first_sound s.image cores h.shows.begun.accepted h.bytes);
    counted = h.counted;
    starting = λ is. subst (λ (v : World). cut v ≡ v) (sym h.world) refl;
    turns = (λ none. absurd (omega (arith, none)), λ runs. absurd (let wrong : Formatting ≡ Running = runs in cc));
    hands = all_free w cores;
    home = h.home;
  }

-- A memory from which the saved copy is recovered.

never_runs : (is_first : Bool) → (if is_first then Formatting else Recovering) ≡ Running → ⊥
never_runs true is = cc
never_runs false is = cc

pub recovers_seen : (laws : SeenLaws) (s : Restoring) (cores : ℕ) (accepted : List ℕ) (m : Memory) (w : World)
    → IsRecovering s.recovery accepted m w → IsSeen (work.Recovers s) cores accepted m w
recovers_seen laws s cores accepted m w h = record {
  left = λ left may reads.
      let says = laws.recovers s.recovery (word_at m) left w.version h.saved may h.shows in
      inl (says_parts left w h.saved says h.are);
  version = inl h.shows.version.0;
  sound = h.sound;
  counted = h.counted;
  starting = λ is. h.off;
  turns = (λ none. absurd (omega (arith, none)), λ runs. absurd (never_runs s.is_first runs));
  hands = all_free w cores;
  home = h.home;
}
