-- What a cut makes of a machine shows the course after it.
use Rattle.std.specs.Prelude.{◌≡◌, ◌⊎◌, ℕ, List, slice_index}
use Rattle.std.proofs.Common.{refl, ap, sym, ◌∙◌, inl, inr}
use Rattle.sls_base.specs.declared.limits.TheConstants.{VERSION_AT}
use Rattle.pmem_model.specs.Words.{Word, cuts}
use Rattle.pmem_model.specs.Memory.{word_at, count_up}
use Rattle.plain_state.specs.Worlds.{World}
use Rattle.plain_state.specs.declared.label.Label.TheVariants as label
use Rattle.plain_model.specs.Play.{cut}
use Rattle.plain_laws.specs.Whole as whole
use Rattle.machine_contract.specs.declared.answers.Off.{Off}
use Rattle.machine_contract.specs.Side.{Formatting}
use Rattle.machine_contract.specs.Courses.{Course, after_label}
use Rattle.machine_contract.specs.Shown.{IsSaved, IsShown, IsUnformatted, durable_of}
use Rattle.kernel_machine.specs.declared.kernel.Kernel.{Kernel}
use Rattle.kernel_machine.specs.Sides.{mode_of, seen_of}
use Rattle.kernel_machine.specs.Formats.{format}
use Rattle.kernel_machine.specs.Shows.{ShowsOff}
use Rattle.kernel_machine.proofs.SeenParts.{MayLeave}

-- Worlds.

saved_after : (left : ℕ → ℕ) (w : World) → IsSaved format left w → IsSaved format left (cut w)
saved_after left w is = record { formatted = is.formatted; version = is.version; stands = is.stands }

unformatted_after : (left : ℕ → ℕ) (w : World) → IsUnformatted format left w → IsUnformatted format left (cut w)
unformatted_after left w is = record {
  unformatted = is.unformatted;
  version = is.version;
  image = is.image;
  cores = is.cores;
  accepted = is.accepted;
  world = ap cut is.world;
  words = is.words;
}

-- Words that a cut left.
module _ (k : Kernel) (off : Off) (words : (i : ℕ) → word_at off.nvm i ≡ cuts (word_at k.nvm) i) where
  durable_same : (i : ℕ) → durable_of (word_at off.nvm) i ≡ (word_at k.nvm i).durable
  durable_same i = ap (λ (w : Word). w.durable) (words i)

  pub left_by_cut : MayLeave (word_at k.nvm) (durable_of (word_at off.nvm))
  left_by_cut i = inl (durable_same i)

  pub version_left : durable_of (word_at off.nvm) VERSION_AT ≡ (word_at k.nvm VERSION_AT).durable
  version_left = durable_same VERSION_AT

  clean : (i : ℕ) → (word_at off.nvm i).cached ≡ (word_at off.nvm i).durable
  clean i = ap (λ (w : Word). w.cached) (words i) ∙ sym (durable_same i)

  pub shows_off : (c : Course) → off.accepted ≡ k.accepted → off.nvm.commits ≡ k.nvm.commits
      → off.nvm.cuts ≡ count_up k.nvm.cuts → whole.IsSound (cut c.world) → IsShown format (seen_of k) c
      → IsSaved format (durable_of (word_at off.nvm)) c.world
      ⊎ (mode_of k.work ≡ Formatting) × IsUnformatted format (durable_of (word_at off.nvm)) c.world
      → ShowsOff off (after_label c label.Cut)
  shows_off c accepted commits cuts_up sound shown left = record {
    shown = record {
      clean = clean;
      words = elim left [
        | inl is ↦ inl (saved_after (durable_of (word_at off.nvm)) c.world is)
        | inr is ↦ inr (unformatted_after (durable_of (word_at off.nvm)) c.world is.1)
      ];
      counted = record {
        counts = λ channel below.
            ap (λ (a : List ℕ). slice_index a channel) accepted ∙ shown.counted.counts channel below;
        in_order = sound.order;
      };
      off = refl;
      commits = commits ∙ shown.commits;
      cuts = cuts_up ∙ ap count_up shown.cuts;
    };
    sound = sound;
  }
