-- A turn by which the first version is stored, and the last one, behind which it is recovered.
use Rattle.std.specs.Prelude.{◌≡◌, ℕ, ◌<◌, ◌⊎◌, Bool, if◌then◌else◌}
use Rattle.std.proofs.Common.{refl, ap, sym, subst, ◌∙◌, arith, inl, inr}
use mathlib.Core.Path.{fun_ext}
use Rattle.sls_base.specs.declared.fixed.TheConstants.{LEADER}
use Rattle.sls_base.specs.declared.limits.TheConstants.{VERSION_AT}
use Rattle.sls_base.specs.declared.image.Image.{Image}
use Rattle.pmem_model.specs.Words.{Word}
use Rattle.pmem_model.specs.Memory.{AllHome, KeepsCounts, Memory, count_up, word_at}
use Rattle.pmem_operations.specs.Operations.{IsAtMostOne}
use Rattle.plain_state.specs.Worlds.{World}
use Rattle.plain_model.specs.Initial.{first_world, initial}
use Rattle.plain_laws.specs.Whole.{IsSound}
use Rattle.page_store.specs.Slots.{IsAllClean, durable_words}
use Rattle.durable_state.specs.Parts.{Parts, PartsStand}
use Rattle.saved_state.specs.State.{ArePartsOf}
use Rattle.first_format.specs.declared.formatting.Formatting.{Formatting}
use Rattle.first_format.specs.Parts.{first_parts}
use Rattle.first_format.specs.Formatted.{content_word, formatted}
use Rattle.first_format.specs.Clean.{HoldsClean}
use Rattle.first_format.specs.Shows.{FormattingShows, turns_left}
use Rattle.machine_contract.specs.declared.answers.Did.TheVariants as did
use Rattle.machine_contract.specs.declared.answers.Why.TheVariants as why
use Rattle.machine_contract.specs.Side.{Formatting as FormattingMode, Recovering}
use Rattle.machine_contract.specs.Courses.{Course}
use Rattle.kernel_machine.specs.declared.work.FirstFormat.{FirstFormat}
use Rattle.kernel_machine.specs.declared.work.Work.{Work}
use Rattle.kernel_machine.specs.declared.work.Work.TheVariants as work
use Rattle.kernel_machine.specs.declared.kernel.Kernel.{Kernel}
use Rattle.kernel_machine.specs.Sides.{left_of, side_of}
use Rattle.kernel_machine.specs.Worlds.{HasAccepted, IsFormatting, IsRecovering}
use Rattle.kernel_machine.specs.Shows.{IsAt}
use Rattle.kernel_machine.specs.Turns.{BeginsRecovery, TakesTurn}
use Rattle.kernel_machine.proofs.SidesStart.{no_commit, one_more_at_most, start_goes}

-- The version word stays 0 while the first version is stored.

version_content : (p : Parts) → content_word p VERSION_AT ≡ 0
unfolding content_word
version_content p = refl

version_blank : (s : Formatting) (f : ℕ → Word) (image : Image) (cores : ℕ) → FormattingShows s f image cores
    → (f VERSION_AT).durable ≡ 0
version_blank s f image cores shows =
    elim (shows.words.each VERSION_AT (λ e. absurd (omega (arith, e)))).durable [
      | inl none ↦ none
      | inr stored ↦ stored ∙ version_content (first_parts image cores)
    ]

-- Clean words.

all_clean : (f : ℕ → Word) (words : ℕ → ℕ) → HoldsClean f words → IsAllClean f
all_clean f words clean = record { at = λ word. ((clean.at word).0 ∙ sym (clean.at word).1, refl) }

durable_are : (f : ℕ → Word) (words : ℕ → ℕ) → HoldsClean f words → durable_words f ≡ words
durable_are f words clean = fun_ext (λ word. (clean.at word).1)

module _ (k : Kernel) (s : FirstFormat) (c : Course) (is : IsAt (record k { work = work.Formats s }) c)
    (t : Formatting) (m : Memory) (counts : KeepsCounts k.nvm m) (one : (m.ops ≡ count_up k.nvm.ops) ⊎ (m.ops ≡ k.nvm.ops))
    (operation : IsAtMostOne LEADER (word_at k.nvm) (word_at m)) (home : AllHome m)
    (shows : FormattingShows t (word_at m) s.image k.cores) where
  abbrev h : IsFormatting s k.cores k.accepted k.nvm c.world
  h = is.work

  abbrev parts : Parts
  parts = first_parts s.image k.cores

  abbrev old : Kernel
  old = record k { work = work.Formats s }

  commits_same : m.commits ≡ c.commits
  commits_same =
      no_commit k.nvm m counts
      (version_blank t (word_at m) s.image k.cores shows
      ∙ sym (version_blank s.formatting (word_at k.nvm) s.image k.cores h.shows))
      ∙ is.commits

  -- A turn that isn't the last.

  abbrev next : Kernel
  next = record k { nvm = m; work = work.Formats (record s { formatting = t }) }

  pub format_goes_on : turns_left t < turns_left s.formatting
      → TakesTurn old c LEADER (did.Inner why.Format) next
  format_goes_on fewer = record {
    goes = start_goes old next c why.Format (record {
      mode_is = refl;
      leader = refl;
      left = omega (arith, fewer);
      given = inr refl;
      rest = refl;
    }) refl operation (one_more_at_most k.nvm m one) refl counts.cuts;
    is_at = record {
      work = record { bytes = h.bytes; shows = shows; world = h.world; counted = h.counted; home = home };
      hands = tt;
      some = is.some;
      most = is.most;
      cores = is.cores;
      saved_cores = is.saved_cores;
      commits = commits_same;
      cuts = counts.cuts ∙ is.cuts;
    };
  }

  -- The last turn.

  module _ (now : Work) (begins : BeginsRecovery now m)
      (clean : HoldsClean (word_at m) (formatted (first_parts s.image k.cores)))
      (stand : PartsStand (formatted (first_parts s.image k.cores)) 0 (first_parts s.image k.cores))
      (are : ArePartsOf (λ channel. 0) (λ channel. 0) (first_parts s.image k.cores) (initial s.image k.cores))
      (sound : IsSound (first_world s.image k.cores)) where
    stands : PartsStand (durable_words (word_at m)) 0 parts
    stands =
        subst (λ (words : ℕ → ℕ). PartsStand words 0 parts) (sym (durable_are (word_at m) (formatted parts) clean)) stand

    version : (word_at m VERSION_AT).durable ≡ 0
    version = version_blank t (word_at m) s.image k.cores shows

    recovers_first : IsRecovering begins.start.recovery k.accepted m (first_world s.image k.cores)
    recovers_first = record {
      saved = parts;
      shows = begins.shows 0 parts (all_clean (word_at m) (formatted parts) clean) version stands;
      are = are;
      off = refl;
      sound = sound;
      counted = subst (λ (w : World). HasAccepted k.accepted w) h.world h.counted;
      home = home;
    }

    recovers : IsRecovering begins.start.recovery k.accepted m c.world
    recovers =
        subst (λ (w : World). IsRecovering begins.start.recovery k.accepted m w) (sym h.world) recovers_first

    abbrev last : Kernel
    last = record k { nvm = m; work = work.Recovers begins.start }

    last_left : left_of (work.Recovers begins.start) < left_of (work.Formats s)
    last_left = let few = begins.left in omega (arith, few)

    ends_at : TakesTurn old c LEADER (did.Inner why.Format) last
    ends_at = record {
      goes = start_goes old last c why.Format (record {
        mode_is = refl;
        leader = refl;
        left = last_left;
        given = inr refl;
        rest = ap (λ (b : Bool). record (side_of last) { mode = if b then FormattingMode else Recovering }) begins.first;
      }) refl operation (one_more_at_most k.nvm m one) refl counts.cuts;
      is_at = record {
        work = recovers;
        hands = tt;
        some = is.some;
        most = is.most;
        cores = is.cores;
        saved_cores = is.saved_cores;
        commits = commits_same;
        cuts = counts.cuts ∙ is.cuts;
      };
    }

    pub format_ends : TakesTurn old c LEADER (did.Inner why.Format) (record k { nvm = m; work = now })
    format_ends =
        subst (λ (x : Work). TakesTurn old c LEADER (did.Inner why.Format) (record k { nvm = m; work = x }))
        (sym begins.is) ends_at
