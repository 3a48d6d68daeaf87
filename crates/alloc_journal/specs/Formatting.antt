-- How the first base agrees with the words of a memory that is formatted.
use Rattle.std.specs.Prelude.{◌≡◌, ℕ, ◌+◌, ◌<◌, slice_index}
use Rattle.pmem_model.specs.Words.{Word}
use Rattle.pmem_model.specs.Events.{Kind, Any, Cached, Ready, Clean, WordIs}
use Rattle.pmem_layout.specs.declared.places.TheConstants.{LOG_HEAD_AT, OBJECT_BASE_AT}
use Rattle.alloc_journal.specs.declared.bits.TheConstants.{BASE_WORDS}
use Rattle.sls_base.specs.declared.fixed.TheConstants.{LEADER}
use Rattle.alloc_journal.specs.declared.journal.Stage.{Stage}
use Rattle.alloc_journal.specs.declared.journal.Stage.TheVariants.{Unformatted, FirstStored, FirstInFlight}
use Rattle.alloc_journal.specs.Work.{Work}

-- what is known of the words of the base
abbrev pub first_kind : Stage → Kind
first_kind Unformatted = Any
first_kind FirstStored = Cached
first_kind FirstInFlight = Ready
first_kind _ = Clean

-- There is no log, the version is 0, and the base is to have these numbers.
pub record FormatShows (w : Work) (f : ℕ → Word) : Type 0 where
  pub version_is : w.version ≡ 0
  pub no_entries : w.entries ≡ 0
  pub head_word : WordIs LEADER Clean (f LOG_HEAD_AT) 0
  pub base_words : (k : ℕ) → k < BASE_WORDS
      → WordIs LEADER (first_kind w.stage) (f (OBJECT_BASE_AT + k)) (slice_index w.committed k)
