-- What a `PageStore` and the words of the memory keep together, through each step of any core and each event.
use Rattle.std.specs.Prelude.{◌≡◌, ℕ, ◌-◌, ◌<◌, ◌==◌, if◌then◌else◌, Option, Some, None}
use Rattle.sls_base.specs.declared.limits.TheConstants.{FRAME_WORDS, PAGES}
use Rattle.pmem_model.specs.Words.{Word, is_within}
use Rattle.pmem_model.specs.Maps.{IsKnown}
use Rattle.page_store.specs.Slots.{Backup, IsBefore, IsUpTo}
use Rattle.page_store.specs.Format.{Is}
use Rattle.page_store.specs.Stages.{stage_of, IsAt}
use Rattle.page_store.specs.Known.{Phase, flusher, page_map}
use Rattle.page_store.specs.declared.stage.PageStage.{PageStage}
use Rattle.page_store.specs.declared.stage.PageStage.TheVariants.{Fresh, Protected, Preparing, Writable}
use Rattle.page_store.specs.declared.stage.Origin.{Origin}
use Rattle.page_store.specs.declared.stage.Origin.TheVariants.{Zeros, Copy}
use Rattle.page_store.specs.declared.stage.Writes.{Writes}
use Rattle.page_store.specs.declared.stage.Writes.TheVariants.{Nothing, Stored, Flushed}
use Rattle.page_store.specs.declared.store.PageStore.{PageStore}

-- these words are the content, and there is one
abbrev pub Has : Option (ℕ → ℕ) → (ℕ → ℕ) → Type 0
Has None words = ⊥
Has (Some content) words = (j : ℕ) → j < FRAME_WORDS → words j ≡ content j

-- How the contents of a page, what its frames read, and the older tag of its slot hang together: `saved` is the content
-- at the committed version, and `now` the running one; the runtime frame reads `held` and the slot `kept`.

-- nothing of the page is saved
pub record NothingSaved (saved : Option (ℕ → ℕ)) (old v : ℕ) : Type 0 where
  pub none : saved ≡ None
  pub older : IsUpTo Backup old v

-- the running content is the saved one, which no slot has
pub record IsUnstored (saved now : Option (ℕ → ℕ)) (held : ℕ → ℕ) (old v : ℕ) : Type 0 where
  pub as_saved : Is saved held
  pub as_now : Has now held
  pub older : IsBefore Backup old v

abbrev pub OriginHolds : Origin → Option (ℕ → ℕ) → (ℕ → ℕ) → ℕ → ℕ → Type 0
OriginHolds Zeros saved kept old v = NothingSaved saved old v
OriginHolds Copy saved kept old v = Is saved kept

abbrev pub WritesHold : Writes → Origin → Option (ℕ → ℕ) → (ℕ → ℕ) → (ℕ → ℕ) → Type 0
WritesHold Nothing Zeros now held kept = (now ≡ None) × Has (Some (λ j. 0)) held
WritesHold Nothing Copy now held kept = Has now held × (held ≡ kept)
WritesHold Stored origin now held kept = Has now held
WritesHold Flushed origin now held kept = Has now held

abbrev pub Holds : PageStage → Option (ℕ → ℕ) → Option (ℕ → ℕ) → (ℕ → ℕ) → (ℕ → ℕ) → ℕ → ℕ → Type 0
Holds Fresh saved now held kept old v = NothingSaved saved old v × (now ≡ None)
Holds Protected saved now held kept old v = IsUnstored saved now held old v
Holds (Preparing core next) saved now held kept old v = IsUnstored saved now held old v × (held ≡ kept)
Holds (Writable origin writes) saved now held kept old v =
    OriginHolds origin saved kept old v × WritesHold writes origin now held kept

-- One page.
pub record PageShows (stage : PageStage) (f : ℕ → Word) (v page : ℕ) (saved now : Option (ℕ → ℕ)) (phase : Phase)
    : Type 0 where
  pub held : ℕ → ℕ
  pub kept : ℕ → ℕ
  pub old : ℕ
  pub holds : Holds stage saved now held kept old v
  pub known : IsKnown (flusher stage) (page_map stage phase page v held kept old) f

-- At version `v` the pages read as `saved`, whatever is written back; the running pages are `now`. Of a page that is
-- fresh or not in use there is no content.
pub record PagesShow (s : PageStore) (f : ℕ → Word) (v : ℕ) (saved now : ℕ → Option (ℕ → ℕ)) (phase : Phase)
    : Type 0 where
  pub at : IsAt s v
  pub each : (page : ℕ) → page < PAGES → PageShows (stage_of s page) f v page (saved page) (now page) phase

-- What a store makes of the running pages

-- the words of a page; a fresh one is zero
abbrev pub words_of : Option (ℕ → ℕ) → ℕ → ℕ
words_of None j = 0
words_of (Some content) j = content j

-- `count` words from `at` on are others
abbrev pub with_words : (ℕ → ℕ) → ℕ → ℕ → (ℕ → ℕ) → ℕ → ℕ
with_words words at count value j = if is_within at count j then value (j - at) else words j

-- the pages, where one is another
abbrev pub with_page : (ℕ → Option (ℕ → ℕ)) → ℕ → Option (ℕ → ℕ) → ℕ → Option (ℕ → ℕ)
with_page pages page content i = if i == page then content else pages i

abbrev pub after_store : (ℕ → Option (ℕ → ℕ)) → ℕ → ℕ → ℕ → (ℕ → ℕ) → ℕ → Option (ℕ → ℕ)
after_store now page at count value = with_page now page (Some (with_words (words_of (now page)) at count value))
