-- What recovery and the words of the memory keep together.
use Rattle.std.specs.Prelude.{◌≡◌, ◌≢◌, ℕ, ◌+◌, ◌-◌, ◌*◌, ◌<◌, ◌≤◌, ◌==◌, nat_lt, if◌then◌else◌, Option, Some, None, Bool, true, false}
use Rattle.sls_base.specs.declared.limits.TheConstants.{FRAME_WORDS, PAGES}
use Rattle.sls_base.specs.declared.fixed.TheConstants.{LEADER}
use Rattle.pmem_model.specs.Words.{Word}
use Rattle.pmem_model.specs.Events.{Kind, Cached, Ready, Clean, Over, ReadyOver}
use Rattle.pmem_model.specs.Maps.{Map, One, Both, row, IsKnown}
use Rattle.pmem_layout.specs.Places.{runtime_frame, frame_at}
use Rattle.page_store.specs.Slots.{Backup, slot_frame, slot_tag_at, slot_tag, IsBefore}
use Rattle.page_store.specs.Format.{Is}
use Rattle.page_store.specs.Stages.{stage_of, IsAt}
use Rattle.page_store.specs.Known.{Phase, Open, Fenced}
use Rattle.page_store.specs.declared.stage.PageStage.{PageStage}
use Rattle.page_store.specs.declared.stage.PageStage.TheVariants.{Fresh, Protected, Preparing, Writable}
use Rattle.page_store.specs.declared.stage.Origin.TheVariants.{Zeros, Copy}
use Rattle.page_store.specs.declared.stage.Writes.TheVariants.{Nothing, Stored, Flushed}
use Rattle.page_store.specs.declared.recovery.Step.{Step}
use Rattle.page_store.specs.declared.recovery.Step.TheVariants.{Read, FlushTag, FlushCopy}
use Rattle.page_store.specs.declared.recovery.Recovery.{Recovery}

-- How far recovery came with a page: as it was found; with its tag cleared, or its slot copied back, and not flushed
-- yet; passed, with its content in the runtime frame or with the slot copied back.
pub data Progress : Type 0 where
  Found : Progress
  Cleared : Progress
  Copied : Progress
  Plain : Progress
  Back : Progress

abbrev pub at_step : Step → Progress
at_step Read = Found
at_step FlushTag = Cleared
at_step FlushCopy = Copied

abbrev pub passed : PageStage → Progress
passed Fresh = Plain
passed Protected = Plain
passed (Preparing core next) = Plain
passed (Writable origin writes) = Back

unfoldable pub progress_of : Recovery → ℕ → Progress
progress_of r page =
    if nat_lt page r.page then passed (stage_of r.pages page) else (if page == r.page then at_step r.next else Found)

-- the leader has fenced at the end
abbrev pub is_back : Recovery → Bool
is_back r = r.is_fenced

abbrev pub phase_of : Bool → Phase
phase_of true = Fenced
phase_of false = Open

-- how many steps there are at most to the end: two a page, and the fence
abbrev pub steps_behind : Step → ℕ
steps_behind Read = 0
steps_behind FlushTag = 1
steps_behind FlushCopy = 1

abbrev pub steps_left : Recovery → ℕ
steps_left r = if r.is_fenced then 0 else 1 + (2 * (PAGES - r.page) - steps_behind r.next)

-- Kinds of words

abbrev pub back_runtime : Progress → Phase → Kind
back_runtime Found phase = Clean
back_runtime Cleared phase = Clean
back_runtime Copied phase = Cached
back_runtime Plain phase = Clean
back_runtime Back Open = Ready
back_runtime Back Fenced = Clean

abbrev pub back_tag : Progress → Phase → ℕ → Kind
back_tag Found phase old = Clean
back_tag Cleared phase old = Over old
back_tag Copied phase old = Clean
back_tag Plain Open old = ReadyOver old
back_tag Plain Fenced old = Clean
back_tag Back phase old = Clean

abbrev pub back_map : Progress → Phase → ℕ → (ℕ → ℕ) → (ℕ → ℕ) → ℕ → ℕ → Map
back_map progress phase page held kept old tag =
    Both (row (frame_at (runtime_frame page)) FRAME_WORDS (back_runtime progress phase) held)
    (Both (row (frame_at (slot_frame page Backup)) FRAME_WORDS Clean kept)
    (One (slot_tag_at page Backup) (back_tag progress phase old) tag))

-- The runtime frame reads `held`, the slot `kept` and its tag `tag`; the `old` tag is the one that recovery found.

-- the content is in the runtime frame, and neither tag is that of the version
pub record IsPlain (saved : Option (ℕ → ℕ)) (held : ℕ → ℕ) (old tag v : ℕ) : Type 0 where
  pub as_saved : Is saved held
  pub before : IsBefore Backup tag v
  pub other : old ≢ slot_tag Backup v

-- the content is in the slot, and the runtime frame has it too
pub record IsCopied (saved : Option (ℕ → ℕ)) (held kept : ℕ → ℕ) (tag v : ℕ) : Type 0 where
  pub as_saved : Is saved kept
  pub same : held ≡ kept
  pub tagged : tag ≡ slot_tag Backup v

abbrev pub BackHolds : Progress → Option (ℕ → ℕ) → (ℕ → ℕ) → (ℕ → ℕ) → ℕ → ℕ → ℕ → Type 0
BackHolds Found saved held kept old tag v =
    (tag ≡ slot_tag Backup v → Is saved kept) × (tag ≢ slot_tag Backup v → Is saved held)
BackHolds Cleared saved held kept old tag v = IsPlain saved held old tag v
BackHolds Copied saved held kept old tag v = IsCopied saved held kept tag v
BackHolds Plain saved held kept old tag v = IsPlain saved held old tag v
BackHolds Back saved held kept old tag v = IsCopied saved held kept tag v

pub record PageBack (progress : Progress) (f : ℕ → Word) (v page : ℕ) (saved : Option (ℕ → ℕ)) (phase : Phase)
    : Type 0 where
  pub held : ℕ → ℕ
  pub kept : ℕ → ℕ
  pub old : ℕ
  pub tag : ℕ
  pub holds : BackHolds progress saved held kept old tag v
  pub known : IsKnown LEADER (back_map progress phase page held kept old tag) f

-- a page that recovery has passed
abbrev pub IsPassed : PageStage → Type 0
IsPassed Fresh = ⊥
IsPassed Protected = Unit {0}
IsPassed (Preparing core next) = ⊥
IsPassed (Writable Zeros writes) = ⊥
IsPassed (Writable Copy Nothing) = Unit {0}
IsPassed (Writable Copy Stored) = ⊥
IsPassed (Writable Copy Flushed) = ⊥

-- At version `v` the pages read as `saved`, whatever is written back.
pub record RecoveryShows (r : Recovery) (f : ℕ → Word) (v : ℕ) (saved : ℕ → Option (ℕ → ℕ)) : Type 0 where
  pub at : IsAt r.pages v
  pub each : (page : ℕ) → page < PAGES → PageBack (progress_of r page) f v page (saved page) (phase_of r.is_fenced)
  pub done : (page : ℕ) → page < r.page → page < PAGES → IsPassed (stage_of r.pages page)
  pub full : r.is_fenced ≡ true → PAGES ≤ r.page

-- One page's progress changes.
pub record RecoveryMoves (r t : Recovery) (page : ℕ) (progress : Progress) : Type 0 where
  pub here : progress_of t page ≡ progress
  pub others : (i : ℕ) → i ≢ page → progress_of t i ≡ progress_of r i
  pub at : (v : ℕ) → IsAt r.pages v → IsAt t.pages v
  pub stages : (i : ℕ) → i ≢ page → stage_of t.pages i ≡ stage_of r.pages i

-- the pages, where one of which nothing is saved has what its runtime frame reads
abbrev pub content_or : Option (ℕ → ℕ) → (ℕ → ℕ) → ℕ → ℕ
content_or None words j = words j
content_or (Some content) words j = content j

abbrev pub filled : (ℕ → Option (ℕ → ℕ)) → (ℕ → Word) → ℕ → Option (ℕ → ℕ)
filled saved f page = Some (content_or (saved page) (λ j. (f (frame_at (runtime_frame page) + j)).cached))
