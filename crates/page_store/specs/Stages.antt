-- The stages of pages.
use Rattle.std.specs.Prelude.{◌≡◌, ◌≢◌, ℕ, ◌<◌, ◌≤◌, ◌==◌, if◌then◌else◌, slice_index_or}
use Rattle.sls_base.specs.declared.limits.TheConstants.{PAGES}
use Rattle.page_store.specs.declared.stage.PageStage.{PageStage}
use Rattle.page_store.specs.declared.stage.PageStage.TheVariants.{Fresh, Protected, Preparing, Writable}
use Rattle.page_store.specs.declared.stage.Preparation.TheVariants.{FlushCopy, FenceCopy, StoreTag, FlushTag, FenceTag}
use Rattle.page_store.specs.declared.stage.Origin.TheVariants.{Zeros, Copy}
use Rattle.page_store.specs.declared.stage.Writes.TheVariants.{Nothing, Stored, Flushed}
use Rattle.page_store.specs.declared.stage.PageState.{PageState}
use Rattle.page_store.specs.declared.stage.PageState.TheVariants as state
use Rattle.page_store.specs.declared.store.Entry.{Entry}
use Rattle.page_store.specs.declared.store.PageStore.{PageStore}

-- what may be done with a page
abbrev pub state_at : PageStage → PageState
state_at Fresh = state.Fresh
state_at Protected = state.Protected
state_at (Preparing core next) = state.Preparing core
state_at (Writable origin writes) = state.Writable

-- after a commit a page is protected, but for one that nothing was stored to
abbrev pub after : PageStage → PageStage
after Fresh = Fresh
after Protected = Protected
after (Preparing core next) = Protected
after (Writable Zeros Nothing) = Fresh
after (Writable Zeros Stored) = Protected
after (Writable Zeros Flushed) = Protected
after (Writable Copy writes) = Protected

-- what was entered of a page before the last commit is told as it is after it
abbrev pub stage_at : ℕ → Entry → PageStage
stage_at version entry = if entry.version == version then entry.stage else after entry.stage

-- behind the last page there is none
abbrev pub no_entry : Entry
no_entry = record { stage = Fresh; version = 0 }

unfoldable pub entry_of : PageStore → ℕ → Entry
entry_of s page = slice_index_or s.entries page no_entry

unfoldable pub stage_of : PageStore → ℕ → PageStage
stage_of s page = stage_at s.version (entry_of s page)

abbrev pub state_of : PageStore → ℕ → PageState
state_of s page = state_at (stage_of s page)

-- it is a store of this version
pub record IsAt (s : PageStore) (v : ℕ) : Type 0 where
  pub version : s.version ≡ v
  pub entries : (page : ℕ) → page < PAGES → (entry_of s page).version ≤ v

-- One page came to a stage.
pub record Moves (s t : PageStore) (page : ℕ) (stage : PageStage) : Type 0 where
  pub here : stage_of t page ≡ stage
  pub others : (i : ℕ) → i ≢ page → stage_of t i ≡ stage_of s i
  pub at : (v : ℕ) → IsAt s v → IsAt t v

-- Steps

-- a page that the core may copy to its slot, and one that it may tag
abbrev pub MayCopy : PageStage → ℕ → Type 0
MayCopy Protected core = Unit {0}
MayCopy (Preparing c FlushCopy) core = c ≡ core
MayCopy (Preparing c FenceCopy) core = c ≡ core
MayCopy _ core = ⊥

abbrev pub MayTag : PageStage → ℕ → Type 0
MayTag (Preparing c StoreTag) core = c ≡ core
MayTag (Preparing c FlushTag) core = c ≡ core
MayTag (Preparing c FenceTag) core = c ≡ core
MayTag _ core = ⊥

-- the stage after a step of the copy by this core, or of the tag
abbrev pub copied : PageStage → ℕ → PageStage
copied Protected core = Preparing core FlushCopy
copied (Preparing c FlushCopy) core = Preparing c FenceCopy
copied (Preparing c FenceCopy) core = Preparing c StoreTag
copied stage core = stage

abbrev pub tagged : PageStage → PageStage
tagged (Preparing c StoreTag) = Preparing c FlushTag
tagged (Preparing c FlushTag) = Preparing c FenceTag
tagged (Preparing c FenceTag) = Writable Copy Nothing
tagged stage = stage

-- after a store to it, and after the leader flushed it
abbrev pub stored : PageStage → PageStage
stored (Writable origin writes) = Writable origin Stored
stored stage = stage

abbrev pub flushed : PageStage → PageStage
flushed (Writable origin Stored) = Writable origin Flushed
flushed stage = stage

-- no core prepares it, and what was stored to it is flushed
abbrev pub IsFlushed : PageStage → Type 0
IsFlushed Fresh = Unit {0}
IsFlushed Protected = Unit {0}
IsFlushed (Preparing core next) = ⊥
IsFlushed (Writable origin Nothing) = Unit {0}
IsFlushed (Writable origin Stored) = ⊥
IsFlushed (Writable origin Flushed) = Unit {0}

-- a page of which no version needs to be kept any more may be forgotten, if no core prepares it
abbrev pub IsSettled : PageStage → Type 0
IsSettled Fresh = Unit {0}
IsSettled Protected = Unit {0}
IsSettled (Preparing core next) = ⊥
IsSettled (Writable origin writes) = Unit {0}

-- Nothing was stored to a page since the committed version. It may be writable, where a slot has its content of that.
abbrev pub IsAsRecovered : PageStage → Type 0
IsAsRecovered Fresh = Unit {0}
IsAsRecovered Protected = Unit {0}
IsAsRecovered (Writable Copy Nothing) = Unit {0}
IsAsRecovered _ = ⊥
