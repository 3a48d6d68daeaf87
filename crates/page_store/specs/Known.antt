-- What is known of the words of a page, computed from its stage.
use Rattle.std.specs.Prelude.{ℕ}
use Rattle.sls_base.specs.declared.limits.TheConstants.{FRAME_WORDS}
use Rattle.sls_base.specs.declared.fixed.TheConstants.{LEADER}
use Rattle.pmem_model.specs.Events.{Kind, Any, Cached, Ready, Clean, Over, ReadyOver}
use Rattle.pmem_model.specs.Maps.{Map, One, Both, row}
use Rattle.pmem_layout.specs.Places.{runtime_frame, frame_at}
use Rattle.page_store.specs.Slots.{Slot, Backup, slot_frame, slot_tag_at, slot_tag}
use Rattle.page_store.specs.declared.stage.PageStage.{PageStage}
use Rattle.page_store.specs.declared.stage.PageStage.TheVariants.{Fresh, Protected, Preparing, Writable}
use Rattle.page_store.specs.declared.stage.Preparation.{Preparation}
use Rattle.page_store.specs.declared.stage.Preparation.TheVariants.{FlushCopy, FenceCopy, StoreTag, FlushTag, FenceTag}
use Rattle.page_store.specs.declared.stage.Origin.{Origin}
use Rattle.page_store.specs.declared.stage.Origin.TheVariants.{Zeros, Copy}
use Rattle.page_store.specs.declared.stage.Writes.{Writes}
use Rattle.page_store.specs.declared.stage.Writes.TheVariants.{Nothing, Stored, Flushed}

-- whether the leader fenced what it flushed of the pages that were stored to
pub data Phase : Type 0 where
  Open : Phase
  Fenced : Phase

-- the core for which words of the page may be in flight
abbrev pub flusher : PageStage → ℕ
flusher Fresh = LEADER
flusher Protected = LEADER
flusher (Preparing core next) = core
flusher (Writable origin writes) = LEADER

-- Kinds of words

abbrev pub written_kind : Writes → Origin → Phase → Kind
written_kind Nothing Zeros phase = Cached
written_kind Nothing Copy phase = Clean
written_kind Stored origin phase = Cached
written_kind Flushed origin Open = Ready
written_kind Flushed origin Fenced = Clean

abbrev pub runtime_kind : PageStage → Phase → Kind
runtime_kind Fresh phase = Any
runtime_kind Protected phase = Clean
runtime_kind (Preparing core next) phase = Clean
runtime_kind (Writable origin writes) phase = written_kind writes origin phase

abbrev pub copy_kind : Preparation → Kind
copy_kind FlushCopy = Cached
copy_kind FenceCopy = Ready
copy_kind StoreTag = Clean
copy_kind FlushTag = Clean
copy_kind FenceTag = Clean

abbrev pub kept_kind : Origin → Kind
kept_kind Zeros = Any
kept_kind Copy = Clean

abbrev pub slot_kind : PageStage → Kind
slot_kind Fresh = Any
slot_kind Protected = Any
slot_kind (Preparing core next) = copy_kind next
slot_kind (Writable origin writes) = kept_kind origin

-- a tag is stored over the `old` one
abbrev pub tagging_kind : Preparation → ℕ → Kind
tagging_kind FlushCopy old = Clean
tagging_kind FenceCopy old = Clean
tagging_kind StoreTag old = Clean
tagging_kind FlushTag old = Over old
tagging_kind FenceTag old = ReadyOver old

abbrev pub tag_kind : PageStage → ℕ → Kind
tag_kind Fresh old = Clean
tag_kind Protected old = Clean
tag_kind (Preparing core next) old = tagging_kind next old
tag_kind (Writable origin writes) old = Clean

-- The tag that is read

abbrev pub prepared_tag : Preparation → ℕ → ℕ → ℕ
prepared_tag FlushCopy new old = old
prepared_tag FenceCopy new old = old
prepared_tag StoreTag new old = old
prepared_tag FlushTag new old = new
prepared_tag FenceTag new old = new

abbrev pub kept_tag : Origin → ℕ → ℕ → ℕ
kept_tag Zeros new old = old
kept_tag Copy new old = new

abbrev pub tag_now : PageStage → ℕ → ℕ → ℕ
tag_now Fresh new old = old
tag_now Protected new old = old
tag_now (Preparing core next) new old = prepared_tag next new old
tag_now (Writable origin writes) new old = kept_tag origin new old

-- Maps: of a slot, of the runtime frame, and of the page

abbrev pub slot_map : PageStage → ℕ → Slot → ℕ → (ℕ → ℕ) → ℕ → Map
slot_map stage page slot v kept old =
    Both (row (frame_at (slot_frame page slot)) FRAME_WORDS (slot_kind stage) kept)
    (One (slot_tag_at page slot) (tag_kind stage old) (tag_now stage (slot_tag slot v) old))

abbrev pub runtime_map : PageStage → Phase → ℕ → (ℕ → ℕ) → Map
runtime_map stage phase page held = row (frame_at (runtime_frame page)) FRAME_WORDS (runtime_kind stage phase) held

abbrev pub page_map : PageStage → Phase → ℕ → ℕ → (ℕ → ℕ) → (ℕ → ℕ) → ℕ → Map
page_map stage phase page v held kept old =
    Both (runtime_map stage phase page held) (slot_map stage page Backup v kept old)
