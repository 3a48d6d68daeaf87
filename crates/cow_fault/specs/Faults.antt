-- The steps of a fault.
use Rattle.std.specs.Prelude.{◌≡◌, ℕ}
use Rattle.page_store.specs.declared.stage.PageStage.{PageStage}
use Rattle.page_store.specs.declared.stage.PageStage.TheVariants.{Fresh, Protected, Preparing, Writable}
use Rattle.page_store.specs.declared.stage.Preparation.TheVariants.{FlushCopy, FenceCopy, StoreTag, FlushTag, FenceTag}
use Rattle.page_store.specs.declared.stage.Origin.TheVariants.{Zeros, Copy}
use Rattle.page_store.specs.declared.stage.Writes.TheVariants.{Nothing}
use Rattle.page_store.specs.declared.stage.PageState.{PageState}
use Rattle.page_store.specs.declared.stage.PageState.TheVariants as state

-- the core may take a step of the page's fault
abbrev pub MayFault : PageState → ℕ → Type 0
MayFault state.Fresh core = Unit {0}
MayFault state.Protected core = Unit {0}
MayFault state.Writable core = ⊥
MayFault state.Away core = ⊥
MayFault (state.Preparing c) core = c ≡ core

-- the stage after a step of this core
abbrev pub faulted : PageStage → ℕ → PageStage
faulted Fresh core = Writable Zeros Nothing
faulted Protected core = Preparing core FlushCopy
faulted (Preparing c FlushCopy) core = Preparing c FenceCopy
faulted (Preparing c FenceCopy) core = Preparing c StoreTag
faulted (Preparing c StoreTag) core = Preparing c FlushTag
faulted (Preparing c FlushTag) core = Preparing c FenceTag
faulted (Preparing c FenceTag) core = Writable Copy Nothing
faulted (Writable origin writes) core = Writable origin writes

-- how many steps there are to the end
abbrev pub steps_left : PageStage → ℕ
steps_left Fresh = 1
steps_left Protected = 6
steps_left (Preparing core FlushCopy) = 5
steps_left (Preparing core FenceCopy) = 4
steps_left (Preparing core StoreTag) = 3
steps_left (Preparing core FlushTag) = 2
steps_left (Preparing core FenceTag) = 1
steps_left (Writable origin writes) = 0
