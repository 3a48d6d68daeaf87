-- What a step makes of a stage and of a phase.
use Rattle.std.specs.Prelude.{◌≡◌, ◌⊎◌, ℕ, ◌+◌, ◌-◌, ◌*◌, Bool, true, false}
use Rattle.sls_base.specs.declared.limits.TheConstants.{OBJECTS}
use Rattle.pmem_model.specs.Memory.{Memory, count_up}
use Rattle.pmem_layout.specs.declared.places.TheConstants.{SLOTS}
use Rattle.object_root.specs.declared.slot.Slot.{Slot}
use Rattle.object_root.specs.declared.stage.Stage.{Stage}
use Rattle.object_root.specs.declared.stage.Stage.TheVariants.{Idle, Stored, Flushed, TagStored, TagFlushed}
use Rattle.object_root.specs.declared.stage.Phase.{Phase}
use Rattle.object_root.specs.declared.stage.Phase.TheVariants.{Clearing, Cleared, Records, Tags, Tagged}

-- A step that writes a record leads from one stage to another, and is the last or isn't: while records are written, the
-- record is stored, and then it is flushed. Otherwise nothing is done.
abbrev pub Writes : Phase → Stage → Stage → Bool → Type 0
Writes Records Idle new last = (slot : Slot) × (new ≡ Stored slot) × (last ≡ false)
Writes Records (Stored slot) new last = (new ≡ Flushed slot) × (last ≡ true)
Writes phase stage new last = (new ≡ stage) × (last ≡ true)

-- So does a step that stores the tag, once records are fenced.
abbrev pub StoresTag : Phase → Stage → Stage → Bool → Type 0
StoresTag Tags (Flushed slot) new last = (new ≡ TagStored slot) × (last ≡ false)
StoresTag Tags (TagStored slot) new last = (new ≡ TagFlushed slot) × (last ≡ true)
StoresTag phase stage new last = (new ≡ stage) × (last ≡ true)

-- the phase after a fence of records, or of tags
abbrev pub fenced : Phase → Phase
fenced Records = Tags
fenced Tags = Tagged
fenced phase = phase

-- how many steps of recovery there are before the last of it was done
abbrev pub steps_left : Phase → ℕ
steps_left (Clearing at) = SLOTS * OBJECTS - at + 2
steps_left Cleared = 1
steps_left phase = 0

-- at most one operation on the memory
abbrev pub AtMostOne : Memory → Memory → Type 0
AtMostOne old new = (new.ops ≡ old.ops) ⊎ (new.ops ≡ count_up old.ops)
