-- What durable words mean to the machine.
use Rattle.std.specs.Prelude.{◌≡◌, ℕ, ◌<◌, ◌≤◌, Bool, true, false, None, is_some}
use Rattle.sls_base.specs.declared.limits.TheConstants.{OBJECTS}
use Rattle.pmem_layout.specs.declared.number.Number.TheVariants.{Object}
use Rattle.pmem_layout.specs.Numbers.{index_of}
use Rattle.object_records.specs.Pages.{is_content}
use Rattle.page_store.specs.Slots.{Slot, HasSlot}
use Rattle.durable_state.specs.Parts.{Parts, PartsStand}
use Rattle.saved_state.specs.State.{Stands}
use Rattle.first_format.specs.Formatted.{Formats}
use Rattle.machine_contract.specs.Shown.{Format}

-- Words say at a version that an object has content on a page: parts of theirs do, in which each number that is in use
-- has its record.
pub record HaveContent (words : ℕ → ℕ) (version page : ℕ) : Type 0 where
  pub parts : Parts
  pub stand : PartsStand words version parts
  pub used : (id : ℕ) → id < OBJECTS → parts.numbers (index_of (Object id)) ≡ is_some (parts.objects id)
  pub none : (id : ℕ) → OBJECTS ≤ id → parts.objects id ≡ None
  pub content : is_content parts.objects page ≡ true

-- The page isn't fresh at the version, and a slot of it has the version's tag.
pub record IsTagged (words : ℕ → ℕ) (version page : ℕ) : Type 0 where
  pub content : HaveContent words version page
  pub slot : Slot
  pub tagged : HasSlot words page slot version

-- no page is copied to a spare
abbrev pub no_spare : (ℕ → ℕ) → ℕ → ℕ → Bool
no_spare words version spare = false

-- Words stand for a state by the parts of the version in the version word, formatting stores the first version, and
-- there is no board.
abbrev pub format : Format
format = record {
  Stands = Stands;
  Formats = Formats;
  Tagged = IsTagged;
  spare_has = no_spare;
  uses_spares = false;
}
