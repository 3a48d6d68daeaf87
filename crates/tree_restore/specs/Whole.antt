-- Which saved parts can be put back, and how far that is done.
use Rattle.std.specs.Prelude.{◌≡◌, ℕ, ◌<◌, ◌≤◌, [], Option, None, is_some}
use Rattle.sls_base.specs.declared.limits.TheConstants.{OBJECTS, PAGES}
use Rattle.pmem_layout.specs.declared.number.Number.TheVariants.{Object}
use Rattle.pmem_layout.specs.Numbers.{index_of}
use Rattle.link_lists.specs.Lists.{list_at}
use Rattle.kobj_table.specs.declared.slot.Slot.TheVariants.{Empty}
use Rattle.kobj_table.specs.declared.objects.Objects.{Objects}
use Rattle.kobj_table.specs.Objects.{Rest, slot_at}
use Rattle.kobj_codec.specs.declared.obj.Obj.{Obj}
use Rattle.object_records.specs.Records.{HasOwnLists, record_at, state_of_records}
use Rattle.object_records.specs.Ranges.{IsSoundState}
use Rattle.object_records.specs.Pages.{is_content}
use Rattle.alloc_journal.specs.Work.{IsExact, Work}
use Rattle.object_root.specs.Format.{ObjectsStand}
use Rattle.durable_state.specs.Parts.{Parts}

-- The parts are those of a sound state: with some bytes of pages, entries and inputs, that is what the records stand
-- for. Of each object that there is the number is in use, and words are told of the pages on which records have content,
-- and of no others.
pub record AreWhole (p : Parts) : Type 0 where
  pub rest : Rest
  pub sound : IsSoundState (state_of_records p.objects rest)
  pub none : (i : ℕ) → OBJECTS ≤ i → p.objects i ≡ None
  pub used : (i : ℕ) → i < OBJECTS → p.numbers (index_of (Object i)) ≡ is_some (p.objects i)
  pub pages : (page : ℕ) → page < PAGES → is_some (p.pages page) ≡ is_content p.objects page

-- Plain words have the records of whole parts, and it is known which numbers are in use.
pub record CanBeRead (words : ℕ → ℕ) (work : Work) (version : ℕ) (saved : Parts) : Type 0 where
  pub whole : AreWhole saved
  pub numbers : IsExact work saved.numbers
  pub stand : ObjectsStand words version saved.objects

-- Nothing stands at the numbers from one on, and their lists are empty. Each list that has threads is that of what
-- stands at its number.
pub record AreEmptyFrom (o : Objects) (count : ℕ) : Type 0 where
  pub slots : (i : ℕ) → count ≤ i → slot_at o i ≡ Empty
  pub lists : (i : ℕ) → count ≤ i → list_at o.links i ≡ []
  pub own : HasOwnLists o

-- the objects of the numbers below one have these records
abbrev pub HaveRecords : Objects → ℕ → (ℕ → Option Obj) → Type 0
HaveRecords o count records = (i : ℕ) → i < count → record_at o i ≡ records i
