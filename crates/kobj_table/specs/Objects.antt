-- Which plain state the objects are.
use Rattle.std.specs.Prelude.{◌≡◌, ◌≢◌, ℕ, ◌==◌, true, false, if◌then◌else◌, List, [], Option, slice_index_or, slice_set}
use Rattle.link_lists.specs.Lists.{list_at}
use Rattle.ipc_note.specs.declared.lists.TheConstants.{RUN_QUEUE}
use Rattle.sls_base.specs.declared.fixed.TheConstants.{SCHEDULER}
use Rattle.plain_state.specs.declared.objects.Occupant.{Occupant}
use Rattle.plain_state.specs.declared.objects.Kind.{Kind}
use Rattle.plain_model.specs.Objects.{Object, is_kind}
use Rattle.plain_model.specs.States.{State, with_object}
use Rattle.kobj_table.specs.declared.slot.Slot.{Slot}
use Rattle.kobj_table.specs.declared.slot.Slot.TheVariants.{Empty}
use Rattle.kobj_table.specs.declared.objects.Objects.{Objects}
use Rattle.kobj_table.specs.Slots.{object_of, cores_of, has_list}

abbrev pub slot_at : Objects → ℕ → Slot
slot_at o i = slice_index_or o.slots i Empty

-- The object of a number, where each page number stands for some content.
abbrev pub object_at : (ℕ → ℕ → ℕ) → Objects → ℕ → Option Object
object_at content o i = object_of content (slot_at o i) (list_at o.links i)

-- whatever the content of pages is, no object of this kind stands at a number
abbrev pub IsOtherThan : Kind → Objects → ℕ → Type 0
IsOtherThan kind o i = (content : ℕ → ℕ → ℕ) → is_kind kind (object_at content o i) ≡ false

-- what of a state doesn't stand in the objects: the content that each page number stands for, the entries that were put
-- on each channel, and the inputs that wait
pub record Rest : Type 0 where
  pub content : ℕ → ℕ → ℕ
  pub out : ℕ → List (List ℕ)
  pub inputs : List (List ℕ)

-- The state that the objects are, with that.
unfoldable pub state_of : Objects → Rest → State
state_of o rest = record {
  objects = object_at rest.content o;
  queue = list_at o.links RUN_QUEUE;
  cores = cores_of (slot_at o SCHEDULER);
  out = rest.out;
  inputs = rest.inputs;
}

-- the state with another object at a number, with another run queue, or with something else on a core

abbrev pub state_with_object : State → ℕ → Object → State
state_with_object s id object = record s { objects = with_object s.objects id object }

-- with what is told at a number, which may be nothing
abbrev pub objects_with : (ℕ → Option Object) → ℕ → Option Object → ℕ → Option Object
objects_with objects id object i = if i == id then object else objects i

abbrev pub state_with_at : State → ℕ → Option Object → State
state_with_at s id object = record s { objects = objects_with s.objects id object }

abbrev pub state_with_queue : State → List ℕ → State
state_with_queue s queue = record s { queue = queue }

abbrev pub state_with_core : State → ℕ → Option Occupant → State
state_with_core s core occupant = record s { cores = slice_set s.cores core occupant }

-- Something came to stand at a number. All other slots are as before, and so are all lists.
pub record Puts (old new : Objects) (id : ℕ) (slot : Slot) : Type 0 where
  pub there : slot_at new id ≡ slot
  pub others : (i : ℕ) → i ≢ id → slot_at new i ≡ slot_at old i
  pub links : new.links ≡ old.links

-- only the run queue, and the numbers of objects that have a list, have threads
abbrev pub HasNoStrays : Objects → Type 0
HasNoStrays o = (i : ℕ) → i ≢ RUN_QUEUE → has_list (slot_at o i) ≡ false → list_at o.links i ≡ []

-- no list of this number has threads where it is the list of no object; list 1 is the run queue
abbrev pub HasNoStraysAt : Objects → Slot → ℕ → Type 0
HasNoStraysAt o slot id = id ≢ RUN_QUEUE → has_list slot ≡ false → list_at o.links id ≡ []

-- The lists alone changed, and of those that belong to an object none.
pub record ListsAlone (old new : Objects) : Type 0 where
  pub slots : (i : ℕ) → slot_at new i ≡ slot_at old i
  pub lists : (i : ℕ) → has_list (slot_at old i) ≡ true → list_at new.links i ≡ list_at old.links i
