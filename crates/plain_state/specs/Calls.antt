-- The calls of the kernel: a register names one by its number, and the registers from x10 on have the arguments. What each
-- names, and what it needs of that.
use Rattle.std.specs.Prelude.{ℕ, ◌+◌, List, [], ◌∷◌, Option, Some, None, is_none, position, slice_get, slice_index, slice_index_or}
use Rattle.sls_base.specs.declared.rights.TheConstants.{READ, WRITE, GRANT}
use Rattle.sls_base.specs.declared.thread.Thread.{Thread as ThreadRecord}
use Rattle.plain_state.specs.declared.objects.Capability.{Capability}
use Rattle.plain_state.specs.declared.objects.Kind.{Kind}
use Rattle.plain_state.specs.declared.objects.Kind.TheVariants.{AnyKind, GroupKind, SpaceKind, MemoryKind, ConnectionKind, NotificationKind, OutputKind, InputKind}
use Rattle.plain_state.specs.declared.calls.TheConstants.{CALL_NUMBER, FIRST_ARGUMENT}
use Rattle.plain_state.specs.declared.calls.Call.{Call}
use Rattle.plain_state.specs.declared.calls.Call.TheVariants.{Yield, Halt, Put, Get, MemNew, Map, Unmap, SpaceNew, GroupNew, CapCopy, CapDrop, ThreadNew, NoteNew, Signal, Wait, ConnNew, ConnCall, Serve, Checkpoint}
use Rattle.plain_state.specs.declared.calls.Need.{Need}
use Rattle.plain_state.specs.Objects.{Object, slots_of}
use Rattle.plain_state.specs.States.{State}

-- the calls by number, from 0 on; no other number names one
abbrev pub calls : List Call
calls =
    Yield ∷ Halt ∷ Put ∷ Get ∷ MemNew ∷ Map ∷ Unmap ∷ SpaceNew ∷ GroupNew ∷ CapCopy ∷ CapDrop ∷ ThreadNew ∷ NoteNew
    ∷ Signal ∷ Wait ∷ ConnNew ∷ ConnCall ∷ Serve ∷ Checkpoint ∷ []

-- the call that a thread names
abbrev pub call_named : ThreadRecord → Option Call
call_named thread = slice_get calls (slice_index thread.x CALL_NUMBER)

-- The arguments, in order from argument 0 on, are by call:
--   put(slot, address, length); get(slot, address, room); mem_new(pages); map(space, memory, base, first, count, rights);
--   unmap(space, base); cap_copy(slot, group, rights); cap_drop(group, place); thread_new(group, space, entry, value);
--   signal(notification); wait(notification); call(connection, a, b); serve(connection, a, b).
abbrev pub arg : ThreadRecord → ℕ → ℕ
arg thread i = slice_index thread.x (FIRST_ARGUMENT + i)

-- Capabilities are named by slots of the caller's own group.

-- the capability in a slot; none where the slot is empty, and none where there is no such slot
abbrev pub cap_in : List (Option Capability) → ℕ → Option Capability
cap_in slots slot = slice_index_or slots slot None

-- the capability that argument i names
abbrev pub cap_named : State → ThreadRecord → ℕ → Option Capability
cap_named s thread i = cap_in (slots_of (s.objects thread.group)) (arg thread i)

-- its object and its rights, which are of use where it is there

abbrev pub object_of_cap : Option Capability → ℕ
object_of_cap (Some cap) = cap.object
object_of_cap None = 0

abbrev pub rights_of_cap : Option Capability → ℕ
rights_of_cap (Some cap) = cap.rights
rights_of_cap None = 0

-- the number of the object that argument i names, and that object
abbrev pub id_named : State → ThreadRecord → ℕ → ℕ
id_named s thread i = object_of_cap (cap_named s thread i)

abbrev pub named : State → ThreadRecord → ℕ → Option Object
named s thread i = s.objects (id_named s thread i)

-- the lowest free slot
abbrev pub free_slot : List (Option Capability) → Option ℕ
free_slot slots = position is_none slots

-- What a call needs: that argument i names an object of a kind, by a capability with some rights.
abbrev pub need : ℕ → Kind → ℕ → Need
need i kind rights = record { argument = i; kind = kind; rights = rights }

abbrev pub needs : ThreadRecord → Call → List Need
needs thread Put = need 0 OutputKind WRITE ∷ []
needs thread Get = need 0 InputKind READ ∷ []
needs thread Map = need 0 SpaceKind WRITE ∷ need 1 MemoryKind (arg thread 5) ∷ []
needs thread Unmap = need 0 SpaceKind WRITE ∷ []
needs thread CapCopy = need 0 AnyKind GRANT ∷ need 0 AnyKind (arg thread 2) ∷ need 1 GroupKind WRITE ∷ []
needs thread CapDrop = need 0 GroupKind WRITE ∷ []
needs thread ThreadNew = need 0 GroupKind WRITE ∷ need 1 SpaceKind WRITE ∷ []
needs thread Signal = need 0 NotificationKind WRITE ∷ []
needs thread Wait = need 0 NotificationKind READ ∷ []
needs thread ConnCall = need 0 ConnectionKind WRITE ∷ []
needs thread Serve = need 0 ConnectionKind READ ∷ []
needs thread _ = []
