-- When the running kernel's values are those of a world.
use Rattle.std.specs.Prelude.{◌≡◌, ℕ, true, None, List, [], length, option_map, slice_get}
use Rattle.sls_base.specs.declared.fixed.TheConstants.{SCHEDULER}
use Rattle.sls_base.specs.declared.thread.Thread.{Thread as ThreadRecord}
use Rattle.plain_state.specs.declared.calls.Call.{Call}
use Rattle.plain_state.specs.States.{State}
use Rattle.plain_state.specs.Worlds.{World}
use Rattle.plain_state.specs.CallRefusals.{refusal_of}
use Rattle.plain_laws.specs.Places.{IsPlaced}
use Rattle.plain_laws.specs.Laws.{AreInRange}
use Rattle.plain_laws.specs.Sound.{HaveForms, NameWhatIs}
use Rattle.plain_laws.specs.Whole as whole
use Rattle.kobj_table.specs.declared.objects.Objects.{Objects}
use Rattle.kobj_table.specs.Slots.{is_scheduler}
use Rattle.kobj_table.specs.Objects.{Rest, slot_at, state_of, HasNoStrays}
use Rattle.call_readings.specs.declared.devices.Devices.{Devices}
use Rattle.pmem_model.specs.Memory.{Memory}
use Rattle.call_readings.specs.Content.{Reads}
use Rattle.call_readings.specs.Kernel.{world_of, IsCounted, IsAttached}
use Rattle.out_gate.specs.Entries.{EntriesStand}
use Rattle.kernel_calls.specs.declared.calls.Calls.{Calls}
use Rattle.kernel_calls.specs.declared.runtime.Runtime.{Runtime}
use Rattle.kernel_calls.specs.Callers.{IsCaller}

-- Each thread stands in one place, objects have their numbers and their forms, and what they name is there.
pub record IsSound (s : State) : Type 0 where
  pub placed : IsPlaced s
  pub range : AreInRange s
  pub forms : HaveForms s
  pub names : NameWhatIs s

-- Some world is the kernel's: its running state is sound, and its numbers are those in use. The scheduler stands at its
-- number, and no list but the run queue and those of objects has threads.
pub record Held (k : Runtime) : Type 0 where
  pub world : World
  pub rest : Rest
  pub counted : IsCounted k.numbers (world_of k.objects rest world)
  pub sound : IsSound (state_of k.objects rest)
  pub scheduler : is_scheduler (slot_at k.objects SCHEDULER) ≡ true
  pub strays : HasNoStrays k.objects

-- A thread does a call that isn't refused.
pub record Allowed (k : Runtime) (me : ℕ) (thread : ThreadRecord) (call : Call) : Type 0 where
  pub held : Held k
  pub caller : IsCaller k.objects me thread
  pub unrefused : refusal_of (world_of k.objects held.rest held.world) me thread call ≡ None

-- what the devices tell that have accepted so many entries, where these inputs wait
abbrev pub devices_of : List ℕ → List (List ℕ) → Devices
devices_of accepted inputs = record { accepted = accepted; first_input = option_map length (slice_get inputs 0) }

-- The kernel's values are a world's, which is sound: its running state is that of the objects, with the content of
-- pages that the memory has, and the same inputs wait. The numbers are those in use in it, and the devices are attached
-- to it, which have accepted so many entries of each channel. Of the entries that were put, those that wait to be
-- accepted stand on the pages of their rings. The scheduler stands at its number, and no list but the run queue and
-- those of objects has threads.
pub record Holds (k : Calls) (accepted : List ℕ) (m : Memory) (rest : Rest) (w : World) : Type 0 where
  pub now : w.now ≡ state_of k.runtime.objects rest
  pub sound : whole.IsSound w
  pub counted : IsCounted k.runtime.numbers w
  pub attached : IsAttached k.runtime.objects (devices_of accepted k.inputs) w
  pub inputs : k.inputs ≡ rest.inputs
  pub content : Reads rest.content m
  pub entries : EntriesStand rest.content w rest.out
  pub scheduler : is_scheduler (slot_at k.runtime.objects SCHEDULER) ≡ true
  pub strays : HasNoStrays k.runtime.objects

-- Objects, with these inputs waiting, are a world's that was just saved: all of that but for the numbers in use, and
-- the saved copy has the same objects as the running state.
pub record IsJustSaved (o : Objects) (waiting : List (List ℕ)) (accepted : List ℕ) (m : Memory) (rest : Rest)
    (w : World) : Type 0 where
  pub now : w.now ≡ state_of o rest
  pub saved : (id : ℕ) → w.saved.objects id ≡ w.now.objects id
  pub sound : whole.IsSound w
  pub attached : IsAttached o (devices_of accepted waiting) w
  pub inputs : waiting ≡ rest.inputs
  pub content : Reads rest.content m
  pub entries : EntriesStand rest.content w rest.out
  pub scheduler : is_scheduler (slot_at o SCHEDULER) ≡ true
  pub strays : HasNoStrays o

-- some world is the kernel's
pub record IsHeld (k : Calls) (accepted : List ℕ) (m : Memory) : Type 0 where
  pub world : World
  pub rest : Rest
  pub holds : Holds k accepted m rest world

-- a world in which no input waits, and which is the same else
abbrev pub without_inputs : World → World
without_inputs w = record w { now = record w.now { inputs = [] } }
