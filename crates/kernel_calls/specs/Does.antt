-- What a call did to the running kernel, measured by an effect of the plain machine.
use Rattle.std.specs.Prelude.{◌≡◌, ℕ, ◌==◌, ◌||◌, ◌++◌, if◌then◌else◌, drop, true, false, [], Some, None}
use Rattle.sls_base.specs.declared.fixed.TheConstants.{SCHEDULER}
use Rattle.sls_base.specs.declared.thread.Thread.{Thread as ThreadRecord}
use Rattle.link_lists.specs.Lists.{list_at, IsFree}
use Rattle.ipc_note.specs.declared.lists.TheConstants.{RUN_QUEUE}
use Rattle.plain_state.specs.declared.calls.Call.{Call}
use Rattle.plain_state.specs.declared.effect.Goes.TheVariants.{Back}
use Rattle.plain_state.specs.Worlds.{World}
use Rattle.plain_state.specs.Effects.{Effect}
use Rattle.plain_state.specs.CallRefusals.{refusal_of}
use Rattle.plain_state.specs.CallEffects.{effect_of_call, makes, new_id}
use Rattle.plain_state.specs.declared.objects.Kind.TheVariants.{GroupKind}
use Rattle.plain_state.specs.Objects.{Object, is_kind}
use Rattle.call_readings.specs.NumberSets.{uses_object}
use Rattle.plain_state.specs.Memory.{with_stores}
use Rattle.plain_state.specs.Ticks.{with_changes, with_output, at_slice_end}
use Rattle.sls_base.specs.declared.thread.Ring.{Ring}
use Rattle.kobj_table.specs.declared.slot.Slot.{Slot}
use Rattle.kobj_table.specs.Objects.{Rest, slot_at, object_at, HasNoStrays}
use Rattle.object_records.specs.Untold.{KeepsUntold}
use Rattle.pmem_model.specs.Memory.{Memory}
use Rattle.call_readings.specs.Content.{Reads}
use Rattle.call_readings.specs.Kernel.{world_of, CountsEntries, IsCounted}
use Rattle.out_gate.specs.Entries.{EntriesStand}
use Rattle.kernel_calls.specs.declared.runtime.Runtime.{Runtime}
use Rattle.kernel_calls.specs.declared.done.Done.{Done}
use Rattle.kernel_calls.specs.Kernel.{Allowed}

-- What becomes of the caller is what the effect says.
pub record Tells (done : Done) (e : Effect) : Type 0 where
  pub regs : done.regs ≡ e.regs
  pub goes : done.goes ≡ e.goes
  pub takes : done.takes ≡ e.takes
  pub wishes : done.wishes ≡ e.wishes

-- An effect stores nothing, puts no entry and takes no input.
pub record IsQuiet (e : Effect) : Type 0 where
  pub stores : e.stores ≡ []
  pub output : e.output ≡ None
  pub takes : e.takes ≡ false

-- The objects have changed, the threads that it makes Ready stand at the queue's back, and what becomes of the caller
-- is told; nothing else is another. The numbers in use are the world's again. The effect does nothing else.
pub record Does (old new : Runtime) (rest : Rest) (w : World) (e : Effect) (done : Done) : Type 0 where
  pub objects : (i : ℕ) → object_at rest.content new.objects i
      ≡ with_changes (object_at rest.content old.objects) e.changes i
  pub queue : list_at new.objects.links RUN_QUEUE ≡ list_at old.objects.links RUN_QUEUE ++ e.wakes
  pub scheduler : slot_at new.objects SCHEDULER ≡ slot_at old.objects SCHEDULER
  pub counted : IsCounted new.numbers (world_of new.objects rest w)
  pub caller : Tells done e
  pub quiet : IsQuiet e

-- The kernel has done an effect of the plain machine, whatever it stores, puts and takes: objects have changed and
-- pages have been stored to, the threads that it makes Ready stand at the queue's back, entries are put and inputs
-- taken. The numbers in use are the world's again, its rings count its entries, of which those that wait stand on the
-- pages of rings, the memory has its pages' bytes, and what becomes of the caller is told. What of the state doesn't
-- stand in the objects was `rest`, and is `after`.
pub record Obeys (old new : Runtime) (rest after : Rest) (m : Memory) (w : World) (e : Effect) (done : Done)
    : Type 0 where
  pub objects : (i : ℕ) → object_at after.content new.objects i
      ≡ with_changes (with_stores (object_at rest.content old.objects) e.stores) e.changes i
  pub queue : list_at new.objects.links RUN_QUEUE ≡ list_at old.objects.links RUN_QUEUE ++ e.wakes
  pub scheduler : slot_at new.objects SCHEDULER ≡ slot_at old.objects SCHEDULER
  pub out : after.out ≡ with_output rest.out e.output
  pub inputs : after.inputs ≡ (if e.takes then drop 1 rest.inputs else rest.inputs)
  pub counted : IsCounted new.numbers (world_of new.objects after w)
  pub rings : (id : ℕ) → CountsEntries (slot_at new.objects id) (world_of new.objects after w)
  pub content : Reads after.content m
  pub entries : EntriesStand after.content w after.out
  pub caller : Tells done e

-- Where the thread may do the call, that is what the call's effect says, for each world whose numbers are those in use
-- and in which the call isn't refused.
abbrev pub DoesCall : Runtime → Runtime → ℕ → ThreadRecord → Call → Done → Type 0
DoesCall old new me thread call done =
    (w : World) (rest : Rest) → IsCounted old.numbers (world_of old.objects rest w)
    → refusal_of (world_of old.objects rest w) me thread call ≡ None → Allowed old me thread call
    → Does old new rest w (effect_of_call (world_of old.objects rest w) me thread call) done

-- No list but the run queue and those of objects has threads. The caller stands at its number as it was, and is in no
-- list where it goes to the queue's back. What no plain state tells is left alone.
pub record Leaves (old new : Runtime) (me : ℕ) (done : Done) : Type 0 where
  pub caller : slot_at new.objects me ≡ slot_at old.objects me
  pub strays : HasNoStrays new.objects
  pub free : (left : ℕ) → at_slice_end left done.goes ≡ Back → IsFree new.objects.links me
  pub untold : KeepsUntold old.objects new.objects

-- And each ring was there before, as it is.
pub record Keeps (old new : Runtime) (me : ℕ) (done : Done) : Type 0 where
  pub caller : slot_at new.objects me ≡ slot_at old.objects me
  pub strays : HasNoStrays new.objects
  pub free : (left : ℕ) → at_slice_end left done.goes ≡ Back → IsFree new.objects.links me
  pub untold : KeepsUntold old.objects new.objects
  pub rings : (id : ℕ) (ring : Ring) → slot_at new.objects id ≡ Slot.Ring ring → slot_at old.objects id ≡ Slot.Ring ring

-- An object came to stand at the least number that is free, and the caller's own group has a capability to it. Its
-- number is in use, and no other came to be; of its pages nothing is said.
pub record Makes (old new : Runtime) (rest : Rest) (w : World) (thread : ThreadRecord) (object : Object) (done : Done)
    : Type 0 where
  pub objects : (i : ℕ) → object_at rest.content new.objects i
      ≡ with_changes (object_at rest.content old.objects) (makes (world_of old.objects rest w) thread object).changes i
  pub links : new.objects.links ≡ old.objects.links
  pub scheduler : slot_at new.objects SCHEDULER ≡ slot_at old.objects SCHEDULER
  pub unused : object_at rest.content old.objects (new_id (world_of old.objects rest w)) ≡ None
  pub own : is_kind GroupKind (object_at rest.content old.objects thread.group) ≡ true
  pub taken : (id : ℕ) → uses_object new.numbers id
      ≡ (uses_object old.numbers id || (id == new_id (world_of old.objects rest w)))
  pub pages : new.numbers.pages ≡ old.numbers.pages
  pub made : new.made ≡ Some (new_id (world_of old.objects rest w))
  pub caller : Tells done (makes (world_of old.objects rest w) thread object)

abbrev pub KeepsCall : Runtime → Runtime → ℕ → ThreadRecord → Call → Done → Type 0
KeepsCall old new me thread call done = Allowed old me thread call → Keeps old new me done
