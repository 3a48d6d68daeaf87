-- The pages that a tick needs: at home, and where it stores to them not fresh.
use Rattle.std.specs.Prelude.{◌≡◌, ℕ, ◌+◌, ◌<◌, ◌==◌, ◌&&◌, Bool, true, false, List, [], length, min, Some, None, slice_index_or}
use Rattle.std.specs.List.{list_any}
use Rattle.sls_base.specs.declared.rights.TheConstants.{READ, EXECUTE}
use Rattle.sls_base.specs.declared.thread.Thread.{Thread as ThreadRecord}
use Rattle.rv_core.specs.declared.registers.Plan.{Plan}
use Rattle.rv_core.specs.declared.registers.Plan.TheVariants as plans
use Rattle.rv_core.specs.declared.registers.Plan.TheVariants.{Load, Store}
use Rattle.pmem_model.specs.Memory.{Memory}
use Rattle.plain_state.specs.Objects.{page_numbers, page_of_channel}
use Rattle.plain_state.specs.States.{State}
use Rattle.plain_state.specs.Worlds.{World}
use Rattle.plain_state.specs.declared.calls.Call.{Call}
use Rattle.plain_state.specs.declared.calls.Call.TheVariants.{Put, Get}
use Rattle.plain_state.specs.Calls.{arg, named, call_named}
use Rattle.plain_state.specs.CallRefusals.{refusal_of}
use Rattle.plain_state.specs.CallEffects.{channel_of}
use Rattle.plain_state.specs.Ticks.{touches, must_store}
use Rattle.kobj_table.specs.declared.slot.Slot.{Slot}
use Rattle.kobj_table.specs.declared.slot.Slot.TheVariants as slots
use Rattle.kobj_table.specs.declared.objects.Objects.{Objects}
use Rattle.kobj_table.specs.Slots.{ring_of}
use Rattle.kobj_table.specs.Objects.{Rest, slot_at, state_of}
use Rattle.call_readings.specs.Content.{is_page_home, Reads}
use Rattle.call_readings.specs.Need.{has_page}
use Rattle.call_readings.specs.declared.devices.Devices.{Devices}
use Rattle.call_readings.specs.Kernel.{world_of}
use Rattle.kernel_calls.specs.declared.runtime.Runtime.{Runtime}
use Rattle.kernel_calls.specs.Callers.{IsCaller}
use Rattle.kernel_calls.specs.Instructions.{plan_of, HeldOver, ShowsHome, ShowsStored}

-- a slot has a page of a number that is fresh: a memory object among its pages, and a ring for its channel's entries
abbrev pub has_fresh : Slot → ℕ → Bool
has_fresh (slots.Memory memory) page = list_any (λ p. (p.page == page) && p.fresh) memory.pages.items
has_fresh (slots.Ring ring) page = ring.fresh && has_page (page_numbers (Some (ring_of ring.channel))) page
has_fresh slot page = false

-- an object has a page of a number that is fresh
abbrev pub IsFreshPage : Objects → ℕ → Type 0
IsFreshPage objects page = (i : ℕ) × (has_fresh (slot_at objects i) page ≡ true)

-- The next tick of a core may be: each page that it touches is at home, and none that it must store to is fresh.
pub record IsPrepared (objects : Objects) (m : Memory) (w : World) (core : ℕ) : Type 0 where
  pub home : (page : ℕ) → touches w core page ≡ true → is_page_home m page ≡ true
  pub stored : (page : ℕ) → must_store w core page ≡ true → IsFreshPage objects page → ⊥

-- What the instruction of a thread loads from and stores to, beside what a call does, is there: whatever the content of
-- pages is that the memory has, and whatever the instruction then comes to.
pub record HasItsPages (objects : Objects) (m : Memory) (thread : ThreadRecord) : Type 0 where
  pub fetch : ShowsHome objects m thread.space EXECUTE thread.pc
  pub load : (rest : Rest) (op rd at : ℕ) → Reads rest.content m
      → plan_of (state_of objects rest) thread ≡ Some (Load op rd at) → ShowsHome objects m thread.space READ at
  pub store : (rest : Rest) (op at value : ℕ) → Reads rest.content m
      → plan_of (state_of objects rest) thread ≡ Some (Store op at value) → ShowsStored objects m thread.space at

-- What a put of a thread needs is there: each byte of its entry is shown at home, and the page of its ring is at home
-- and isn't fresh.
pub record HasPutPages (objects : Objects) (m : Memory) (s : State) (thread : ThreadRecord) : Type 0 where
  pub entry : (k : ℕ) → k < arg thread 2 → ShowsHome objects m thread.space READ (arg thread 1 + k)
  pub ring : is_page_home m (page_of_channel (channel_of (named s thread 0))) ≡ true
  pub stored : IsFreshPage objects (page_of_channel (channel_of (named s thread 0))) → ⊥

-- how many bytes a get of a thread stores: those of the first input, as far as there is room for them
abbrev pub count_got : State → ThreadRecord → ℕ
count_got s thread = min (length (slice_index_or s.inputs 0 [])) (arg thread 2)

-- What a get of a thread needs is there: each byte to which it stores is shown at home, on a page that isn't fresh.
pub record HasGetPages (objects : Objects) (m : Memory) (s : State) (thread : ThreadRecord) : Type 0 where
  pub bytes : (k : ℕ) → k < count_got s thread → ShowsStored objects m thread.space (arg thread 1 + k)

-- What may run.

-- What a call needs is there, if it isn't refused: for a put and a get the pages of its bytes.
abbrev pub HasCallPages : Objects → Memory → State → ThreadRecord → Call → Type 0
HasCallPages o m s thread Put = HasPutPages o m s thread
HasCallPages o m s thread Get = HasGetPages o m s thread
HasCallPages o m s thread call = Unit {0}

-- What an instruction comes to in a world may be carried out: a page from which it loads is at home, and so is one to
-- which it stores, to which something was stored before. What a call needs is there.
abbrev pub MayCarryOut : Objects → Memory → Rest → World → ℕ → ThreadRecord → Plan → Type 0
MayCarryOut o m rest w me thread (plans.Set rd value pc) = Unit {0}
MayCarryOut o m rest w me thread (plans.Load op rd at) = ShowsHome o m thread.space READ at
MayCarryOut o m rest w me thread (plans.Store op at value) = ShowsStored o m thread.space at
MayCarryOut o m rest w me thread plans.Call = (call : Call) → call_named thread ≡ Some call
    → refusal_of (world_of o rest w) me thread call ≡ None → HasCallPages o m (state_of o rest) thread call
MayCarryOut o m rest w me thread (plans.Stop cause) = Unit {0}

-- A thread's instruction is fetched from a page that is at home, and what it comes to in a world that is the kernel's
-- may be carried out.
pub record MayRun (k : Runtime) (devices : Devices) (input : List ℕ) (m : Memory) (me : ℕ) (thread : ThreadRecord)
    : Type 0 where
  pub over : HeldOver k devices input m
  pub home : ShowsHome k.objects m thread.space EXECUTE thread.pc
  pub carried_out : (plan : Plan) → plan_of (state_of k.objects over.held.rest) thread ≡ Some plan
      → MayCarryOut k.objects m over.held.rest over.held.world me thread plan

-- So may what it comes to.
pub record MayDo (k : Runtime) (devices : Devices) (input : List ℕ) (m : Memory) (me : ℕ) (thread : ThreadRecord)
    (plan : Plan) : Type 0 where
  pub over : HeldOver k devices input m
  pub may : MayCarryOut k.objects m over.held.rest over.held.world me thread plan

-- A thread does a call that isn't refused, and what it needs is there.
pub record MayMove (k : Runtime) (input : List ℕ) (m : Memory) (me : ℕ) (thread : ThreadRecord) (call : Call) : Type 0
  where
    pub devices : Devices
    pub over : HeldOver k devices input m
    pub caller : IsCaller k.objects me thread
    pub unrefused : refusal_of (world_of k.objects over.held.rest over.held.world) me thread call ≡ None
    pub pages : HasCallPages k.objects m (state_of k.objects over.held.rest) thread call
