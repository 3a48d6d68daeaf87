-- Bytes that a call moves from and to pages.
use Rattle.std.specs.Prelude.{◌≡◌, ℕ, ◌+◌, ◌/◌, ◌%◌, ◌<◌, ◌==◌, Bool, false, List, length, Option, None}
use Rattle.std.specs.List.{list_any}
use Rattle.sls_base.specs.declared.limits.TheConstants.{PAGE_BYTES}
use Rattle.sls_base.specs.declared.rights.TheConstants.{WRITE}
use Rattle.sls_base.specs.declared.thread.Thread.{Thread as ThreadRecord}
use Rattle.pmem_model.specs.Memory.{Memory}
use Rattle.mem_space.specs.declared.memory.MemPage.{MemPage}
use Rattle.plain_state.specs.declared.calls.Call.{Call}
use Rattle.plain_state.specs.declared.effect.ByteStore.{ByteStore}
use Rattle.plain_state.specs.Objects.{Object, regions_of}
use Rattle.plain_state.specs.Memory.{page_at, places_of, stores_at, with_stores}
use Rattle.plain_state.specs.Worlds.{World}
use Rattle.plain_state.specs.CallRefusals.{refusal_of}
use Rattle.plain_state.specs.CallEffects.{effect_of_call}
use Rattle.plain_state.specs.Ticks.{stores_to}
use Rattle.kobj_table.specs.declared.objects.Objects.{Objects}
use Rattle.kobj_table.specs.Objects.{Rest, object_at, state_of}
use Rattle.call_readings.specs.declared.content.TheConstants.{WORD_BYTES}
use Rattle.call_readings.specs.declared.devices.Devices.{Devices}
use Rattle.call_readings.specs.Content.{Reads}
use Rattle.call_readings.specs.Kernel.{world_of}
use Rattle.page_bytes.specs.Bytes.{words_of, SeesPage, StoresWords}
use Rattle.kernel_calls.specs.declared.runtime.Runtime.{Runtime}
use Rattle.kernel_calls.specs.declared.done.Done.{Done}
use Rattle.kernel_calls.specs.Does.{Obeys}
use Rattle.kernel_calls.specs.Instructions.{Finds, KeepsRingPages, ShowsStored, StoresPages}

-- a space shows a page at each of so many addresses from one on, to be stored to
abbrev pub ShowsAllStored : Objects → Memory → ℕ → ℕ → ℕ → Type 0
ShowsAllStored o m space at count = (k : ℕ) → k < count → ShowsStored o m space (at + k)

-- the stores of bytes from an address of a space on
abbrev pub stores_from : (ℕ → Option Object) → ℕ → ℕ → List ℕ → List ByteStore
stores_from objects space at bytes =
    stores_at (places_of (regions_of (objects space)) WRITE at (length bytes)) bytes

-- one of some stores is to a page
abbrev pub is_stored_on : (ℕ → Option Object) → List ByteStore → ℕ → Bool
is_stored_on objects stores page = list_any (λ store. (page_at objects store.place).number == page) stores

-- Bytes have come to stand from an address of a space on: by some content that the memory has, the objects are the state
-- after the plain machine's stores. The pages of rings have the bytes that they had.
pub record HasStored (o : Objects) (rest : Rest) (space at : ℕ) (bytes : List ℕ) (m : Memory) : Type 0 where
  pub content : ℕ → ℕ → ℕ
  pub reads : Reads content m
  pub state : state_of o (record rest { content = content }) ≡ record (state_of o rest) {
    objects = with_stores (state_of o rest).objects (stores_from (object_at rest.content o) space at bytes);
  }
  pub rings : KeepsRingPages rest.content content

-- It was one burst, on the page that a space has at the address.
pub record StoresOn (o : Objects) (space at count : ℕ) (old new : Memory) : Type 0 where
  pub page : MemPage
  pub seen : SeesPage o space WRITE at page
  pub stored : page.fresh ≡ false
  pub words : StoresWords page.page (at % PAGE_BYTES / WORD_BYTES) (words_of (at % PAGE_BYTES) count) old new

-- The kernel has done a call of each world of which it finds all, and in which the call isn't refused.
abbrev pub ObeysCall : Runtime → Runtime → List ℕ → Memory → Memory → ℕ → ThreadRecord → Call → Done → Type 0
ObeysCall old new input before after me thread call done =
    (w : World) (rest : Rest) (devices : Devices) → Finds old devices input before rest w
    → refusal_of (world_of old.objects rest w) me thread call ≡ None
    → (left : Rest)
    × Obeys old new rest left after w (effect_of_call (world_of old.objects rest w) me thread call) done

-- It has stored to pages to which that call stores, and to no other.
abbrev pub StoresOfCall : Runtime → List ℕ → Memory → Memory → ℕ → ThreadRecord → Call → Type 0
StoresOfCall old input before after me thread call =
    (w : World) (rest : Rest) (devices : Devices) → Finds old devices input before rest w
    → refusal_of (world_of old.objects rest w) me thread call ≡ None
    → StoresPages (stores_to (state_of old.objects rest)
    (effect_of_call (world_of old.objects rest w) me thread call)) before after
