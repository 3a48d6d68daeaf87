-- What a thread that was taken finds, of a world that is the kernel's.
use Rattle.std.specs.Prelude.{◌≡◌, ℕ, List, [], slice_index_or}
use Rattle.std.proofs.Common.{sym, subst}
use Rattle.pmem_model.specs.Memory.{Memory}
use Rattle.plain_state.specs.Worlds.{World}
use Rattle.kobj_table.specs.Objects.{Rest}
use Rattle.call_readings.specs.declared.devices.Devices.{Devices}
use Rattle.kernel_calls.specs.declared.calls.Calls.{Calls}
use Rattle.kernel_calls.specs.declared.runtime.Runtime.{Runtime}
use Rattle.kernel_calls.specs.Kernel.{Holds, devices_of}
use Rattle.kernel_calls.specs.Ticking.{Takes}
use Rattle.kernel_calls.specs.Instructions.{Finds}
use Rattle.kernel_calls.proofs.Queues.{IsItsSlot}
use Rattle.kernel_calls.proofs.Begun.{StateAlone, world_taken}
use Rattle.kernel_calls.proofs.Sound.{all_found}

pub finds_taken : IsItsSlot → StateAlone → (k : Calls) (t : Runtime) (accepted : List ℕ) (m : Memory) (core id slice : ℕ) → Takes k.runtime.objects t.objects core id slice → t.numbers ≡ k.runtime.numbers →
    (rest : Rest) (w : World) → Holds k accepted m rest w → (devices : Devices) (input : List ℕ) → devices ≡ devices_of accepted k.inputs → input ≡ slice_index_or k.inputs 0 [] →
    Finds t devices input m rest w
finds_taken law alone k t accepted m core id slice takes numbers rest w h devices input told first =
    subst (λ (d : Devices). Finds t d input m rest w) (sym told)
    (subst (λ (bytes : List ℕ). Finds t (devices_of accepted k.inputs) bytes m rest w) (sym first)
    (world_taken law alone k.runtime t (devices_of accepted k.inputs) (slice_index_or k.inputs 0 []) m core id slice takes numbers h.scheduler rest w (all_found k accepted m rest w h)))
