-- An instruction whose tick is prepared may run.
use Rattle.std.specs.Prelude.{◌≡◌, ℕ, List, [], Some, None, slice_index_or}
use Rattle.std.proofs.Common.{ap, subst, ◌∙◌}
use Rattle.rv_core.specs.declared.registers.Plan.{Plan}
use Rattle.rv_core.specs.declared.registers.Plan.TheVariants as plans
use Rattle.pmem_model.specs.Memory.{Memory}
use Rattle.plain_state.specs.declared.calls.Call.{Call}
use Rattle.plain_state.specs.declared.calls.Call.TheVariants.{Yield, Halt, Put, Get, MemNew, Map, Unmap, SpaceNew, GroupNew, CapCopy, CapDrop, ThreadNew, NoteNew, Signal, Wait, ConnNew, ConnCall, Serve, Checkpoint}
use Rattle.plain_state.specs.States.{State, thread_at}
use Rattle.plain_state.specs.Worlds.{World}
use Rattle.plain_state.specs.Calls.{call_named}
use Rattle.plain_state.specs.CallRefusals.{refusal_of}
use Rattle.plain_state.specs.Ticks.{Chosen, chosen}
use Rattle.kobj_table.specs.Objects.{Rest, state_of}
use Rattle.call_readings.specs.Kernel.{world_of}
use Rattle.kernel_calls.specs.declared.calls.Calls.{Calls}
use Rattle.kernel_calls.specs.Kernel.{Holds, devices_of}
use Rattle.kernel_calls.specs.Instructions.{plan_of}
use Rattle.kernel_calls.specs.Needed.{HasCallPages, HasGetPages, HasItsPages, HasPutPages, IsPrepared, MayCarryOut, MayRun}
use Rattle.kernel_calls.proofs.Sound.{is_held_over}

abbrev pub PagesAreThere : Type 0
PagesAreThere = (k : Calls) (accepted : List ℕ) (m : Memory) (rest : Rest) (w : World) (core : ℕ) (c : Chosen) → Holds k accepted m rest w → IsPrepared k.runtime.objects m w core → chosen w.now core ≡ Some c →
    HasItsPages k.runtime.objects m (thread_at w.now c.occupant.thread)

abbrev pub PutsAreThere : Type 0
PutsAreThere = (k : Calls) (accepted : List ℕ) (m : Memory) (rest : Rest) (w : World) (core : ℕ) (c : Chosen) → Holds k accepted m rest w → IsPrepared k.runtime.objects m w core → chosen w.now core ≡ Some c →
    plan_of w.now (thread_at w.now c.occupant.thread) ≡ Some plans.Call → call_named (thread_at w.now c.occupant.thread) ≡ Some Put →
    refusal_of w c.occupant.thread (thread_at w.now c.occupant.thread) Put ≡ None → HasPutPages k.runtime.objects m w.now (thread_at w.now c.occupant.thread)

abbrev pub GetsAreThere : Type 0
GetsAreThere = (k : Calls) (accepted : List ℕ) (m : Memory) (rest : Rest) (w : World) (core : ℕ) (c : Chosen) → Holds k accepted m rest w → IsPrepared k.runtime.objects m w core → chosen w.now core ≡ Some c →
    plan_of w.now (thread_at w.now c.occupant.thread) ≡ Some plans.Call → call_named (thread_at w.now c.occupant.thread) ≡ Some Get →
    refusal_of w c.occupant.thread (thread_at w.now c.occupant.thread) Get ≡ None → HasGetPages k.runtime.objects m w.now (thread_at w.now c.occupant.thread)

module _ (its : PagesAreThere) (puts : PutsAreThere) (gets : GetsAreThere) (k : Calls) (accepted : List ℕ) (m : Memory) (rest : Rest) (w : World) (core : ℕ) (c : Chosen)
    (holds : Holds k accepted m rest w) (prepared : IsPrepared k.runtime.objects m w core) (is : chosen (state_of k.runtime.objects rest) core ≡ Some c) where
  abbrev id : ℕ
  id = c.occupant.thread

  chosen_is : chosen w.now core ≡ Some c
  chosen_is = ap (λ (s : State). chosen s core) holds.now ∙ is

  has_its_pages : HasItsPages k.runtime.objects m (thread_at (state_of k.runtime.objects rest) id)
  has_its_pages = subst (λ (s : State). HasItsPages k.runtime.objects m (thread_at s id)) holds.now (its k accepted m rest w core c holds prepared chosen_is)

  put_pages : plan_of (state_of k.runtime.objects rest) (thread_at (state_of k.runtime.objects rest) id) ≡ Some plans.Call → call_named (thread_at (state_of k.runtime.objects rest) id) ≡ Some Put →
      refusal_of (world_of k.runtime.objects rest w) id (thread_at (state_of k.runtime.objects rest) id) Put ≡ None →
      HasPutPages k.runtime.objects m (state_of k.runtime.objects rest) (thread_at (state_of k.runtime.objects rest) id)
  unfolding world_of
  put_pages =
      subst (λ (s : State). plan_of s (thread_at s id) ≡ Some plans.Call → call_named (thread_at s id) ≡ Some Put → refusal_of (record w { now = s }) id (thread_at s id) Put ≡ None →
      HasPutPages k.runtime.objects m s (thread_at s id)) holds.now (puts k accepted m rest w core c holds prepared chosen_is)

  get_pages : plan_of (state_of k.runtime.objects rest) (thread_at (state_of k.runtime.objects rest) id) ≡ Some plans.Call → call_named (thread_at (state_of k.runtime.objects rest) id) ≡ Some Get →
      refusal_of (world_of k.runtime.objects rest w) id (thread_at (state_of k.runtime.objects rest) id) Get ≡ None →
      HasGetPages k.runtime.objects m (state_of k.runtime.objects rest) (thread_at (state_of k.runtime.objects rest) id)
  unfolding world_of
  get_pages =
      subst (λ (s : State). plan_of s (thread_at s id) ≡ Some plans.Call → call_named (thread_at s id) ≡ Some Get → refusal_of (record w { now = s }) id (thread_at s id) Get ≡ None →
      HasGetPages k.runtime.objects m s (thread_at s id)) holds.now (gets k accepted m rest w core c holds prepared chosen_is)

  call_pages : plan_of (state_of k.runtime.objects rest) (thread_at (state_of k.runtime.objects rest) id) ≡ Some plans.Call → (call : Call) →
      call_named (thread_at (state_of k.runtime.objects rest) id) ≡ Some call → refusal_of (world_of k.runtime.objects rest w) id (thread_at (state_of k.runtime.objects rest) id) call ≡ None →
      HasCallPages k.runtime.objects m (state_of k.runtime.objects rest) (thread_at (state_of k.runtime.objects rest) id) call
  call_pages plan Put named unrefused = put_pages plan named unrefused
  call_pages plan Get named unrefused = get_pages plan named unrefused
  call_pages plan Yield named unrefused = tt
  call_pages plan Halt named unrefused = tt
  call_pages plan MemNew named unrefused = tt
  call_pages plan Map named unrefused = tt
  call_pages plan Unmap named unrefused = tt
  call_pages plan SpaceNew named unrefused = tt
  call_pages plan GroupNew named unrefused = tt
  call_pages plan CapCopy named unrefused = tt
  call_pages plan CapDrop named unrefused = tt
  call_pages plan ThreadNew named unrefused = tt
  call_pages plan NoteNew named unrefused = tt
  call_pages plan Signal named unrefused = tt
  call_pages plan Wait named unrefused = tt
  call_pages plan ConnNew named unrefused = tt
  call_pages plan ConnCall named unrefused = tt
  call_pages plan Serve named unrefused = tt
  call_pages plan Checkpoint named unrefused = tt

  carried : (plan : Plan) → plan_of (state_of k.runtime.objects rest) (thread_at (state_of k.runtime.objects rest) id) ≡ Some plan →
      MayCarryOut k.runtime.objects m rest w id (thread_at (state_of k.runtime.objects rest) id) plan
  carried (plans.Set rd value pc) plan = tt
  carried (plans.Load op rd at) plan = has_its_pages.load rest op rd at holds.content plan
  carried (plans.Store op at value) plan = has_its_pages.store rest op at value holds.content plan
  carried plans.Call plan = call_pages plan
  carried (plans.Stop cause) plan = tt

  pub prepared_may_run : MayRun k.runtime (devices_of accepted k.inputs) (slice_index_or k.inputs 0 []) m id (thread_at (state_of k.runtime.objects rest) id)
  unfolding is_held_over
  prepared_may_run = record { over = is_held_over k accepted m rest w holds; home = has_its_pages.fetch; carried_out = carried }
