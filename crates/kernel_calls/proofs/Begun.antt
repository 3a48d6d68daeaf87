-- What was so of the running kernel is so when a thread was taken.
use Rattle.std.specs.Prelude.{◌⊎◌, ◌≡◌, ◌≢◌, ℕ, ◌+◌, Bool, true, if◌then◌else◌, List, [], ◌∷◌, drop, Option, Some, None, option_map}
use Rattle.std.proofs.Common.{refl, ap, sym, ◌∙◌, subst, inl, inr}
use mathlib.Core.Path.{fun_ext}
use Rattle.sls_base.specs.declared.fixed.TheConstants.{FIRST_OUTPUT_RING, SCHEDULER}
use Rattle.sls_base.specs.declared.rights.TheConstants.{READ, WRITE}
use Rattle.sls_base.specs.declared.thread.Thread.{Thread as ThreadRecord}
use Rattle.sls_base.specs.declared.thread.ThreadState.{ThreadState}
use Rattle.sls_base.specs.declared.thread.ThreadState.TheVariants.{Ready, Running, Waiting, Calling, Served, Serving, Stopped}
use Rattle.ipc_note.specs.declared.lists.TheConstants.{RUN_QUEUE}
use Rattle.link_lists.specs.Lists.{list_at}
use Rattle.rv_core.specs.declared.registers.Plan.{Plan}
use Rattle.rv_core.specs.declared.registers.Plan.TheVariants.{Set, Load, Store, Call, Stop}
use Rattle.pmem_model.specs.Memory.{Memory}
use Rattle.plain_state.specs.declared.label.Reply.TheVariants.{Retired, Wished}
use Rattle.plain_state.specs.declared.objects.Occupant.{Occupant}
use Rattle.plain_state.specs.declared.calls.Call.{Call as CallName}
use Rattle.plain_state.specs.declared.calls.Call.TheVariants as calls
use Rattle.plain_state.specs.Calls.{arg}
use Rattle.plain_state.specs.CallRefusals.{refusal_of}
use Rattle.plain_state.specs.Objects.{Object, regions_of}
use Rattle.plain_state.specs.States.{State, thread_at}
use Rattle.plain_state.specs.Memory.{page_at, place_of}
use Rattle.plain_state.specs.Worlds.{World, has_page}
use Rattle.plain_state.specs.Effects.{Effect}
use Rattle.plain_state.specs.Instructions.{instruction}
use Rattle.plain_state.specs.Ticks.{Chosen, chosen, own_or_front, state_of_effect, ticked, tick, reply_for, tick_reply, stores_to, stores_for, must_store}
use Rattle.plain_laws.specs.Bounds.{HasThreads, IsStateOf}
use Rattle.plain_laws.specs.Sound.{AreApart}
use Rattle.plain_laws.specs.Ticks.{IsAlike}
use Rattle.plain_laws.proofs.Alike.{have_same, same_refusal}
use Rattle.kobj_table.specs.declared.objects.Objects.{Objects}
use Rattle.kobj_table.specs.declared.slot.Slot.{Slot}
use Rattle.kobj_table.specs.Slots.{is_scheduler, page_of}
use Rattle.kobj_table.specs.Objects.{Rest, slot_at, object_at, state_of, state_with_queue, ListsAlone}
use Rattle.call_readings.specs.declared.devices.Devices.{Devices}
use Rattle.call_readings.specs.Kernel.{world_of, CountsEntries, IsAttached}
use Rattle.call_readings.specs.Need.{IsAtHome, page_seen}
use Rattle.kernel_calls.specs.declared.runtime.Runtime.{Runtime}
use Rattle.kernel_calls.specs.Kernel.{Held, IsSound}
use Rattle.kernel_calls.specs.Callers.{IsCaller}
use Rattle.kernel_calls.specs.Ticking.{Takes}
use Rattle.kernel_calls.specs.Instructions.{Finds, HasRings, HeldOver, ShowsHome, ShowsStored, plan_of}
use Rattle.kernel_calls.specs.Needed.{has_fresh, HasCallPages, HasGetPages, HasPutPages, IsFreshPage, MayCarryOut, MayRun}
use Rattle.kernel_calls.proofs.Entries.{entries_kept}
use Rattle.kernel_calls.proofs.Objects.{told}
use Rattle.kernel_calls.proofs.Numbers.{counted_kept}
use Rattle.kernel_calls.proofs.Queues.{IsItsSlot, queue_alone, not_the_queue}
use Rattle.kernel_calls.proofs.Ticks.{sound_left}

-- The queue.

taken_queue : (own : Option Occupant) (queue : List ℕ) (c : Chosen) → own_or_front own queue ≡ Some c → (c.queue ≡ queue) ⊎ (c.queue ≡ drop 1 queue)
taken_queue (Some occupant) queue c e = inl (cc)
taken_queue None [] c e = absurd (cc)
taken_queue None (id ∷ queue) c e = inr (cc)

pub sound_taken : (s : State) (own : Option Occupant) (c : Chosen) → own_or_front own s.queue ≡ Some c → IsSound s → IsSound (state_with_queue s c.queue)
sound_taken s own c e sound =
    elim (taken_queue own s.queue c e) [
      | inl same ↦ subst (λ (q : List ℕ). IsSound (state_with_queue s q)) (sym same) sound
      | inr left ↦ subst (λ (q : List ℕ). IsSound (state_with_queue s q)) (sym left) (sound_left s sound)
    ]

-- Another queue changes nothing of a thread, of devices, or of what an instruction does.

state_kept : (s : State) (queue : List ℕ) (state : ThreadState) → IsStateOf s state → IsStateOf (state_with_queue s queue) state
state_kept s queue Ready is = is
state_kept s queue (Running core) is = is
state_kept s queue (Waiting id) is = is
state_kept s queue (Calling id) is = is
state_kept s queue (Served id) is = is
state_kept s queue (Serving id) is = is
state_kept s queue (Stopped cause) is = is

threads_kept : (s : State) (queue : List ℕ) → HasThreads s → HasThreads (state_with_queue s queue)
threads_kept s queue threads i thread is =
    let t = threads i thread is in
    record { pc = t.pc; aligned = t.aligned; count = t.count; each = t.each; zero = t.zero; state = state_kept s queue thread.state t.state }

pub apart_kept : (s : State) (queue : List ℕ) → AreApart s → AreApart (state_with_queue s queue)
apart_kept s queue apart = record { in_range = apart.in_range; once = apart.once; apart = apart.apart }

pub effect_kept : (s : State) (queue : List ℕ) (core : ℕ) (c : Chosen) (e : Effect) → state_of_effect (state_with_queue s queue) core c e ≡ state_of_effect s core c e
unfolding state_of_effect
effect_kept s queue core c e = refl

abbrev pub StateAlone : Type 0
StateAlone = (old new : Objects) (rest : Rest) → ListsAlone old new → state_of new rest ≡ state_with_queue (state_of old rest) (list_at new.links RUN_QUEUE)

abbrev pub DependsOnLittle : Type 0
DependsOnLittle = (w v : World) (id : ℕ) (thread : ThreadRecord) → IsAlike w v → instruction w id thread ≡ instruction v id thread

module _ (o m : Objects) (slots : m.slots ≡ o.slots) (lists : (i : ℕ) → i ≢ RUN_QUEUE → list_at m.links i ≡ list_at o.links i) where
  same_slot : (i : ℕ) → slot_at o i ≡ slot_at m i
  same_slot i = rw slots refl

  devices_kept : (devices : Devices) (rest : Rest) (w : World) → IsAttached o devices (world_of o rest w) → IsAttached m devices (world_of m rest w)
  unfolding world_of state_of
  devices_kept devices rest w a = record {
    rings = λ id. subst (λ (slot : Slot). CountsEntries slot (world_of m rest w)) (same_slot id)
        (entries_kept (slot_at o id) (world_of m rest w) (world_of o rest w) (λ channel. refl) (a.rings id));
    accepted = a.accepted;
    input = a.input;
  }

  module _ (is_scheduler_there : is_scheduler (slot_at o SCHEDULER) ≡ true) where
    alone : ListsAlone o m
    alone = record {
      slots = λ i. rw slots refl;
      lists = λ i has. lists i (not_the_queue o i is_scheduler_there has);
    }

    pub state_taken : StateAlone → (rest : Rest) → state_of m rest ≡ state_with_queue (state_of o rest) (list_at m.links RUN_QUEUE)
    state_taken law rest = law o m rest alone

    same_objects : IsItsSlot → (content : ℕ → ℕ → ℕ) → object_at content m ≡ object_at content o
    same_objects law content = fun_ext (queue_alone law o m content slots lists is_scheduler_there)

    pub instruction_taken : StateAlone → DependsOnLittle → (rest : Rest) (w : World) (id : ℕ) (thread : ThreadRecord) →
        instruction (world_of m rest w) id thread ≡ instruction (world_of o rest w) id thread
    unfolding world_of has_page
    instruction_taken law little rest w id thread =
        let alike : IsAlike (record w { now = state_of m rest }) (record w { now = state_of o rest }) =
        subst (λ (s : State). IsAlike (record w { now = s }) (record w { now = state_of o rest })) (sym (state_taken law rest))
        (record { objects = refl; inputs = refl; used_objects = λ i. refl; used_pages = λ page. refl; put = λ channel. refl; accepted = λ channel. refl }) in
        little (world_of m rest w) (world_of o rest w) id thread alike

    pub home_taken : IsItsSlot → (memory : Memory) (space right at : ℕ) → ShowsHome o memory space right at → ShowsHome m memory space right at
    home_taken law memory space right at home content =
        subst (λ (objects : ℕ → Option Object). IsAtHome memory (page_seen objects (regions_of (objects space)) right at)) (sym (same_objects law content)) (home content)

    stored_taken : IsItsSlot → (memory : Memory) (space at : ℕ) → ShowsStored o memory space at → ShowsStored m memory space at
    stored_taken law memory space at shows = record {
      home = home_taken law memory space _ at shows.home;
      stored = λ page sees. shows.stored page (λ content.
          subst (λ (objects : ℕ → Option Object). Some (page_of content page) ≡ option_map (page_at objects) (place_of (regions_of (objects space)) WRITE at)) (same_objects law content) (sees content));
    }

    refusal_taken : StateAlone → (rest : Rest) (w : World) (id : ℕ) (thread : ThreadRecord) (call : CallName) → refusal_of (world_of m rest w) id thread call ≡ refusal_of (world_of o rest w) id thread call
    unfolding world_of has_page
    refusal_taken law rest w id thread call =
        let s = state_of o rest in
        let queue = list_at m.links RUN_QUEUE in
        let alike : IsAlike (record w { now = state_with_queue s queue }) (record w { now = s }) =
        record { objects = refl; inputs = refl; used_objects = λ i. refl; used_pages = λ page. refl; put = λ channel. refl; accepted = λ channel. refl } in
        subst (λ (t : State). refusal_of (record w { now = t }) id thread call ≡ refusal_of (record w { now = s }) id thread call) (sym (state_taken law rest))
        (same_refusal (record w { now = state_with_queue s queue }) (record w { now = s }) (have_same (record w { now = state_with_queue s queue }) (record w { now = s }) alike) id thread call)

    fresh_taken : (page : ℕ) → IsFreshPage m page → IsFreshPage o page
    fresh_taken page fresh = (fresh.0, ap (λ (slot : Slot). has_fresh slot page) (same_slot fresh.0) ∙ fresh.1)

    put_taken : IsItsSlot → StateAlone → (memory : Memory) (rest : Rest) (thread : ThreadRecord) → HasPutPages o memory (state_of o rest) thread → HasPutPages m memory (state_of m rest) thread
    put_taken law alone_law memory rest thread has =
        let home = home_taken law memory thread.space READ in
        let kept : HasPutPages m memory (state_with_queue (state_of o rest) (list_at m.links RUN_QUEUE)) thread = record {
          entry = λ k below. home (arg thread 1 + k) (has.entry k below);
          ring = has.ring;
          stored = λ fresh. has.stored (fresh_taken _ fresh);
        } in
        subst (λ (s : State). HasPutPages m memory s thread) (sym (state_taken alone_law rest)) kept

    get_taken : IsItsSlot → StateAlone → (memory : Memory) (rest : Rest) (thread : ThreadRecord) → HasGetPages o memory (state_of o rest) thread → HasGetPages m memory (state_of m rest) thread
    get_taken law alone_law memory rest thread has =
        let kept : HasGetPages m memory (state_with_queue (state_of o rest) (list_at m.links RUN_QUEUE)) thread = record {
          bytes = λ k below. stored_taken law memory thread.space (arg thread 1 + k) (has.bytes k below);
        } in
        subst (λ (s : State). HasGetPages m memory s thread) (sym (state_taken alone_law rest)) kept

    pages_taken : IsItsSlot → StateAlone → (memory : Memory) (rest : Rest) (thread : ThreadRecord) (call : CallName) → HasCallPages o memory (state_of o rest) thread call → HasCallPages m memory (state_of m rest) thread call
    pages_taken law alone_law memory rest thread calls.Put has = put_taken law alone_law memory rest thread has
    pages_taken law alone_law memory rest thread calls.Get has = get_taken law alone_law memory rest thread has
    pages_taken law alone_law memory rest thread calls.Yield has = tt
    pages_taken law alone_law memory rest thread calls.Halt has = tt
    pages_taken law alone_law memory rest thread calls.MemNew has = tt
    pages_taken law alone_law memory rest thread calls.Map has = tt
    pages_taken law alone_law memory rest thread calls.Unmap has = tt
    pages_taken law alone_law memory rest thread calls.SpaceNew has = tt
    pages_taken law alone_law memory rest thread calls.GroupNew has = tt
    pages_taken law alone_law memory rest thread calls.CapCopy has = tt
    pages_taken law alone_law memory rest thread calls.CapDrop has = tt
    pages_taken law alone_law memory rest thread calls.ThreadNew has = tt
    pages_taken law alone_law memory rest thread calls.NoteNew has = tt
    pages_taken law alone_law memory rest thread calls.Signal has = tt
    pages_taken law alone_law memory rest thread calls.Wait has = tt
    pages_taken law alone_law memory rest thread calls.ConnNew has = tt
    pages_taken law alone_law memory rest thread calls.ConnCall has = tt
    pages_taken law alone_law memory rest thread calls.Serve has = tt
    pages_taken law alone_law memory rest thread calls.Checkpoint has = tt

    pub plan_taken : IsItsSlot → StateAlone → (memory : Memory) (rest : Rest) (w : World) (id : ℕ) (thread : ThreadRecord) (plan : Plan) → MayCarryOut o memory rest w id thread plan → MayCarryOut m memory rest w id thread plan
    plan_taken law alone_law memory rest w id thread (Set rd value pc) is = is
    plan_taken law alone_law memory rest w id thread (Load op rd at) is = home_taken law memory thread.space _ at is
    plan_taken law alone_law memory rest w id thread (Store op at value) is = stored_taken law memory thread.space at is
    plan_taken law alone_law memory rest w id thread Call is = λ call named unrefused.
        pages_taken law alone_law memory rest thread call (is call named (sym (refusal_taken alone_law rest w id thread call) ∙ unrefused))
    plan_taken law alone_law memory rest w id thread (Stop cause) is = is

-- The kernel is the same world's but for the queue, when a thread was taken.
pub world_taken : IsItsSlot → StateAlone → (k n : Runtime) (devices : Devices) (input : List ℕ) (memory : Memory) (core id slice : ℕ) → Takes k.objects n.objects core id slice → n.numbers ≡ k.numbers →
    is_scheduler (slot_at k.objects SCHEDULER) ≡ true → (rest : Rest) (w : World) → Finds k devices input memory rest w → Finds n devices input memory rest w
unfolding state_of
world_taken law alone_law k n devices input memory core id slice takes numbers scheduler rest w finds =
    let found = finds.found in
    record {
      found = record {
        counted = rw numbers (counted_kept k.numbers k.objects n.objects rest w
            (λ i. ap told (queue_alone law k.objects n.objects rest.content takes.slots takes.lists scheduler i)) found.counted);
        attached = devices_kept k.objects n.objects takes.slots takes.lists devices rest w found.attached;
        content = found.content;
        threads = subst (λ (s : State). HasThreads s) (sym (state_taken k.objects n.objects takes.slots takes.lists scheduler alone_law rest))
            (threads_kept (state_of k.objects rest) (list_at n.objects.links RUN_QUEUE) found.threads);
      };
      first = finds.first;
      inputs = finds.inputs;
      entries = finds.entries;
      room = record { accepted = finds.room.accepted; ring = finds.room.ring; count = finds.room.count };
    }

pub rings_taken : IsItsSlot → (o m : Objects) (core id slice : ℕ) → Takes o m core id slice → is_scheduler (slot_at o SCHEDULER) ≡ true → HasRings o → HasRings m
rings_taken law o m core id slice takes scheduler rings content channel below =
    queue_alone law o m content takes.slots takes.lists scheduler (FIRST_OUTPUT_RING + channel) ∙ rings content channel below

unfoldable pub held_taken : IsItsSlot → StateAlone → (k n : Runtime) (devices : Devices) (input : List ℕ) (memory : Memory) (core id slice : ℕ) → Takes k.objects n.objects core id slice → n.numbers ≡ k.numbers →
    Held n → HeldOver k devices input memory → HeldOver n devices input memory
held_taken law alone_law k n devices input memory core id slice takes numbers left h =
    let finds = world_taken law alone_law k n devices input memory core id slice takes numbers h.held.scheduler h.held.rest h.held.world h.found in
    record {
      held = record {
        world = h.held.world;
        rest = h.held.rest;
        counted = finds.found.counted;
        sound = subst (λ (s : State). IsSound s) (sym (state_taken k.objects n.objects takes.slots takes.lists h.held.scheduler alone_law h.held.rest))
            (sound_by (takes.chosen_is h.held.rest));
        scheduler = left.scheduler;
        strays = left.strays;
      };
      found = finds;
      apart = subst (λ (s : State). AreApart s) (sym (state_taken k.objects n.objects takes.slots takes.lists h.held.scheduler alone_law h.held.rest))
          (apart_kept (state_of k.objects h.held.rest) (list_at n.objects.links RUN_QUEUE) h.apart);
      rings = rings_taken law k.objects n.objects core id slice takes h.held.scheduler h.rings;
    } where
      sound_by : chosen (state_of k.objects h.held.rest) core ≡ Some (record { occupant = record { thread = id; slice = slice }; queue = list_at n.objects.links RUN_QUEUE }) →
          IsSound (state_with_queue (state_of k.objects h.held.rest) (list_at n.objects.links RUN_QUEUE))
      sound_by e = sound_taken (state_of k.objects h.held.rest) _ _ e h.held.sound

-- What might run before may run.
pub may_run_taken : IsItsSlot → StateAlone → (k n : Runtime) (devices : Devices) (input : List ℕ) (memory : Memory) (core id slice : ℕ) (thread : ThreadRecord) → Takes k.objects n.objects core id slice →
    n.numbers ≡ k.numbers → Held n → MayRun k devices input memory id thread → MayRun n devices input memory id thread
unfolding held_taken
may_run_taken law alone_law k n devices input memory core id slice thread takes numbers left may =
    let scheduler = may.over.held.scheduler in
    record {
      over = held_taken law alone_law k n devices input memory core id slice takes numbers left may.over;
      home = home_taken k.objects n.objects takes.slots takes.lists scheduler law memory thread.space _ thread.pc may.home;
      carried_out = λ plan is. plan_taken k.objects n.objects takes.slots takes.lists scheduler law alone_law memory may.over.held.rest may.over.held.world id thread plan
          (may.carried_out plan (sym (ap (λ (s : State). plan_of s thread) (state_taken k.objects n.objects takes.slots takes.lists scheduler alone_law may.over.held.rest)) ∙ is));
    }

-- The tick.

module _ (o m : Objects) (core id slice : ℕ) (takes : Takes o m core id slice) (scheduler : is_scheduler (slot_at o SCHEDULER) ≡ true) (law : StateAlone) (rest : Rest) (thread : ThreadRecord)
    (is : thread ≡ thread_at (state_of m rest) id) where
  taken : Chosen
  taken = record { occupant = record { thread = id; slice = slice }; queue = list_at m.links RUN_QUEUE }

  same : state_of m rest ≡ state_with_queue (state_of o rest) (list_at m.links RUN_QUEUE)
  same = state_taken o m takes.slots takes.lists scheduler law rest

  pub thread_taken : thread ≡ thread_at (state_of o rest) id
  thread_taken = is ∙ ap (λ (s : State). thread_at s id) same

  module _ (little : DependsOnLittle) (w : World) where
    effect_taken : instruction (world_of m rest w) id thread ≡ instruction (world_of o rest w) id (thread_at (state_of o rest) id)
    effect_taken =
        instruction_taken o m takes.slots takes.lists scheduler law little rest w id thread ∙ ap (λ (t : ThreadRecord). instruction (world_of o rest w) id t) thread_taken

    pub tick_state :
        state_of_effect (state_of m rest) core (record { occupant = record { thread = id; slice = slice }; queue = list_at m.links RUN_QUEUE }) (instruction (world_of m rest w) id thread)
        ≡ (tick (world_of o rest w) core).now
    unfolding world_of taken
    tick_state =
        let s = state_of o rest in
        let c : Chosen = record { occupant = record { thread = id; slice = slice }; queue = list_at m.links RUN_QUEUE } in
        ap (λ (x : State). state_of_effect x core c (instruction (world_of m rest w) id thread)) same
        ∙ effect_kept s (list_at m.links RUN_QUEUE) core c (instruction (world_of m rest w) id thread)
        ∙ ap (λ (x : Effect). state_of_effect s core c x) effect_taken
        ∙ sym (ap (λ (x : Option Chosen). (ticked (world_of o rest w) core x).now) (takes.chosen_is rest))

    pub tick_stores : stores_to (state_of m rest) (instruction (world_of m rest w) id thread) ≡ must_store (world_of o rest w) core
    unfolding world_of
    tick_stores =
        ap (λ (e : Effect). stores_to (state_of m rest) e) effect_taken
        ∙ ap (λ (s : State). stores_to s (instruction (world_of o rest w) id (thread_at (state_of o rest) id))) same
        ∙ sym (ap (λ (x : Option Chosen). stores_for (world_of o rest w) x) (takes.chosen_is rest))

    pub tick_replies : (wishes : Bool) → wishes ≡ (instruction (world_of m rest w) id thread).wishes → (if wishes then Wished else Retired) ≡ tick_reply (world_of o rest w) core
    unfolding world_of
    tick_replies wishes e =
        ap (λ (b : Bool). if b then Wished else Retired) (e ∙ ap (λ (x : Effect). x.wishes) effect_taken)
        ∙ sym (ap (λ (x : Option Chosen). reply_for (world_of o rest w) x) (takes.chosen_is rest))

-- the thread that was taken is the caller
pub caller_taken : (m : Objects) (id : ℕ) (thread caller : ThreadRecord) (rest : Rest) → thread ≡ thread_at (state_of m rest) id → IsCaller m id caller → IsCaller m id thread
unfolding state_of
caller_taken m id thread caller rest is stands =
    let same : thread_at (state_of m rest) id ≡ caller = rw stands.there refl in
    subst (λ (t : ThreadRecord). IsCaller m id t) (sym (is ∙ same)) stands
