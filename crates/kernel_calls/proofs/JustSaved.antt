-- A kernel whose objects were just saved, and what is read of one that holds a world.
use Rattle.std.specs.Prelude.{◌≡◌, ◌≢◌, ℕ, ◌+◌, ◌<◌, ◌≤◌, ◌==◌, ◌&&◌, nat_lt, if◌then◌else◌, Bool, true, false, List, Option, Some, None}
use Rattle.std.specs.Option.{IfSome, IfNone}
use Rattle.std.proofs.Common.{refl, ap, sym, subst, ◌∙◌, arith, inl, inr}
use Rattle.std.proofs.lemmas.Bool.{cases_lt, eqb-false}
use Rattle.sls_base.specs.declared.fixed.TheConstants.{FIRST_OUTPUT_RING, SCHEDULER}
use Rattle.sls_base.specs.declared.limits.TheConstants.{OBJECTS, OUTPUT_CHANNELS}
use Rattle.sls_base.specs.declared.thread.Ring.{Ring}
use Rattle.sls_base.specs.declared.thread.Thread.{Thread as ThreadRecord}
use Rattle.link_lists.specs.Lists.{list_at}
use Rattle.plain_state.specs.declared.objects.Kind.TheVariants.{OutputKind}
use Rattle.pmem_model.specs.Memory.{Memory}
use Rattle.plain_state.specs.Objects.{Object, Thread, OutputRing, InputRing, is_kind, is_thread}
use Rattle.plain_state.specs.States.{State}
use Rattle.plain_state.specs.Worlds.{World, put_count}
use Rattle.plain_laws.specs.Laws.{AreInRange}
use Rattle.plain_laws.specs.Sound.{AreApart}
use Rattle.kobj_table.specs.declared.objects.Objects.{Objects}
use Rattle.kobj_table.specs.declared.slot.Slot.{Slot}
use Rattle.kobj_table.specs.Slots.{has_list, is_scheduler, object_of, ring_of}
use Rattle.kobj_table.specs.Objects.{Rest, slot_at, object_at, state_of, HasNoStrays}
use Rattle.call_readings.specs.declared.numbers.NumbersInUse.{NumbersInUse}
use Rattle.call_readings.specs.Kernel.{world_of, CountsEntries, IsCounted}
use Rattle.object_records.specs.Marks.{marked, ring_marked}
use Rattle.kernel_calls.specs.declared.calls.Calls.{Calls}
use Rattle.kernel_calls.specs.Kernel.{Holds, IsJustSaved}

-- Where the numbers are counted from the objects.

abbrev pub CountsObjects : NumbersInUse → Objects → Type 0
CountsObjects numbers o = (w : World) (rest : Rest) → AreInRange (state_of o rest) → AreApart (state_of o rest)
    → ((id : ℕ) → w.saved.objects id ≡ (state_of o rest).objects id) → IsCounted numbers (world_of o rest w)

pub just_saved : (k : Calls) (accepted : List ℕ) (m : Memory) (rest : Rest) (w : World) → CountsObjects k.runtime.numbers k.runtime.objects →
    IsJustSaved k.runtime.objects k.inputs accepted m rest w → Holds k accepted m rest w
unfolding world_of
just_saved k accepted m rest w counts is =
    let o = k.runtime.objects in
    let counted : IsCounted k.runtime.numbers (record w { now = state_of o rest }) =
    counts w rest (subst (λ (s : State). AreInRange s) is.now is.sound.in_range.0) (subst (λ (s : State). AreApart s) is.now is.sound.apart.0)
    (λ id. is.saved id ∙ ap (λ (s : State). s.objects id) is.now) in
    record {
      now = is.now;
      sound = is.sound;
      counted = subst (λ (s : State). IsCounted k.runtime.numbers (record w { now = s })) (sym is.now) counted;
      attached = is.attached;
      inputs = is.inputs;
      content = is.content;
      entries = is.entries;
      scheduler = is.scheduler;
      strays = is.strays;
    }

pub saved_by : (k : Calls) (o : Objects) (numbers : NumbersInUse) (waiting : List (List ℕ)) (accepted : List ℕ) (m : Memory) (rest : Rest) (w : World) →
    k.runtime.objects ≡ o → k.runtime.numbers ≡ numbers → k.inputs ≡ waiting → CountsObjects numbers o → IsJustSaved o waiting accepted m rest w → Holds k accepted m rest w
saved_by k o numbers waiting accepted m rest w objects_are numbers_are inputs_are counts is =
    just_saved k accepted m rest w
    (subst (λ (n : NumbersInUse). CountsObjects n k.runtime.objects) (sym numbers_are) (subst (λ (x : Objects). CountsObjects numbers x) (sym objects_are) counts))
    (subst (λ (l : List (List ℕ)). IsJustSaved k.runtime.objects l accepted m rest w) (sym inputs_are) (subst (λ (x : Objects). IsJustSaved x waiting accepted m rest w) (sym objects_are) is))

-- The thread of a number.

pub thread_held : (told : Option ThreadRecord) (o : Objects) (content : ℕ → ℕ → ℕ) (id : ℕ) (object : Option Object) → object ≡ object_at content o id →
    IfSome told (λ thread. slot_at o id ≡ Slot.Thread thread) → IfSome told (λ thread. object ≡ Some (Thread thread))
thread_held None o content id object same is = tt
thread_held (Some thread) o content id object same is = same ∙ ap (λ (s : Slot). object_of content s (list_at o.links id)) is

pub no_thread_held : (told : Option ThreadRecord) (o : Objects) (content : ℕ → ℕ → ℕ) (id : ℕ) (object : Option Object) → object ≡ object_at content o id →
    IfNone told ((content : ℕ → ℕ → ℕ) → is_thread (object_at content o id) ≡ false) → IfNone told (is_thread object ≡ false)
no_thread_held None o content id object same none = ap is_thread same ∙ none content
no_thread_held (Some thread) o content id object same none = tt

-- A ring counts its channel's entries.

ring_channel : (a channel : ℕ) (b : Bool) → (a == OUTPUT_CHANNELS) ≡ b → Some (ring_of a) ≡ Some (OutputRing channel) → (a ≢ OUTPUT_CHANNELS) × (a ≡ channel)
ring_channel a channel true input e = absurd (let never : Some InputRing ≡ Some (OutputRing channel) = rw input at e in cc)
ring_channel a channel false output e = (let is : Some (OutputRing a) ≡ Some (OutputRing channel) = rw output at e in (eqb-false a OUTPUT_CHANNELS output, cc))

module _ (k : Calls) (accepted : List ℕ) (m : Memory) (rest : Rest) (w : World) (h : Holds k accepted m rest w) where
  pub object_held : (i : ℕ) → w.now.objects i ≡ object_at rest.content k.runtime.objects i
  unfolding state_of
  object_held i = ap (λ (s : State). s.objects i) h.now

  ring_there : (channel : ℕ) → channel < OUTPUT_CHANNELS → object_at rest.content k.runtime.objects (FIRST_OUTPUT_RING + channel) ≡ Some (OutputRing channel)
  ring_there channel below = sym (object_held (FIRST_OUTPUT_RING + channel)) ∙ h.sound.fixed.0.outputs channel below

  pub ring_counts : (channel : ℕ) (ring : Ring) → channel < OUTPUT_CHANNELS → slot_at k.runtime.objects (FIRST_OUTPUT_RING + channel) ≡ Slot.Ring ring → ring.count ≡ put_count w channel
  ring_counts channel ring below there =
      let object : Some (ring_of ring.channel) ≡ Some (OutputRing channel) = rw there at (ring_there channel below) in
      let same = ring_channel ring.channel channel (ring.channel == OUTPUT_CHANNELS) refl object in
      let counts = subst (λ (s : Slot). CountsEntries s w) there (h.attached.rings (FIRST_OUTPUT_RING + channel)) in
      counts.1 same.0 ∙ ap (put_count w) same.1

  pub some_ring : (channel : ℕ) → channel < OUTPUT_CHANNELS → is_kind OutputKind (object_at rest.content k.runtime.objects (FIRST_OUTPUT_RING + channel)) ≡ false → ⊥
  some_ring channel below none = let never : is_kind OutputKind (Some (OutputRing channel)) ≡ false = rw (ring_there channel below) at none in absurd (cc)

-- A page is marked.

marked_if : (b fresh : Bool) (ring : Ring) (w : World) → CountsEntries (Slot.Ring ring) w → CountsEntries (Slot.Ring (if b then record ring { fresh = fresh } else ring)) w
marked_if true fresh ring w is = is
marked_if false fresh ring w is = is

ring_as_marked : (page : ℕ) (fresh : Bool) (ring : Ring) (w : World) → CountsEntries (Slot.Ring ring) w → CountsEntries (Slot.Ring (ring_marked page fresh ring)) w
ring_as_marked page fresh ring w is = marked_if ((ring.page == page) && nat_lt ring.channel OUTPUT_CHANNELS) fresh ring w is

marked_counts : (page : ℕ) (fresh : Bool) (slot : Slot) (w : World) → CountsEntries slot w → CountsEntries (marked page fresh slot) w
marked_counts page fresh (Slot.Ring ring) w is = ring_as_marked page fresh ring w is
marked_counts page fresh Slot.Empty w is = is
marked_counts page fresh (Slot.Group group) w is = is
marked_counts page fresh (Slot.Thread thread) w is = is
marked_counts page fresh (Slot.Space space) w is = is
marked_counts page fresh (Slot.Memory memory) w is = is
marked_counts page fresh (Slot.Connection connection) w is = is
marked_counts page fresh (Slot.Notification note) w is = is
marked_counts page fresh (Slot.Scheduler cores) w is = is

marked_list : (page : ℕ) (fresh : Bool) (slot : Slot) → has_list (marked page fresh slot) ≡ has_list slot
marked_list page fresh (Slot.Ring ring) = refl
marked_list page fresh Slot.Empty = refl
marked_list page fresh (Slot.Group group) = refl
marked_list page fresh (Slot.Thread thread) = refl
marked_list page fresh (Slot.Space space) = refl
marked_list page fresh (Slot.Memory memory) = refl
marked_list page fresh (Slot.Connection connection) = refl
marked_list page fresh (Slot.Notification note) = refl
marked_list page fresh (Slot.Scheduler cores) = refl

marked_scheduler : (page : ℕ) (fresh : Bool) (slot : Slot) → is_scheduler (marked page fresh slot) ≡ is_scheduler slot
marked_scheduler page fresh (Slot.Ring ring) = refl
marked_scheduler page fresh Slot.Empty = refl
marked_scheduler page fresh (Slot.Group group) = refl
marked_scheduler page fresh (Slot.Thread thread) = refl
marked_scheduler page fresh (Slot.Space space) = refl
marked_scheduler page fresh (Slot.Memory memory) = refl
marked_scheduler page fresh (Slot.Connection connection) = refl
marked_scheduler page fresh (Slot.Notification note) = refl
marked_scheduler page fresh (Slot.Scheduler cores) = refl

-- What is marked differs in nothing that a world sees.
record IsMarked (page : ℕ) (fresh : Bool) (o n : Objects) : Type 0 where
  pub within : (i : ℕ) → i < OBJECTS → slot_at n i ≡ marked page fresh (slot_at o i)
  pub past : (i : ℕ) → OBJECTS ≤ i → slot_at n i ≡ slot_at o i

counts_at : (page : ℕ) (fresh : Bool) (o n : Objects) (w : World) → IsMarked page fresh o n → (i : ℕ) → CountsEntries (slot_at o i) w → CountsEntries (slot_at n i) w
counts_at page fresh o n w is i counts =
    elim (cases_lt i OBJECTS) [
      | inl lt ↦ subst (λ (s : Slot). CountsEntries s w) (sym (is.within i lt)) (marked_counts page fresh (slot_at o i) w counts)
      | inr past ↦ subst (λ (s : Slot). CountsEntries s w) (sym (is.past i past)) counts
    ]

list_kept : (page : ℕ) (fresh : Bool) (o n : Objects) → IsMarked page fresh o n → (i : ℕ) → has_list (slot_at n i) ≡ has_list (slot_at o i)
list_kept page fresh o n is i =
    elim (cases_lt i OBJECTS) [
      | inl lt ↦ ap has_list (is.within i lt) ∙ marked_list page fresh (slot_at o i)
      | inr past ↦ ap has_list (is.past i past)
    ]

strays_kept : (page : ℕ) (fresh : Bool) (o n : Objects) → IsMarked page fresh o n → n.links ≡ o.links → HasNoStrays o → HasNoStrays n
strays_kept page fresh o n is links strays i other none = rw links (strays i other (sym (list_kept page fresh o n is i) ∙ none))

pub still_held : (page : ℕ) (fresh : Bool) (k n : Calls) (accepted : List ℕ) (m : Memory) (rest : Rest) (w : World) →
    ((i : ℕ) → i < OBJECTS → slot_at n.runtime.objects i ≡ marked page fresh (slot_at k.runtime.objects i)) →
    ((i : ℕ) → OBJECTS ≤ i → slot_at n.runtime.objects i ≡ slot_at k.runtime.objects i) → n.runtime.objects.links ≡ k.runtime.objects.links →
    n.runtime.numbers ≡ k.runtime.numbers → n.inputs ≡ k.inputs → state_of n.runtime.objects rest ≡ state_of k.runtime.objects rest → Holds k accepted m rest w → Holds n accepted m rest w
still_held page fresh k n accepted m rest w within past links numbers inputs state h =
    let is : IsMarked page fresh k.runtime.objects n.runtime.objects = record { within = within; past = past } in
    record {
      now = h.now ∙ sym state;
      sound = h.sound;
      counted = rw numbers h.counted;
      attached = record {
        rings = λ i. counts_at page fresh k.runtime.objects n.runtime.objects w is i (h.attached.rings i);
        accepted = h.attached.accepted;
        input = rw inputs h.attached.input;
      };
      inputs = inputs ∙ h.inputs;
      content = h.content;
      entries = h.entries;
      scheduler = ap is_scheduler (within SCHEDULER (omega arith)) ∙ marked_scheduler page fresh (slot_at k.runtime.objects SCHEDULER) ∙ h.scheduler;
      strays = strays_kept page fresh k.runtime.objects n.runtime.objects is links h.strays;
    }
