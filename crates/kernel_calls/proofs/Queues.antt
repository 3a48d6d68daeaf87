-- A thread that goes to the end of the run queue.
use Rattle.std.specs.Prelude.{◌≡◌, ◌≢◌, ℕ, ◌==◌, Bool, true, false, List, [], ◌∷◌, Contains, Option, Some, None}
use Rattle.std.specs.Option.{IfSome, IfNone}
use Rattle.sls_base.specs.declared.thread.Thread.{Thread as ThreadRecord}
use Rattle.std.proofs.Common.{subst, refl, ap, sym, ◌∙◌, inl, inr}
use Rattle.std.proofs.lemmas.Bool.{eqb-true, eqb-false, false≢true}
use Rattle.std.proofs.lemmas.List.Elements.{Contains-append_cases}
use Rattle.sls_base.specs.declared.fixed.TheConstants.{SCHEDULER}
use Rattle.link_lists.specs.Lists.{list_at, IsFree}
use Rattle.ipc_note.specs.declared.lists.TheConstants.{RUN_QUEUE}
use Rattle.ipc_note.specs.Lists.{Appends}
use Rattle.plain_state.specs.Worlds.{World}
use Rattle.plain_state.specs.Objects.{Object}
use Rattle.plain_state.specs.States.{with_object}
use Rattle.plain_state.specs.Effects.{Effect}
use Rattle.kobj_table.specs.declared.objects.Objects.{Objects}
use Rattle.kobj_table.specs.declared.slot.Slot.{Slot}
use Rattle.kobj_table.specs.Slots.{is_scheduler, has_list, object_of}
use Rattle.kobj_table.specs.Objects.{Rest, slot_at, object_at, Puts, HasNoStrays, HasNoStraysAt}
use Rattle.kernel_calls.specs.declared.runtime.Runtime.{Runtime}
use Rattle.kernel_calls.specs.declared.done.Done.{Done}
use Rattle.kernel_calls.specs.Does.{Does}
use Rattle.kernel_calls.proofs.Objects.{told, given}
use Rattle.kernel_calls.proofs.Numbers.{counted_kept}
use Rattle.kernel_calls.proofs.Frames.{no_more}
use Rattle.kernel_calls.proofs.Places.{at_first}

-- The law of the table: an object that has no list is what stands in its slot.
abbrev pub IsItsSlot : Type 0
IsItsSlot = (old new : Objects) (content : ℕ → ℕ → ℕ) (i : ℕ) → slot_at new i ≡ slot_at old i →
    (has_list (slot_at old i) ≡ true → list_at new.links i ≡ list_at old.links i) → object_at content new i ≡ object_at content old i

scheduler_listless : (slot : Slot) → is_scheduler slot ≡ true → has_list slot ≡ true → ⊥
scheduler_listless (Slot.Scheduler cores) e f = cc
scheduler_listless Slot.Empty e f = cc
scheduler_listless (Slot.Group group) e f = cc
scheduler_listless (Slot.Thread thread) e f = cc
scheduler_listless (Slot.Space space) e f = cc
scheduler_listless (Slot.Memory memory) e f = cc
scheduler_listless (Slot.Connection connection) e f = cc
scheduler_listless (Slot.Notification note) e f = cc
scheduler_listless (Slot.Ring ring) e f = cc

-- the run queue is the list of no object
pub not_the_queue : (o : Objects) (i : ℕ) → is_scheduler (slot_at o SCHEDULER) ≡ true → has_list (slot_at o i) ≡ true → i ≢ RUN_QUEUE
not_the_queue o i scheduler has same = scheduler_listless (slot_at o i) (rw same scheduler) has

-- so where that alone changes no object does
pub queue_alone : IsItsSlot → (o n : Objects) (content : ℕ → ℕ → ℕ) → n.slots ≡ o.slots → ((i : ℕ) → i ≢ RUN_QUEUE → list_at n.links i ≡ list_at o.links i) →
    is_scheduler (slot_at o SCHEDULER) ≡ true → (i : ℕ) → object_at content n i ≡ object_at content o i
queue_alone law o n content slots lists scheduler i = law o n content i (rw slots refl) (λ has. lists i (not_the_queue o i scheduler has))

free_by : (old new : List (List ℕ)) (list thread other : ℕ) (i : ℕ) (b : Bool) → (i == list) ≡ b → Appends old new list thread → IsFree old other → other ≢ thread → Contains (list_at new i) other → ⊥
free_by old new list thread other i true same a free apart has =
    elim (Contains-append_cases (list_at old list) (thread ∷ []) other (rw (eqb-true i list same, a.last) at has)) [
      | inl before ↦ free list before
      | inr last ↦ apart (sym (at_first thread other last))
    ]
free_by old new list thread other i false same a free apart has = free i (rw (a.others i (eqb-false i list same)) at has)

-- who stood in no list stands in none where another comes to stand in one
pub still_free : (old new : List (List ℕ)) (list thread other : ℕ) → Appends old new list thread → IsFree old other → other ≢ thread → IsFree new other
still_free old new list thread other a free apart i has = free_by old new list thread other i (i == list) refl a free apart has

-- a call that wakes nobody, and a thread that then goes to the end of the queue
pub queued : IsItsSlot → (k m k' : Runtime) (rest : Rest) (w : World) (e : Effect) (done : Done) (id : ℕ) → Does k m rest w e done → e.wakes ≡ [] →
    k'.objects.slots ≡ m.objects.slots → Appends m.objects.links k'.objects.links RUN_QUEUE id → k'.numbers ≡ m.numbers → is_scheduler (slot_at m.objects SCHEDULER) ≡ true →
    Does k k' rest w (record e { wakes = id ∷ [] }) done
queued law k m k' rest w e done id d none slots a numbers scheduler =
    let same = queue_alone law m.objects k'.objects rest.content slots a.others scheduler in
    record {
      objects = λ i. same i ∙ d.objects i;
      queue = a.last ∙ rw d.queue (rw none (rw (no_more (list_at k.objects.links RUN_QUEUE)) refl));
      scheduler = rw slots d.scheduler;
      counted = rw numbers (counted_kept m.numbers m.objects k'.objects rest w (λ i. ap told (same i)) d.counted);
      caller = record { regs = d.caller.regs; goes = d.caller.goes; takes = d.caller.takes; wishes = d.caller.wishes };
      quiet = record { stores = d.quiet.stores; output = d.quiet.output; takes = d.quiet.takes };
    }

-- the table with other lists
abbrev pub with_links : Objects → List (List ℕ) → Objects
with_links o links = record { slots = o.slots; links = links }

-- an object is put in its place, where its list and the run queue have changed
pub relisted : IsItsSlot → (o n : Objects) (links : List (List ℕ)) (content : ℕ → ℕ → ℕ) (id : ℕ) (slot : Slot) (object : Object) → Puts (with_links o links) n id slot →
    object_of content slot (list_at links id) ≡ Some object → ((i : ℕ) → i ≢ id → i ≢ RUN_QUEUE → list_at links i ≡ list_at o.links i) →
    is_scheduler (slot_at o SCHEDULER) ≡ true → (i : ℕ) → object_at content n i ≡ with_object (object_at content o) id object i
relisted law o n links content id slot object p is lists scheduler =
    given (object_at content o) (object_at content n) id object (rw p.there (rw p.links is))
    (λ i other. law o n content i (p.others i other) (λ has. rw p.links (lists i other (not_the_queue o i scheduler has))))

-- no list of no object got threads
pub strays_moved : (o : Objects) (links : List (List ℕ)) (id : ℕ) → has_list (slot_at o id) ≡ true → ((i : ℕ) → i ≢ id → i ≢ RUN_QUEUE → list_at links i ≡ list_at o.links i) →
    HasNoStrays o → HasNoStrays (with_links o links)
strays_moved o links id has lists none i not_queue no_list = lists i (λ same. listless same) not_queue ∙ none i not_queue no_list where
  listless : i ≡ id → ⊥
  listless same = let f : has_list (slot_at o i) ≡ true = rw same has in false≢true (sym no_list ∙ f)

-- a thread that is lent and given back leaves the lists, and those of no object empty
pub given_back : (o m : Objects) (lent : Option ℕ) (thread : ThreadRecord) → HasNoStrays o → ((id : ℕ) → lent ≡ Some id → has_list (slot_at o id) ≡ false) →
    IfSome lent (λ id. Puts o m id (Slot.Thread thread)) → IfNone lent (m ≡ o) → IfSome lent (λ id. HasNoStrays o → HasNoStraysAt o (Slot.Thread thread) id → HasNoStrays m) →
    HasNoStrays m × (m.links ≡ o.links) × ((i : ℕ) → (lent ≡ Some i → ⊥) → slot_at m i ≡ slot_at o i)
given_back o m None thread none listless puts same kept = (subst (λ (x : Objects). HasNoStrays x) (sym same) none, ap (λ (x : Objects). x.links) same, λ i other. ap (λ (x : Objects). slot_at x i) same)
given_back o m (Some id) thread none listless puts same kept = (kept none (λ not_queue no_list. none id not_queue (listless id refl)), puts.links, λ i other. puts.others i (λ same. other (ap (λ (n : ℕ). Some n) (sym same))))
