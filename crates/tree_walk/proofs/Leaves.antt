-- What the sweep leaves is the plain machine's state after it.
use Rattle.std.specs.Prelude.{◌≡◌, ◌≢◌, ℕ, zero, suc, ◌<◌, ◌≤◌, ◌==◌, not, Bool, true, false, if◌then◌else◌, List, [], ◌∷◌, map, filter, take, Option, Some, None, is_some, option_map, slice_index_or}
use Rattle.std.specs.List.{list_any}
use Rattle.std.proofs.Common.{refl, ap, sym, ◌∙◌, arith, inl, inr, subst}
use Rattle.std.proofs.lemmas.Bool.{cases_Bool, cases_lt, cases_eq, eqb-true, true≢false}
use mathlib.Core.Path.{fun_ext}
use Rattle.sls_base.specs.declared.limits.TheConstants.{OBJECTS, OUTPUT_CHANNELS}
use Rattle.sls_base.specs.declared.fixed.TheConstants.{SCHEDULER}
use Rattle.link_lists.specs.Lists.{list_at}
use Rattle.plain_state.specs.declared.objects.Occupant.{Occupant}
use Rattle.plain_model.specs.Objects.{Object, InputRing, OutputRing}
use Rattle.plain_model.specs.States.{State}
use Rattle.plain_model.specs.Sweep.{is_reached, is_lost, loses_any, thread_on, settled, kept_on_core, swept, is_settled_otherwise, is_swept_otherwise}
use Rattle.kobj_table.specs.declared.slot.Slot.{Slot}
use Rattle.kobj_table.specs.declared.slot.Cores.{Cores}
use Rattle.kobj_table.specs.declared.objects.Objects.{Objects}
use Rattle.kobj_table.specs.Slots.{object_of, cores_of, occupant_of, has_list, is_scheduler}
use Rattle.kobj_table.specs.Objects.{slot_at, object_at, Rest, state_of, HasNoStrays}
use Rattle.sls_base.proofs.ListTests.{or_false}
use Rattle.tree_walk.specs.Sweep.{left_on, left_in, left_at, threads_left}
use Rattle.tree_walk.proofs.Cores.{lost, any_lost, left_on_first}

-- The objects.

ring_settled : (s : State) (b : Bool) (channel : ℕ) → (if b then InputRing else OutputRing channel) ≡ settled s (if b then InputRing else OutputRing channel)
ring_settled s true channel = refl
ring_settled s false channel = refl

object_left : (content : ℕ → ℕ → ℕ) (s : State) (i : ℕ) (slot : Slot) (threads : List ℕ) →
    object_of content (left_in s i slot) (filter (is_reached s) threads) ≡ option_map (settled s) (object_of content slot threads)
object_left content s i Slot.Empty threads = refl
object_left content s i (Slot.Group group) threads = refl
object_left content s i (Slot.Thread thread) threads = refl
object_left content s i (Slot.Space space) threads = refl
object_left content s i (Slot.Memory memory) threads = refl
object_left content s i (Slot.Connection c) threads = refl
object_left content s i (Slot.Notification note) threads = refl
object_left content s i (Slot.Ring ring) threads = ap (λ (o : Object). Some o) (ring_settled s (ring.channel == OUTPUT_CHANNELS) ring.channel)
object_left content s i (Slot.Scheduler cores) threads = refl

-- The cores.

occupant_left : (s : State) (running : Option (ℕ × ℕ)) → option_map occupant_of (left_on s running) ≡ kept_on_core s (option_map occupant_of running)
occupant_left s running = elim (cases_Bool (lost s running)) [
  | inl gone ↦ rw gone refl
  | inr stays ↦ rw stays refl
]

occupants_left : (s : State) (n : ℕ) (running : List (Option (ℕ × ℕ))) →
    take n (map (option_map occupant_of) (left_on_first s n running)) ≡ map (kept_on_core s) (take n (map (option_map occupant_of) running))
occupants_left s zero running = refl
occupants_left s (suc n) [] = refl
occupants_left s (suc n) (r ∷ running) = rw (occupant_left s r, occupants_left s n running) refl

cores_left : (s : State) (slot : Slot) → cores_of (left_in s SCHEDULER slot) ≡ map (kept_on_core s) (cores_of slot)
cores_left s Slot.Empty = refl
cores_left s (Slot.Group group) = refl
cores_left s (Slot.Thread thread) = refl
cores_left s (Slot.Space space) = refl
cores_left s (Slot.Memory memory) = refl
cores_left s (Slot.Connection c) = refl
cores_left s (Slot.Notification note) = refl
cores_left s (Slot.Ring ring) = refl
cores_left s (Slot.Scheduler cores) = occupants_left s cores.cores cores.running

-- The state.

-- what the sweep leaves in the table, of a state
pub record Leaves (o n : Objects) (s : State) : Type 0 where
  pub left : (i : ℕ) → slot_at n i ≡ left_at s o i
  pub threads : (i : ℕ) → i < OBJECTS → list_at n.links i ≡ threads_left s o i
  pub past : (i : ℕ) → OBJECTS ≤ i → list_at n.links i ≡ list_at o.links i
  pub none_past : (i : ℕ) → OBJECTS ≤ i → slot_at o i ≡ Slot.Empty

nothing_left : (s : State) (o : Objects) (i : ℕ) → slot_at o i ≡ Slot.Empty → left_at s o i ≡ Slot.Empty
nothing_left s o i nothing = elim (cases_Bool (is_reached s i)) [
  | inl reached ↦ rw (reached, nothing) refl
  | inr gone ↦ rw gone refl
]

-- what is left at a number of these slots
abbrev left_of : State → ℕ → List Slot → Slot
left_of s i slots = if is_reached s i then left_in s i (slice_index_or slots i Slot.Empty) else Slot.Empty

-- it is left by two passes, of which one changes lists alone and one slots alone
pub leaves_by : (o m n : Objects) (s : State) → m.slots ≡ o.slots → n.links ≡ m.links → ((i : ℕ) → i < OBJECTS → list_at m.links i ≡ threads_left s o i) →
    ((i : ℕ) → OBJECTS ≤ i → list_at m.links i ≡ list_at o.links i) → ((i : ℕ) → i < OBJECTS → slot_at n i ≡ left_at s m i) →
    ((i : ℕ) → OBJECTS ≤ i → slot_at n i ≡ slot_at m i) → ((i : ℕ) → OBJECTS ≤ i → slot_at o i ≡ Slot.Empty) → Leaves o n s
leaves_by o m n s slots links lists lists_past left slots_past none_past = record {
  left = λ i. elim (cases_lt i OBJECTS) [
    | inl below ↦ left i below ∙ ap (λ (l : List Slot). left_of s i l) slots
    | inr above ↦
        let nothing = none_past i (omega arith) in
        slots_past i (omega arith) ∙ (ap (λ (l : List Slot). slice_index_or l i Slot.Empty) slots ∙ (nothing ∙ sym (nothing_left s o i nothing)))
  ];
  threads = λ i below. ap (λ (l : List (List ℕ)). list_at l i) links ∙ lists i below;
  past = λ i above. ap (λ (l : List (List ℕ)). list_at l i) links ∙ lists_past i above;
  none_past = none_past;
}

object_swept : (o n : Objects) (content : ℕ → ℕ → ℕ) (s : State) (i : ℕ) → i < OBJECTS → Leaves o n s →
    object_at content n i ≡ (if is_reached s i then option_map (settled s) (object_at content o i) else None)
object_swept o n content s i below leaves = elim (cases_Bool (is_reached s i)) [
  | inl reached ↦ rw (leaves.left i, leaves.threads i below, reached) (object_left content s i (slot_at o i) (list_at o.links i))
  | inr gone ↦ rw (leaves.left i, gone) refl
]

object_past : (o n : Objects) (content : ℕ → ℕ → ℕ) (s : State) (i : ℕ) → OBJECTS ≤ i → Leaves o n s →
    object_at content n i ≡ (if is_reached s i then option_map (settled s) (object_at content o i) else None)
object_past o n content s i past leaves = elim (cases_Bool (is_reached s i)) [
  | inl reached ↦ rw (leaves.left i, reached, leaves.none_past i past) refl
  | inr gone ↦ rw (leaves.left i, gone) refl
]

object_anywhere : (o n : Objects) (content : ℕ → ℕ → ℕ) (s : State) → Leaves o n s → (i : ℕ) →
    object_at content n i ≡ (if is_reached s i then option_map (settled s) (object_at content o i) else None)
object_anywhere o n content s leaves i = elim (cases_lt i OBJECTS) [
  | inl below ↦ object_swept o n content s i below leaves
  | inr above ↦ object_past o n content s i (omega arith) leaves
]

state_made : Rest → (ℕ → Option Object) → List ℕ → List (Option Occupant) → State
state_made rest objects queue cores = record { objects = objects; queue = queue; cores = cores; out = rest.out; inputs = rest.inputs }

pub state_swept : (o n : Objects) (rest : Rest) → is_reached (state_of o rest) SCHEDULER ≡ true → Leaves o n (state_of o rest) → state_of n rest ≡ swept (state_of o rest)
unfolding state_of state_made
state_swept o n rest reached leaves =
    let s = state_of o rest in
    let objects' = (swept s).objects in
    let queue : list_at n.links SCHEDULER ≡ filter (is_reached s) (list_at o.links SCHEDULER) = rw (leaves.threads SCHEDULER (omega arith), reached) refl in
    let cores : cores_of (slot_at n SCHEDULER) ≡ map (kept_on_core s) (cores_of (slot_at o SCHEDULER)) = rw (leaves.left SCHEDULER, reached) (cores_left s (slot_at o SCHEDULER)) in
    ap (λ (f : ℕ → Option Object). state_made rest f (list_at n.links SCHEDULER) (cores_of (slot_at n SCHEDULER))) (fun_ext (object_anywhere o n rest.content s leaves))
    ∙ (ap (λ (l : List ℕ). state_made rest objects' l (cores_of (slot_at n SCHEDULER))) queue
    ∙ ap (λ (l : List (Option Occupant)). state_made rest objects' (filter (is_reached s) (list_at o.links SCHEDULER)) l) cores)

-- What stays as it was.

running_same : (s : State) (n : ℕ) (running : List (Option (ℕ × ℕ))) → any_lost s n running ≡ false → left_on_first s n running ≡ running
running_same s zero running none = refl
running_same s (suc n) [] none = refl
running_same s (suc n) (r ∷ running) none =
    let parts = or_false (lost s r) (any_lost s n running) none in
    rw (parts.0, running_same s n running parts.1) refl

not_false : (b : Bool) → not b ≡ false → b ≡ true
not_false true e = refl
not_false false e = absurd (cc)

threads_same : (s : State) (threads : List ℕ) → loses_any s threads ≡ false → filter (is_reached s) threads ≡ threads
threads_same s [] none = refl
threads_same s (id ∷ threads) none =
    let parts = or_false (not (is_reached s id)) (loses_any s threads) none in
    let stays : is_reached s id ≡ true = not_false (is_reached s id) parts.0 in
    rw (stays, threads_same s threads parts.1) refl

-- of the scheduler's slot, where its cores are the state's
cores_same : (s : State) (i : ℕ) (cores : Cores) (b : Bool) → (i == SCHEDULER) ≡ b → (i ≡ SCHEDULER → s.cores ≡ cores_of (Slot.Scheduler cores)) →
    list_any (λ core. is_lost s (thread_on core)) s.cores ≡ false → left_in s i (Slot.Scheduler cores) ≡ Slot.Scheduler cores
cores_same s i cores true same own none =
    let of_these = subst (λ (l : List (Option Occupant)). list_any (λ core. is_lost s (thread_on core)) l ≡ false) (own (eqb-true i SCHEDULER same)) none in
    rw (same, running_same s cores.cores cores.running of_these) refl
cores_same s i cores false other own none = rw other refl

slot_settled_same : (content : ℕ → ℕ → ℕ) (s : State) (i : ℕ) (slot : Slot) (threads : List ℕ) → (i ≡ SCHEDULER → s.cores ≡ cores_of slot) →
    is_settled_otherwise s (object_of content slot threads) ≡ false → left_in s i slot ≡ slot
slot_settled_same content s i Slot.Empty threads own none = refl
slot_settled_same content s i (Slot.Group group) threads own none = refl
slot_settled_same content s i (Slot.Thread thread) threads own none = rw none refl
slot_settled_same content s i (Slot.Space space) threads own none = refl
slot_settled_same content s i (Slot.Memory memory) threads own none = refl
slot_settled_same content s i (Slot.Connection c) threads own none = rw (or_false (is_lost s c.client) (loses_any s threads) none).0 refl
slot_settled_same content s i (Slot.Notification note) threads own none = refl
slot_settled_same content s i (Slot.Ring ring) threads own none = refl
slot_settled_same content s i (Slot.Scheduler cores) threads own none =
    cores_same s i cores (i == SCHEDULER) refl own (or_false (loses_any s s.queue) (list_any (λ core. is_lost s (thread_on core)) s.cores) none).1

nothing_there : (content : ℕ → ℕ → ℕ) (slot : Slot) (threads : List ℕ) → is_some (object_of content slot threads) ≡ false → slot ≡ Slot.Empty
nothing_there content Slot.Empty threads none = refl
nothing_there content (Slot.Group group) threads none = absurd (cc)
nothing_there content (Slot.Thread thread) threads none = absurd (cc)
nothing_there content (Slot.Space space) threads none = absurd (cc)
nothing_there content (Slot.Memory memory) threads none = absurd (cc)
nothing_there content (Slot.Connection c) threads none = absurd (cc)
nothing_there content (Slot.Notification note) threads none = absurd (cc)
nothing_there content (Slot.Ring ring) threads none = absurd (cc)
nothing_there content (Slot.Scheduler cores) threads none = absurd (cc)

-- what isn't told to be another is the same
pub slot_same : (o n : Objects) (rest : Rest) (i : ℕ) → Leaves o n (state_of o rest) → is_swept_otherwise (state_of o rest) i ≡ false → slot_at n i ≡ slot_at o i
unfolding state_of
slot_same o n rest i leaves untold =
    let s = state_of o rest in
    let slot = slot_at o i in
    let threads = list_at o.links i in
    elim (cases_Bool (is_reached s i)) [
      | inl reached ↦
          let none = rw reached at untold in
          rw (leaves.left i, reached) (slot_settled_same rest.content s i slot threads (λ same. ap (λ (j : ℕ). cores_of (slot_at o j)) (sym same)) none)
      | inr gone ↦
          let none = rw gone at untold in
          rw (leaves.left i, gone) (sym (nothing_there rest.content slot threads none))
    ]

list_settled_same : (content : ℕ → ℕ → ℕ) (s : State) (slot : Slot) (threads : List ℕ) → has_list slot ≡ true → is_settled_otherwise s (object_of content slot threads) ≡ false →
    loses_any s threads ≡ false
list_settled_same content s Slot.Empty threads has none = absurd (cc)
list_settled_same content s (Slot.Group group) threads has none = absurd (cc)
list_settled_same content s (Slot.Thread thread) threads has none = absurd (cc)
list_settled_same content s (Slot.Space space) threads has none = absurd (cc)
list_settled_same content s (Slot.Memory memory) threads has none = absurd (cc)
list_settled_same content s (Slot.Connection c) threads has none = (or_false (is_lost s c.client) (loses_any s threads) none).1
list_settled_same content s (Slot.Notification note) threads has none = none
list_settled_same content s (Slot.Ring ring) threads has none = absurd (cc)
list_settled_same content s (Slot.Scheduler cores) threads has none = absurd (cc)

queue_settled_same : (content : ℕ → ℕ → ℕ) (s : State) (slot : Slot) (threads : List ℕ) → is_scheduler slot ≡ true → is_settled_otherwise s (object_of content slot threads) ≡ false →
    loses_any s s.queue ≡ false
queue_settled_same content s Slot.Empty threads is none = absurd (cc)
queue_settled_same content s (Slot.Group group) threads is none = absurd (cc)
queue_settled_same content s (Slot.Thread thread) threads is none = absurd (cc)
queue_settled_same content s (Slot.Space space) threads is none = absurd (cc)
queue_settled_same content s (Slot.Memory memory) threads is none = absurd (cc)
queue_settled_same content s (Slot.Connection c) threads is none = absurd (cc)
queue_settled_same content s (Slot.Notification note) threads is none = absurd (cc)
queue_settled_same content s (Slot.Ring ring) threads is none = absurd (cc)
queue_settled_same content s (Slot.Scheduler cores) threads is none = (or_false (loses_any s s.queue) (list_any (λ core. is_lost s (thread_on core)) s.cores) none).0

-- nor is its list, where the scheduler stands at its number and no list but the run queue and those of objects has threads

list_kept : (o n : Objects) (rest : Rest) (i : ℕ) → i < OBJECTS → Leaves o n (state_of o rest) → is_reached (state_of o rest) i ≡ true → is_scheduler (slot_at o SCHEDULER) ≡ true → HasNoStrays o →
    is_settled_otherwise (state_of o rest) (object_at rest.content o i) ≡ false → list_at n.links i ≡ list_at o.links i
unfolding state_of
list_kept o n rest i below leaves reached scheduler strays none =
    let s = state_of o rest in
    let slot = slot_at o i in
    let threads = list_at o.links i in
    let of_all : loses_any s threads ≡ false → list_at n.links i ≡ threads = λ loses. rw (leaves.threads i below, reached) (threads_same s threads loses) in
    elim (cases_Bool (has_list slot)) [
      | inl has ↦ of_all (list_settled_same rest.content s slot threads has none)
      | inr has_none ↦ elim (cases_eq i SCHEDULER) [
        | inl same ↦
            let is = rw (← same) at scheduler in
            let queue = queue_settled_same rest.content s slot threads is none in
            of_all (rw same queue)
        | inr other ↦ of_all (rw (strays i other has_none) refl)
      ]
    ]

pub list_same : (o n : Objects) (rest : Rest) (i : ℕ) → Leaves o n (state_of o rest) → is_reached (state_of o rest) SCHEDULER ≡ true → is_scheduler (slot_at o SCHEDULER) ≡ true → HasNoStrays o →
    is_swept_otherwise (state_of o rest) i ≡ false → list_at n.links i ≡ list_at o.links i
unfolding state_of
list_same o n rest i leaves always scheduler strays untold = elim (cases_lt i OBJECTS) [
  | inr above ↦ leaves.past i (omega arith)
  | inl below ↦ elim (cases_Bool (is_reached (state_of o rest) i)) [
    | inl reached ↦ list_kept o n rest i below leaves reached scheduler strays (rw reached at untold)
    | inr gone ↦
        let none = rw gone at untold in
        let empty = nothing_there rest.content (slot_at o i) (list_at o.links i) none in
        let other : i ≢ SCHEDULER = λ same. true≢false (sym always ∙ (ap (is_reached (state_of o rest)) (sym same) ∙ gone)) in
        rw (leaves.threads i below, gone) (sym (strays i other (rw empty refl)))
  ]
]

-- No list but the run queue and those of objects has threads then.

has_list_left : (s : State) (i : ℕ) (slot : Slot) → has_list (left_in s i slot) ≡ has_list slot
has_list_left s i Slot.Empty = refl
has_list_left s i (Slot.Group group) = refl
has_list_left s i (Slot.Thread thread) = refl
has_list_left s i (Slot.Space space) = refl
has_list_left s i (Slot.Memory memory) = refl
has_list_left s i (Slot.Connection c) = refl
has_list_left s i (Slot.Notification note) = refl
has_list_left s i (Slot.Ring ring) = refl
has_list_left s i (Slot.Scheduler cores) = refl

pub no_strays : (o n : Objects) (s : State) → Leaves o n s → HasNoStrays o → HasNoStrays n
no_strays o n s leaves strays i other has_none = elim (cases_lt i OBJECTS) [
  | inr above ↦ leaves.past i (omega arith) ∙ strays i other (rw (leaves.none_past i (omega arith)) refl)
  | inl below ↦ elim (cases_Bool (is_reached s i)) [
    | inl reached ↦
        let has_none_before = sym (has_list_left s i (slot_at o i)) ∙ (rw (leaves.left i, reached) at has_none) in
        rw (leaves.threads i below, reached, strays i other has_none_before) refl
    | inr gone ↦ rw (leaves.threads i below, gone) refl
  ]
]

is_scheduler_left : (s : State) (i : ℕ) (slot : Slot) → is_scheduler (left_in s i slot) ≡ is_scheduler slot
is_scheduler_left s i Slot.Empty = refl
is_scheduler_left s i (Slot.Group group) = refl
is_scheduler_left s i (Slot.Thread thread) = refl
is_scheduler_left s i (Slot.Space space) = refl
is_scheduler_left s i (Slot.Memory memory) = refl
is_scheduler_left s i (Slot.Connection c) = refl
is_scheduler_left s i (Slot.Notification note) = refl
is_scheduler_left s i (Slot.Ring ring) = refl
is_scheduler_left s i (Slot.Scheduler cores) = refl

pub scheduler_left : (o n : Objects) (s : State) → Leaves o n s → is_reached s SCHEDULER ≡ true → is_scheduler (slot_at n SCHEDULER) ≡ is_scheduler (slot_at o SCHEDULER)
scheduler_left o n s leaves always = rw (leaves.left SCHEDULER, always) (is_scheduler_left s SCHEDULER (slot_at o SCHEDULER))
