-- Places of threads: the state that an image begins with is placed.
use Rattle.std.specs.Prelude.{◌≡◌, ◌⊎◌, ℕ, zero, suc, ◌+◌, ◌<◌, ◌≤◌, true, false, List, [], ◌∷◌, ◌++◌, length, map, replicate, Option, Some, None, slice_index_or, slice_get}
use Rattle.std.specs.List.{range_with_len}
use Rattle.std.proofs.Common.{refl, ap, sym, arith, inl, inr}
use Rattle.std.proofs.lemmas.Bool.{cases_eq}
use Rattle.sls_base.specs.declared.limits.TheConstants.{OUTPUT_CHANNELS}
use Rattle.sls_base.specs.declared.fixed.TheConstants.{FIRST_PROGRAM_OBJECT, FIRST_PROGRAM_PAGE}
use Rattle.sls_base.specs.declared.thread.ThreadState.{ThreadState}
use Rattle.sls_base.specs.declared.thread.ThreadState.TheVariants.{Ready, Running, Waiting, Calling, Served, Serving, Stopped}
use Rattle.sls_base.specs.declared.image.Image.{Image}
use Rattle.sls_base.specs.declared.image.Program.{Program}
use Rattle.sls_base.specs.declared.image.RegionSpec.{RegionSpec}
use Rattle.plain_state.specs.declared.label.Label.{Label}
use Rattle.plain_state.specs.declared.objects.Occupant.{Occupant}
use Rattle.plain_model.specs.Objects.{Object, Group, Space, OutputRing, InputRing, Scheduler, is_thread}
use Rattle.plain_model.specs.States.{State}
use Rattle.plain_model.specs.Play.{play}
use Rattle.plain_model.specs.Initial.{root_group, program_memories, program_thread, program_objects, programs_objects, program_size, program_pages, pages_taken, memory_of, image_objects, thread_numbers, initial, first_world}
use Rattle.plain_laws.specs.Plays.{Both}
use Rattle.plain_laws.specs.Places.{state_of, waiters_of, clients_of, served_of, running_on, threads_in, times, IsPlaced}
use Rattle.plain_laws.proofs.Placed.{times_more, times_other, times_same}
use Rattle.plain_laws.proofs.PlacedLabels.{filtered_fewer, passes, played_placed}

-- An object of a new state: a thread of it is Ready, and none stands in its lists.
pub record IsFresh (o : Option Object) : Type 0 where
  pub ready : is_thread o ≡ true → state_of o ≡ Some Ready
  pub waiters : waiters_of o ≡ []
  pub clients : clients_of o ≡ []
  pub served : served_of o ≡ []

abbrev pub AllFresh : List Object → Type 0
AllFresh [] = Unit {0}
AllFresh (o ∷ os) = IsFresh (Some o) × AllFresh os

pub fresh_at : (os : List Object) → AllFresh os → (i : ℕ) → IsFresh (slice_get os i)
fresh_at [] h i = record { ready = λ e. absurd (cc); waiters = refl; clients = refl; served = refl }
fresh_at (o ∷ os) h zero = h.0
fresh_at (o ∷ os) h (suc i) = fresh_at os h.1 i

pub fresh_append : (os more : List Object) → AllFresh os → AllFresh more → AllFresh (os ++ more)
fresh_append [] more h k = k
fresh_append (o ∷ os) more h k = (h.0, fresh_append os more h.1 k)

pub fresh_group : (o : Object) → is_thread (Some o) ≡ false → waiters_of (Some o) ≡ [] → clients_of (Some o) ≡ [] → served_of (Some o) ≡ [] → IsFresh (Some o)
fresh_group o other w c s = record { ready = λ e. absurd (cc); waiters = w; clients = c; served = s }

pub fresh_rings : (channels : List ℕ) → AllFresh (map OutputRing channels)
fresh_rings [] = tt
fresh_rings (channel ∷ channels) = (fresh_group (OutputRing channel) refl refl refl refl, fresh_rings channels)

pub fresh_memories : (specs : List RegionSpec) (k : ℕ) → AllFresh (program_memories specs k)
fresh_memories [] k = tt
fresh_memories (spec ∷ specs) k = (fresh_group (memory_of spec k) refl refl refl refl, fresh_memories specs (k + pages_taken spec))

pub fresh_threads : (p : Program) (n : ℕ) (js : List ℕ) → AllFresh (map (program_thread p n) js)
fresh_threads p n [] = tt
fresh_threads p n (j ∷ js) = (record { ready = λ e. refl; waiters = refl; clients = refl; served = refl }, fresh_threads p n js)

pub fresh_program : (p : Program) (n k : ℕ) → AllFresh (program_objects p n k)
fresh_program p n k = (
  fresh_group (Group _) refl refl refl refl,
  (
    fresh_group (Space _) refl refl refl refl,
    fresh_append (program_memories p.regions.items k) (map (program_thread p n) (range_with_len 0 p.threads)) (fresh_memories p.regions.items k) (fresh_threads p n (range_with_len 0 p.threads)),
  ),
)

pub fresh_programs : (ps : List Program) (n k : ℕ) → AllFresh (programs_objects ps n k)
fresh_programs [] n k = tt
fresh_programs (p ∷ ps) n k =
    fresh_append (program_objects p n k) (programs_objects ps (n + program_size p) (k + program_pages p)) (fresh_program p n k) (fresh_programs ps (n + program_size p) (k + program_pages p))

pub fresh_image : (ps : List Program) → AllFresh (image_objects ps)
unfolding image_objects
fresh_image ps = (
  fresh_group (root_group ps) refl refl refl refl,
  (
    fresh_group Scheduler refl refl refl refl,
    fresh_append (map OutputRing (range_with_len 0 OUTPUT_CHANNELS)) (InputRing ∷ programs_objects ps FIRST_PROGRAM_OBJECT FIRST_PROGRAM_PAGE) (fresh_rings (range_with_len 0 OUTPUT_CHANNELS))
        (fresh_group InputRing refl refl refl refl, fresh_programs ps FIRST_PROGRAM_OBJECT FIRST_PROGRAM_PAGE),
  ),
)

-- The queue of the first state.

pub below_range : (id a n : ℕ) → id < a → times id (range_with_len a n) ≡ 0
below_range id a zero l = refl
below_range id a (suc n) l =
    let first = times_other id a (λ e. absurd (omega arith)) in
    let more = times_more id (a ∷ []) (range_with_len (a + 1) n) in
    let rest = below_range id (a + 1) n (omega arith) in
    omega arith

pub range_once_at : (id a n : ℕ) → (id ≡ a) ⊎ (id ≡ a → ⊥) → times id (range_with_len (a + 1) n) ≤ 1 → times id (range_with_len a (suc n)) ≤ 1
range_once_at id a n (inl e) l =
    let more = times_more id (a ∷ []) (range_with_len (a + 1) n) in
    let first : times id (a ∷ []) ≡ 1 = rw (sym e) (times_same id) in
    let rest = below_range id (a + 1) n (omega arith) in
    omega arith
range_once_at id a n (inr ne) l =
    let more = times_more id (a ∷ []) (range_with_len (a + 1) n) in
    let first = times_other id a ne in
    omega arith

pub range_once : (id a n : ℕ) → times id (range_with_len a n) ≤ 1
range_once id a zero = omega arith
range_once id a (suc n) = range_once_at id a n (cases_eq id a) (range_once id (a + 1) n)

abbrev pub idle_cores : ℕ → List (Option Occupant)
idle_cores cores = replicate cores None

pub idle_core : (cores k : ℕ) → slice_index_or (idle_cores cores) k None ≡ None
idle_core zero k = refl
idle_core (suc cores) zero = refl
idle_core (suc cores) (suc k) = idle_core cores k

abbrev pub begins : List Object → ℕ → State
begins os cores = record {
  objects = slice_get os;
  queue = thread_numbers os;
  cores = replicate cores None;
  out = λ channel. [];
  inputs = [];
}

pub empty_elsewhere : (os : List Object) (cores : ℕ) → AllFresh os → (place : ThreadState) → (place ≡ Ready) ⊎ (threads_in (begins os cores) place ≡ [])
empty_elsewhere os cores h Ready = inl refl
empty_elsewhere os cores h (Running k) = inr (ap running_on (idle_core cores k))
empty_elsewhere os cores h (Waiting i) = inr (fresh_at os h i).waiters
empty_elsewhere os cores h (Calling i) = inr (fresh_at os h i).clients
empty_elsewhere os cores h (Served i) = inr (fresh_at os h i).served
empty_elsewhere os cores h (Serving i) = inr refl
empty_elsewhere os cores h (Stopped cause) = inr refl

pub queue_is_once : (os : List Object) (cores : ℕ) (id : ℕ) → times id (thread_numbers os) ≤ 1
queue_is_once os cores id =
    let a = filtered_fewer (λ i. is_thread (slice_get os i)) (range_with_len 0 (length os)) id in
    let b = range_once id 0 (length os) in
    omega arith

pub begins_placed : (os : List Object) (cores : ℕ) → AllFresh os → IsPlaced (begins os cores)
begins_placed os cores h = record {
  once = λ place id. elim (empty_elsewhere os cores h place) [
    | inl ready ↦ rw ready (queue_is_once os cores id)
    | inr none ↦ (let a = ap (times id) none in omega arith)
  ];
  does = λ place id l. elim (empty_elsewhere os cores h place) [
    | inl ready ↦
        let queued : 1 ≤ times id (thread_numbers os) = rw ready at l in
        let is = passes (λ i. is_thread (slice_get os i)) (range_with_len 0 (length os)) id queued in
        rw ready ((fresh_at os h id).ready is)
    | inr none ↦ (let a = ap (times id) none in absurd (omega arith))
  ];
}

pub first_placed : (image : Image) (cores : ℕ) → IsPlaced (initial image cores)
first_placed image cores = begins_placed (image_objects image.programs.items) cores (fresh_image image.programs.items)

-- so is each state that a machine comes to
pub always_placed : (image : Image) (cores : ℕ) (labels : List Label) → Both IsPlaced (play (first_world image cores) labels)
always_placed image cores labels =
    let first = first_placed image cores in
    played_placed (first_world image cores) labels (first, first)
