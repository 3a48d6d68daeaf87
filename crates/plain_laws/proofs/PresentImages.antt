-- Threads that stand where their states say: they do in the state that an image begins with.
use Rattle.std.specs.Prelude.{◌≡◌, ◌⊎◌, ℕ, zero, suc, ◌+◌, ◌<◌, ◌≤◌, true, List, [], ◌∷◌, length, Option, Some, None, slice_get}
use Rattle.std.specs.List.{range_with_len}
use Rattle.std.proofs.Common.{refl, sym, ◌∙◌, arith, inl, inr}
use Rattle.std.proofs.lemmas.Bool.{cases_eq}
use Rattle.sls_base.specs.declared.thread.ThreadState.{ThreadState}
use Rattle.sls_base.specs.declared.thread.ThreadState.TheVariants.{Ready, Serving}
use Rattle.sls_base.specs.declared.image.Image.{Image}
use Rattle.plain_state.specs.declared.label.Label.{Label}
use Rattle.plain_model.specs.Objects.{Object, Thread, is_thread}
use Rattle.plain_model.specs.Play.{play}
use Rattle.plain_model.specs.MayStep.{MayPlay}
use Rattle.plain_model.specs.Initial.{image_objects, thread_numbers, initial, first_world}
use Rattle.plain_laws.specs.Plays.{Both}
use Rattle.plain_laws.specs.Places.{state_of, times, StandsIn, IsPresent}
use Rattle.plain_laws.proofs.Placed.{times_more, times_same}
use Rattle.plain_laws.proofs.PlacedImages.{AllFresh, fresh_at, fresh_image, idle_core, begins, first_placed}
use Rattle.plain_laws.proofs.PresentLabels.{filter_keeps, played_present}

-- The queue of the first state.

pub range_has_at : (id a n : ℕ) → (id ≡ a) ⊎ (id ≡ a → ⊥) → (a + 1 ≤ id → 1 ≤ times id (range_with_len (a + 1) n)) → a ≤ id → 1 ≤ times id (range_with_len a (suc n))
range_has_at id a n (inl e) rest l =
    let more = times_more id (a ∷ []) (range_with_len (a + 1) n) in
    let first : times id (a ∷ []) ≡ 1 = rw (sym e) (times_same id) in
    omega arith
range_has_at id a n (inr ne) rest l =
    let more = times_more id (a ∷ []) (range_with_len (a + 1) n) in
    let there = rest (omega arith) in
    omega arith

pub range_has : (id a n : ℕ) → a ≤ id → id < a + n → 1 ≤ times id (range_with_len a n)
range_has id a zero l below = absurd (omega arith)
range_has id a (suc n) l below = range_has_at id a n (cases_eq id a) (λ above. range_has id (a + 1) n above (omega arith)) l

pub does_as_thread : (o : Option Object) (state : ThreadState) → state_of o ≡ Some state → is_thread o ≡ true
does_as_thread (Some (Thread thread)) state e = refl
does_as_thread o state e = absurd (cc)

pub thread_below : (os : List Object) (i : ℕ) → is_thread (slice_get os i) ≡ true → i < length os
thread_below [] i e = absurd (cc)
thread_below (o ∷ os) zero e = omega arith
thread_below (o ∷ os) (suc i) e = (let l = thread_below os i e in omega arith)

pub thread_is_queued : (os : List Object) (id : ℕ) → is_thread (slice_get os id) ≡ true → 1 ≤ times id (thread_numbers os)
thread_is_queued os id is =
    let l = thread_below os id is in
    let a = range_has id 0 (length os) (omega arith) (omega arith) in
    let b = filter_keeps (λ i. is_thread (slice_get os i)) (range_with_len 0 (length os)) id is in
    omega arith

-- The first state.

pub begins_ready : (os : List Object) → AllFresh os → (id : ℕ) (state : ThreadState) → state_of (slice_get os id) ≡ Some state → state ≡ Ready
begins_ready os h id state e = (let ready = (fresh_at os h id).ready (does_as_thread (slice_get os id) state e) in cc)

pub begins_there : (os : List Object) (cores : ℕ) → AllFresh os → (id : ℕ) (state : ThreadState) → state_of (slice_get os id) ≡ Some state → StandsIn (begins os cores) id state
begins_there os cores h id state e = rw (begins_ready os h id state e) (thread_is_queued os id (does_as_thread (slice_get os id) state e))

pub begins_present : (os : List Object) (cores : ℕ) → AllFresh os → IsPresent (begins os cores)
begins_present os cores h = record {
  stands = λ id place e n. begins_there os cores h id place e;
  serves = λ id connection e. (let other : Serving connection ≡ Ready = begins_ready os h id (Serving connection) e in absurd (cc));
  slices = λ core occupant e. (let none : None ≡ Some occupant = sym (idle_core cores core) ∙ e in absurd (cc));
}

pub first_present : (image : Image) (cores : ℕ) → IsPresent (initial image cores)
first_present image cores = begins_present (image_objects image.programs.items) cores (fresh_image image.programs.items)

-- so they do in each state that a machine comes to by labels that may befall it
pub always_present : (image : Image) (cores : ℕ) (labels : List Label) → MayPlay (first_world image cores) labels → Both IsPresent (play (first_world image cores) labels)
always_present image cores labels may =
    let placed = first_placed image cores in
    let present = first_present image cores in
    played_present (first_world image cores) labels may (placed, placed) (present, present)
