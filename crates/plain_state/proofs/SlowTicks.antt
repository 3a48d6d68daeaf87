-- Objects and entries of a state after a tick.
use Rattle.std.specs.Prelude.{◌≡◌, ℕ, ◌-◌, ◌<◌, ◌==◌, if◌then◌else◌, Bool, true, false, List, [], ◌∷◌, ◌++◌, length, map, drop, Option, Some, None, slice_set, slice_index_or}
use Rattle.std.proofs.Common.{refl, ap, arith, sym, ◌∙◌}
use Rattle.std.proofs.lemmas.Bool.{eqb-true, eqb-false}
use Rattle.std.proofs.lemmas.List.{map-set, length-map, get_or-set_other}
use Rattle.std.proofs.lemmas.Grind.{get_or-set_at}
use mathlib.Core.Path.{fun_ext}
use Rattle.plain_state.specs.declared.object.Object.{Object as SlowObject}
use Rattle.plain_state.specs.declared.slow_effect.Change.{Change as SlowChange}
use Rattle.sls_base.specs.declared.thread.Thread.{Thread as ThreadRecord}
use Rattle.plain_state.specs.declared.objects.Occupant.{Occupant}
use Rattle.plain_state.specs.declared.effect.Goes.{Goes}
use Rattle.plain_state.specs.Objects.{Object, Thread}
use Rattle.plain_state.specs.States.{State, thread_at, with_object}
use Rattle.plain_state.specs.Memory.{with_stores}
use Rattle.plain_state.specs.Effects.{Effect}
use Rattle.plain_state.specs.Ticks.{Chosen, with_changes, with_output, at_slice_end, thread_after, on_core, at_back, state_of_effect}
use Rattle.plain_state.specs.Slow.{object_of, slot_of, objects_of, change_of}

object_set_at : (objects : List (Option SlowObject)) (id : ℕ) (object : SlowObject) (i : ℕ) (b : Bool) → (i == id) ≡ b → id < length objects →
    objects_of (slice_set objects id (Some object)) i ≡ with_object (objects_of objects) id (object_of object) i
object_set_at objects id object i true same within =
    let here : i ≡ id = eqb-true i id same in
    let inside : id < length (map slot_of objects) = (let l = length-map objects slot_of in omega arith) in
    rw same (ap (λ (l : List (Option Object)). slice_index_or l i None) (map-set slot_of objects id (Some object))
    ∙ get_or-set_at (map slot_of objects) id i (Some (object_of object)) None here inside)
object_set_at objects id object i false same within =
    rw same (ap (λ (l : List (Option Object)). slice_index_or l i None) (map-set slot_of objects id (Some object))
    ∙ get_or-set_other (map slot_of objects) id i (Some (object_of object)) None (eqb-false i id same))

-- an object that is put at a number
pub object_set : (objects : List (Option SlowObject)) (id : ℕ) (object : SlowObject) → id < length objects →
    objects_of (slice_set objects id (Some object)) ≡ with_object (objects_of objects) id (object_of object)
object_set objects id object within = fun_ext (λ i. object_set_at objects id object i (i == id) refl within)

-- the same at a number that equals it
pub object_put : (objects : List (Option SlowObject)) (k id : ℕ) (object : SlowObject) → k ≡ id → k < length objects →
    objects_of (slice_set objects k (Some object)) ≡ with_object (objects_of objects) id (object_of object)
object_put objects k id object same within = object_set objects k object within ∙ ap (λ (n : ℕ). with_object (objects_of objects) n (object_of object)) same

-- one change more is made
pub change_made : (objects objects' : ℕ → Option Object) (change : SlowChange) (before after : List SlowChange) (made : ℕ → Option Object) →
    objects' ≡ with_object objects change.id (object_of change.object) → before ≡ change ∷ after → with_changes objects (map change_of before) ≡ made →
    with_changes objects' (map change_of after) ≡ made
change_made objects objects' change before after made now e was =
    ap (λ (o : ℕ → Option Object). with_changes o (map change_of after)) now
    ∙ sym (ap (λ (l : List SlowChange). with_changes objects (map change_of l)) e) ∙ was

-- none is left
pub changes_made : (objects : ℕ → Option Object) (left : List SlowChange) (made : ℕ → Option Object) → length left ≡ 0 → with_changes objects (map change_of left) ≡ made → objects ≡ made
changes_made objects [] made none was = was
changes_made objects (x ∷ xs) made none was = absurd (omega arith)

-- The state after an effect.

abbrev parts : (ℕ → Option Object) → List ℕ → List (Option Occupant) → (ℕ → List (List ℕ)) → List (List ℕ) → State
parts objects queue cores out inputs = record { objects = objects; queue = queue; cores = cores; out = out; inputs = inputs }

-- the state, where so much is left of the slice, and the thread goes on or leaves
abbrev made : State → ℕ → Chosen → Effect → ℕ → Goes → ThreadRecord → State
made s core c e left goes thread =
    parts (with_object (with_changes (with_stores s.objects e.stores) e.changes) c.occupant.thread (Thread thread)) (c.queue ++ e.wakes ++ at_back c.occupant.thread goes)
    (slice_set s.cores core (on_core c.occupant.thread left goes)) (with_output s.out e.output) (if e.takes then drop 1 s.inputs else s.inputs)

pub after_effect : (s : State) (core : ℕ) (c : Chosen) (e : Effect) (left : ℕ) (goes : Goes) (thread : ThreadRecord) (objects : ℕ → Option Object) (queue : List ℕ) (cores : List (Option Occupant)) (out : ℕ → List (List ℕ)) (inputs : List (List ℕ)) →
    left ≡ c.occupant.slice - 1 → goes ≡ at_slice_end left e.goes → thread ≡ thread_after core (thread_at s c.occupant.thread) goes e →
    objects ≡ with_object (with_changes (with_stores s.objects e.stores) e.changes) c.occupant.thread (Thread thread) →
    queue ≡ c.queue ++ e.wakes ++ at_back c.occupant.thread goes → cores ≡ slice_set s.cores core (on_core c.occupant.thread left goes) →
    out ≡ with_output s.out e.output → inputs ≡ (if e.takes then drop 1 s.inputs else s.inputs) →
    parts objects queue cores out inputs ≡ state_of_effect s core c e
unfolding state_of_effect
after_effect s core c e left goes thread objects queue cores out inputs l g t a b d f h =
    ap (λ o. parts o queue cores out inputs) a
    ∙ ap (λ o. parts (with_object (with_changes (with_stores s.objects e.stores) e.changes) c.occupant.thread (Thread thread)) o cores out inputs) b
    ∙ ap (λ o. parts (with_object (with_changes (with_stores s.objects e.stores) e.changes) c.occupant.thread (Thread thread)) (c.queue ++ e.wakes ++ at_back c.occupant.thread goes) o out inputs) d
    ∙ ap (λ o. parts (with_object (with_changes (with_stores s.objects e.stores) e.changes) c.occupant.thread (Thread thread)) (c.queue ++ e.wakes ++ at_back c.occupant.thread goes) (slice_set s.cores core (on_core c.occupant.thread left goes)) o inputs) f
    ∙ ap (parts (with_object (with_changes (with_stores s.objects e.stores) e.changes) c.occupant.thread (Thread thread)) (c.queue ++ e.wakes ++ at_back c.occupant.thread goes) (slice_set s.cores core (on_core c.occupant.thread left goes)) (with_output s.out e.output)) h
    ∙ ap (made s core c e left goes) t
    ∙ ap (λ (k : Goes). made s core c e left k (thread_after core (thread_at s c.occupant.thread) k e)) g
    ∙ ap (λ (n : ℕ). made s core c e n (at_slice_end n e.goes) (thread_after core (thread_at s c.occupant.thread) (at_slice_end n e.goes) e)) l

-- a thread takes the first input or none
pub inputs_from : (takes : Bool) (n : ℕ) (inputs : List (List ℕ)) → n ≡ (if takes then 1 else 0) → drop n inputs ≡ (if takes then drop 1 inputs else inputs)
inputs_from true n inputs e = ap (λ (k : ℕ). drop k inputs) e
inputs_from false n inputs e = ap (λ (k : ℕ). drop k inputs) e
