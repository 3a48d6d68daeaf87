-- What records stand for.
use Rattle.std.proofs.Common.{◌≡◌, ℕ, true, List, Option, refl, ap, sym, ◌∙◌}
use Rattle.std.proofs.lemmas.Bool.{false≢true}
use mathlib.Core.Path.{fun_ext}
use Rattle.sls_base.specs.declared.fixed.TheConstants.{SCHEDULER}
use Rattle.link_lists.specs.Lists.{list_at}
use Rattle.plain_state.specs.declared.objects.Occupant.{Occupant}
use Rattle.plain_model.specs.Objects.{Object}
use Rattle.plain_model.specs.States.{State}
use Rattle.kobj_table.specs.declared.slot.Slot.{Slot}
use Rattle.kobj_table.specs.declared.objects.Objects.{Objects}
use Rattle.kobj_table.specs.Slots.{object_of, cores_of, is_scheduler}
use Rattle.kobj_table.specs.Objects.{slot_at, Rest, state_of}
use Rattle.kobj_codec.specs.declared.obj.Obj.{Obj}
use Rattle.object_records.specs.Records.{record_of, record_at, object_in, list_in, cores_in, is_scheduler_in, state_of_records}

pub object_stands : (content : ℕ → ℕ → ℕ) (slot : Slot) (threads : List ℕ) → object_in content (record_of slot threads) ≡ object_of content slot threads
object_stands content Slot.Empty threads = refl
object_stands content (Slot.Group group) threads = refl
object_stands content (Slot.Thread thread) threads = refl
object_stands content (Slot.Space space) threads = refl
object_stands content (Slot.Memory memory) threads = refl
object_stands content (Slot.Connection c) threads = refl
object_stands content (Slot.Notification note) threads = refl
object_stands content (Slot.Ring ring) threads = refl
object_stands content (Slot.Scheduler cores) threads = refl

cores_stand : (slot : Slot) (threads : List ℕ) → cores_of slot ≡ cores_in (record_of slot threads)
cores_stand Slot.Empty threads = refl
cores_stand (Slot.Group group) threads = refl
cores_stand (Slot.Thread thread) threads = refl
cores_stand (Slot.Space space) threads = refl
cores_stand (Slot.Memory memory) threads = refl
cores_stand (Slot.Connection c) threads = refl
cores_stand (Slot.Notification note) threads = refl
cores_stand (Slot.Ring ring) threads = refl
cores_stand (Slot.Scheduler cores) threads = refl

queue_stands : (slot : Slot) (threads : List ℕ) → is_scheduler slot ≡ true → threads ≡ list_in (record_of slot threads)
queue_stands (Slot.Scheduler cores) threads e = refl
queue_stands (Slot.Connection c) threads e = refl
queue_stands (Slot.Notification note) threads e = refl
queue_stands Slot.Empty threads e = absurd (false≢true e)
queue_stands (Slot.Group group) threads e = absurd (false≢true e)
queue_stands (Slot.Thread thread) threads e = absurd (false≢true e)
queue_stands (Slot.Space space) threads e = absurd (false≢true e)
queue_stands (Slot.Memory memory) threads e = absurd (false≢true e)
queue_stands (Slot.Ring ring) threads e = absurd (false≢true e)

-- a state of these parts
unfoldable pub made_of : Rest → (ℕ → Option Object) → List ℕ → List (Option Occupant) → State
made_of rest objects queue cores = record { objects = objects; queue = queue; cores = cores; out = rest.out; inputs = rest.inputs }

pub same_parts : (rest : Rest) (objects objects' : ℕ → Option Object) (queue queue' : List ℕ) (cores cores' : List (Option Occupant)) →
    ((i : ℕ) → objects i ≡ objects' i) → queue ≡ queue' → cores ≡ cores' → made_of rest objects queue cores ≡ made_of rest objects' queue' cores'
same_parts rest objects objects' queue queue' cores cores' o q c =
    ap (λ (f : ℕ → Option Object). made_of rest f queue cores) (fun_ext o)
    ∙ ap (λ (l : List ℕ). made_of rest objects' l cores) q
    ∙ ap (λ (l : List (Option Occupant)). made_of rest objects' queue' l) c

pub state_stands : (o : Objects) (rest : Rest) → is_scheduler (slot_at o SCHEDULER) ≡ true → state_of o rest ≡ state_of_records (record_at o) rest
unfolding state_of state_of_records made_of
state_stands o rest scheduler =
    same_parts rest _ _ _ _ _ _ (λ i. sym (object_stands rest.content (slot_at o i) (list_at o.links i)))
    (queue_stands (slot_at o SCHEDULER) (list_at o.links SCHEDULER) scheduler)
    (cores_stand (slot_at o SCHEDULER) (list_at o.links SCHEDULER))

-- records that are the same stand for the same state
same_records : (a b : ℕ → Option Obj) (rest : Rest) → ((i : ℕ) → b i ≡ a i) → state_of_records b rest ≡ state_of_records a rest
same_records a b rest same = ap (λ (records : ℕ → Option Obj). state_of_records records rest) (fun_ext same)

scheduler_told : (slot : Slot) (threads : List ℕ) → is_scheduler_in (record_of slot threads) ≡ true → is_scheduler slot ≡ true
scheduler_told (Slot.Scheduler cores) threads e = refl
scheduler_told Slot.Empty threads e = absurd (false≢true e)
scheduler_told (Slot.Group group) threads e = absurd (false≢true e)
scheduler_told (Slot.Thread thread) threads e = absurd (false≢true e)
scheduler_told (Slot.Space space) threads e = absurd (false≢true e)
scheduler_told (Slot.Memory memory) threads e = absurd (false≢true e)
scheduler_told (Slot.Connection c) threads e = absurd (false≢true e)
scheduler_told (Slot.Notification note) threads e = absurd (false≢true e)
scheduler_told (Slot.Ring ring) threads e = absurd (false≢true e)

pub same_states : (a b : Objects) (rest : Rest) → is_scheduler_in (record_at a SCHEDULER) ≡ true → ((i : ℕ) → record_at b i ≡ record_at a i) → state_of b rest ≡ state_of a rest
same_states a b rest scheduler same =
    let there : is_scheduler (slot_at a SCHEDULER) ≡ true = scheduler_told (slot_at a SCHEDULER) (list_at a.links SCHEDULER) scheduler in
    let there' : is_scheduler (slot_at b SCHEDULER) ≡ true = scheduler_told (slot_at b SCHEDULER) (list_at b.links SCHEDULER) (ap is_scheduler_in (same SCHEDULER) ∙ scheduler) in
    state_stands b rest there' ∙ same_records (record_at a) (record_at b) rest same ∙ sym (state_stands a rest there)
