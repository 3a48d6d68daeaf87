-- The objects of a sound state have records.
use Rattle.std.proofs.Common.{◌≡◌, ℕ, ◌<◌, ◌≤◌, ◌==◌, Bool, true, false, List, [], length, map, Option, Some, None, refl, ap, sym, ◌∙◌, subst, arith, lit≤, get_or-set_other}
use Rattle.std.specs.Prelude.{option_map, slice_set, IfSome}
use Rattle.std.proofs.lemmas.List.{length-set, length-take}
use Rattle.std.proofs.lemmas.Bool.{false≢true}
use Rattle.sls_base.specs.declared.limits.TheConstants.{CORES, OUTPUT_CHANNELS}
use Rattle.sls_base.specs.declared.fixed.TheConstants.{SCHEDULER, FIRST_PROGRAM_OBJECT}
use Rattle.link_lists.specs.Lists.{list_at}
use Rattle.kobj_table.specs.declared.slot.Slot.{Slot}
use Rattle.kobj_table.specs.declared.slot.Cores.{Cores}
use Rattle.kobj_table.specs.declared.objects.Objects.{Objects}
use Rattle.plain_laws.specs.Fixed.{is_single, HasFixedObjects}
use Rattle.kobj_table.specs.Slots.{object_of, ring_of, cores_of, occupant_of}
use Rattle.kobj_table.specs.Objects.{slot_at, Rest, state_of}
use Rattle.kobj_codec.specs.declared.obj.Obj.{Obj}
use Rattle.kobj_codec.specs.Objects.{IsObj, IsList}
use Rattle.object_records.specs.Records.{record_of, record_at, slot_of, threads_of}
use Rattle.object_records.specs.Ranges.{IsSoundState, IsCores, IsUntoldInRange, AreUntoldInRange}
use Rattle.object_records.proofs.Ranged.{group_ranged, thread_ranged, space_ranged, memory_ranged, connection_ranged, notification_ranged, scheduler_ranged, scheduler_alone}

few_cores : (slot : Slot) → IsUntoldInRange slot → length (cores_of slot) ≤ CORES
few_cores (Slot.Scheduler c) is =
    let count = length-take c.cores (map (option_map occupant_of) c.running) in
    omega (arith, count, is.most)
few_cores Slot.Empty cores = lit≤ tt
few_cores (Slot.Group group) cores = lit≤ tt
few_cores (Slot.Thread thread) cores = lit≤ tt
few_cores (Slot.Space space) cores = lit≤ tt
few_cores (Slot.Memory memory) cores = lit≤ tt
few_cores (Slot.Connection c) cores = lit≤ tt
few_cores (Slot.Notification note) cores = lit≤ tt
few_cores (Slot.Ring ring) cores = lit≤ tt

-- a state has an object where its slot does
told_by : (o : Objects) (rest : Rest) (i : ℕ) (slot : Slot) → slot_at o i ≡ slot → (state_of o rest).objects i ≡ object_of rest.content slot (list_at o.links i)
unfolding state_of
told_by o rest i slot e = ap (λ (s : Slot). object_of rest.content s (list_at o.links i)) e

scheduler_there : (o : Objects) (rest : Rest) (i : ℕ) (c : Cores) → slot_at o i ≡ Slot.Scheduler c → i ≡ SCHEDULER → IsSoundState (state_of o rest) → AreUntoldInRange o → IsObj (Obj.Scheduler (record { cores = c.cores; running = c.running; queue = record { items = list_at o.links i } }))
unfolding state_of
scheduler_there o rest i c e at sound untold =
    let there : slot_at o SCHEDULER ≡ Slot.Scheduler c = subst (λ k. slot_at o k ≡ Slot.Scheduler c) at e in
    scheduler_ranged (state_of o rest) c (list_at o.links i) sound (subst IsUntoldInRange there (untold SCHEDULER)) (ap (λ (s : Slot). cores_of s) there) (ap (list_at o.links) (sym at))

few : (o : Objects) (rest : Rest) → AreUntoldInRange o → length (state_of o rest).cores ≤ CORES
unfolding state_of
few o rest untold = few_cores (slot_at o SCHEDULER) (untold SCHEDULER)

slot_ranged : (o : Objects) (rest : Rest) (i : ℕ) (slot : Slot) → slot_at o i ≡ slot → IsSoundState (state_of o rest) → AreUntoldInRange o → IfSome (record_of slot (list_at o.links i)) IsObj
slot_ranged o rest i Slot.Empty e sound untold = tt
slot_ranged o rest i (Slot.Group group) e sound untold = group_ranged (state_of o rest) i group sound (told_by o rest i _ e)
slot_ranged o rest i (Slot.Thread thread) e sound untold = thread_ranged (state_of o rest) i thread sound (few o rest untold) (told_by o rest i _ e)
slot_ranged o rest i (Slot.Space space) e sound untold = space_ranged (state_of o rest) i space sound (told_by o rest i _ e)
slot_ranged o rest i (Slot.Memory memory) e sound untold = memory_ranged (state_of o rest) i rest.content memory sound (told_by o rest i _ e)
slot_ranged o rest i (Slot.Connection c) e sound untold = connection_ranged (state_of o rest) i c.server c.client (list_at o.links i) sound (told_by o rest i _ e)
slot_ranged o rest i (Slot.Notification note) e sound untold = notification_ranged (state_of o rest) i note.count (list_at o.links i) sound (told_by o rest i _ e)
slot_ranged o rest i (Slot.Ring ring) e sound untold = subst IsUntoldInRange e (untold i)
slot_ranged o rest i (Slot.Scheduler c) e sound untold =
    scheduler_there o rest i c e (scheduler_alone (state_of o rest) i sound.fixed (told_by o rest i _ e)) sound untold

pub objects_ranged : (o : Objects) (rest : Rest) (i : ℕ) → IsSoundState (state_of o rest) → AreUntoldInRange o → IfSome (record_at o i) IsObj
objects_ranged o rest i sound untold = slot_ranged o rest i (slot_at o i) refl sound untold

none_listed : IsList []
none_listed = record { most = lit≤ tt; below = λ k d inside. absurd (omega (arith, inside)); distinct = λ i j d lt inside. absurd (omega (arith, inside)) }

pub threads_ranged : (obj : Obj) → IsObj obj → IsList (threads_of obj)
threads_ranged (Obj.Group group) is = none_listed
threads_ranged (Obj.Thread thread) is = none_listed
threads_ranged (Obj.Space space) is = none_listed
threads_ranged (Obj.Memory memory) is = none_listed
threads_ranged (Obj.Connection c) is = is.clients
threads_ranged (Obj.Notification note) is = is.waiters
threads_ranged (Obj.Ring ring) is = none_listed
threads_ranged (Obj.Scheduler scheduler) is = is.queue

-- What no plain state tells.

pub decoded_in_range : (obj : Obj) → IsObj obj → IsUntoldInRange (slot_of obj)
decoded_in_range (Obj.Group group) is = tt
decoded_in_range (Obj.Thread thread) is = tt
decoded_in_range (Obj.Space space) is = tt
decoded_in_range (Obj.Memory memory) is = tt
decoded_in_range (Obj.Connection c) is = tt
decoded_in_range (Obj.Notification note) is = tt
decoded_in_range (Obj.Ring ring) is = is
decoded_in_range (Obj.Scheduler scheduler) is = record { some = is.some; most = is.most; size = is.size; past = is.past }

pub ran_in_range : (c : Cores) (core : ℕ) (running : Option (ℕ × ℕ)) → IsCores c → core < c.cores → IsCores (record c { running = slice_set c.running core running })
ran_in_range c core running is below = record {
  some = is.some;
  most = is.most;
  size = length-set c.running core running ∙ is.size;
  past = λ other past. get_or-set_other c.running core other running None (λ e. absurd (omega arith)) ∙ is.past other past;
}

ring_single : (channel : ℕ) (b : Bool) → (channel == OUTPUT_CHANNELS) ≡ b → is_single (Some (ring_of channel)) ≡ true
ring_single channel true e = rw e refl
ring_single channel false e = rw e refl

untold_by : (content : ℕ → ℕ → ℕ) (slot : Slot) (threads : List ℕ) → is_single (object_of content slot threads) ≡ false → IsUntoldInRange slot
untold_by content Slot.Empty threads others = tt
untold_by content (Slot.Group group) threads others = tt
untold_by content (Slot.Thread thread) threads others = tt
untold_by content (Slot.Space space) threads others = tt
untold_by content (Slot.Memory memory) threads others = tt
untold_by content (Slot.Connection c) threads others = tt
untold_by content (Slot.Notification note) threads others = tt
untold_by content (Slot.Ring ring) threads others = absurd (false≢true (sym others ∙ ring_single ring.channel (ring.channel == OUTPUT_CHANNELS) refl))
untold_by content (Slot.Scheduler cores) threads others = absurd (false≢true (sym others))

-- above the fixed objects stands no slot of which anything is untold
pub others_in_range : (o : Objects) (rest : Rest) (i : ℕ) → HasFixedObjects (state_of o rest) → FIRST_PROGRAM_OBJECT ≤ i → IsUntoldInRange (slot_at o i)
unfolding state_of
others_in_range o rest i fixed above = untold_by rest.content (slot_at o i) (list_at o.links i) (fixed.above i above)
