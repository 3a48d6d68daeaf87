-- What no plain state tells is left alone by whatever puts other objects in their places, and by what a core runs.
use Rattle.std.specs.Prelude.{◌≡◌, ◌≢◌, ℕ, ◌<◌, ◌==◌, Bool, true, false, List, length, map, Option, Some, None, option_map, slice_index_or, slice_set}
use Rattle.std.specs.Option.{IfSome, IfNone}
use Rattle.std.proofs.Common.{refl, sym, ap, subst, ◌∙◌, arith, get_or-set_other}
use Rattle.std.proofs.lemmas.Bool.{eqb-true, eqb-false}
use Rattle.std.proofs.lemmas.List.{length-set, length-take}
use Rattle.sls_base.specs.declared.fixed.TheConstants.{SCHEDULER}
use Rattle.sls_base.specs.declared.thread.Thread.{Thread as ThreadRecord}
use Rattle.link_lists.specs.Lists.{IsFree}
use Rattle.kobj_table.specs.declared.slot.Slot.{Slot}
use Rattle.kobj_table.specs.declared.slot.Cores.{Cores}
use Rattle.kobj_table.specs.declared.objects.Objects.{Objects}
use Rattle.kobj_table.specs.Slots.{cores_of, occupant_of}
use Rattle.kobj_table.specs.Objects.{slot_at, Puts, HasNoStrays}
use Rattle.object_records.specs.Untold.{KeepsCores, IsUntoldKept, KeepsUntold}
use Rattle.object_records.proofs.Untold.{slot_kept}
use Rattle.kernel_calls.specs.declared.runtime.Runtime.{Runtime}
use Rattle.kernel_calls.specs.declared.done.Done.{Done}
use Rattle.kernel_calls.specs.Does.{Keeps, Leaves}

pub all_kept : (o : Objects) → KeepsUntold o o
all_kept o = record { each = λ i. slot_kept (slot_at o i) }

-- where the slots stay as they are

pub same_slot : (m n : Objects) (i : ℕ) → n.slots ≡ m.slots → slot_at n i ≡ slot_at m i
same_slot m n i same = ap (λ (slots : List Slot). slice_index_or slots i Slot.Empty) same

pub slots_next : {o m n : Objects} → KeepsUntold o m → n.slots ≡ m.slots → KeepsUntold o n
slots_next {o} {m} {n} kept same = record { each = λ i. subst (λ (s : Slot). IsUntoldKept (slot_at o i) s) (sym (same_slot m n i same)) (kept.each i) }

pub slots_before : {o m n : Objects} → m.slots ≡ o.slots → KeepsUntold m n → KeepsUntold o n
slots_before {o} {m} {n} same kept = record { each = λ i. subst (λ (s : Slot). IsUntoldKept s (slot_at n i)) (same_slot o m i same) (kept.each i) }

-- where an object is put

put_at : (o m n : Objects) (id : ℕ) (slot : Slot) → KeepsUntold o m → Puts m n id slot → IsUntoldKept (slot_at o id) slot → (i : ℕ) (b : Bool) → (i == id) ≡ b →
    IsUntoldKept (slot_at o i) (slot_at n i)
put_at o m n id slot before puts kept i true same =
    subst (λ (j : ℕ). IsUntoldKept (slot_at o j) (slot_at n j)) (sym (eqb-true i id same)) (subst (λ (s : Slot). IsUntoldKept (slot_at o id) s) (sym puts.there) kept)
put_at o m n id slot before puts kept i false apart = subst (λ (s : Slot). IsUntoldKept (slot_at o i) s) (sym (puts.others i (eqb-false i id apart))) (before.each i)

pub put_next : {o m n : Objects} {id : ℕ} {slot : Slot} → KeepsUntold o m → Puts m n id slot → IsUntoldKept (slot_at o id) slot → KeepsUntold o n
put_next {o} {m} {n} {id} {slot} before puts kept = record { each = λ i. put_at o m n id slot before puts kept i (i == id) refl }

pub put_kept : {o m n : Objects} {id : ℕ} {slot : Slot} → Puts m n id slot → m.slots ≡ o.slots → IsUntoldKept (slot_at o id) slot → KeepsUntold o n
put_kept {o} {m} {n} {id} {slot} puts same kept = put_next (slots_next (all_kept o) same) puts kept

-- and where a thread that was lent is given back
pub lent_next : {o m n : Objects} (lent : Option ℕ) (thread : ThreadRecord) → KeepsUntold o m → IfSome lent (λ id. Puts m n id (Slot.Thread thread)) → IfNone lent (n ≡ m) → KeepsUntold o n
lent_next {o} {m} {n} None thread before put same = subst (λ (x : Objects). KeepsUntold o x) (sym same) before
lent_next {o} {m} {n} (Some id) thread before put same = put_next before put tt

-- Where nothing changes.

pub keeps_same : (k n : Runtime) (me : ℕ) (done : Done) → n.objects ≡ k.objects → HasNoStrays k.objects → IsFree k.objects.links me → Keeps k n me done
keeps_same k n me done same strays free = record {
  caller = ap (λ (o : Objects). slot_at o me) same;
  strays = subst (λ (o : Objects). HasNoStrays o) (sym same) strays;
  free = λ left back. subst (λ (o : Objects). IsFree o.links me) (sym same) free;
  rings = λ id ring is. sym (ap (λ (o : Objects). slot_at o id) same) ∙ is;
  untold = subst (λ (o : Objects). KeepsUntold k.objects o) (sym same) (all_kept k.objects);
}

pub leaves_same : (k : Runtime) (me : ℕ) (done : Done) → HasNoStrays k.objects → IsFree k.objects.links me → Leaves k k me done
leaves_same k me done strays free = record { caller = refl; strays = strays; free = λ left back. free; untold = all_kept k.objects }

-- Where a core comes to run something else.

below_taken : (c : Cores) (core : ℕ) → core < length (cores_of (Slot.Scheduler c)) → core < c.cores
below_taken c core below = let count = length-take c.cores (map (option_map occupant_of) c.running) in omega (arith, count, below)

ran_cores : (c : Cores) (core : ℕ) (running : Option (ℕ × ℕ)) → core < c.cores → KeepsCores c (record c { running = slice_set c.running core running })
ran_cores c core running below = record {
  cores = refl;
  size = length-set c.running core running;
  past = λ other past. get_or-set_other c.running core other running None (λ same. absurd (omega arith));
}

ran_slot : (slot after : Slot) (core : ℕ) (running : Option (ℕ × ℕ)) →
    ((c : Cores) → slot ≡ Slot.Scheduler c → after ≡ Slot.Scheduler (record c { running = slice_set c.running core running })) → core < length (cores_of slot) → IsUntoldKept slot after
ran_slot (Slot.Scheduler c) after core running ran below = subst (λ (s : Slot). IsUntoldKept (Slot.Scheduler c) s) (sym (ran c refl)) (c, refl, ran_cores c core running (below_taken c core below))
ran_slot Slot.Empty after core running ran below = absurd (omega (arith, below))
ran_slot (Slot.Group group) after core running ran below = absurd (omega (arith, below))
ran_slot (Slot.Thread thread) after core running ran below = absurd (omega (arith, below))
ran_slot (Slot.Space space) after core running ran below = absurd (omega (arith, below))
ran_slot (Slot.Memory memory) after core running ran below = absurd (omega (arith, below))
ran_slot (Slot.Connection connection) after core running ran below = absurd (omega (arith, below))
ran_slot (Slot.Notification note) after core running ran below = absurd (omega (arith, below))
ran_slot (Slot.Ring ring) after core running ran below = absurd (omega (arith, below))

ran_at : (o m n : Objects) (core : ℕ) (running : Option (ℕ × ℕ)) → KeepsUntold o m → slot_at m SCHEDULER ≡ slot_at o SCHEDULER →
    ((c : Cores) → slot_at m SCHEDULER ≡ Slot.Scheduler c → slot_at n SCHEDULER ≡ Slot.Scheduler (record c { running = slice_set c.running core running })) →
    ((i : ℕ) → i ≢ SCHEDULER → slot_at n i ≡ slot_at m i) → core < length (cores_of (slot_at o SCHEDULER)) → (i : ℕ) (b : Bool) → (i == SCHEDULER) ≡ b → IsUntoldKept (slot_at o i) (slot_at n i)
ran_at o m n core running before stays ran others below i true same =
    subst (λ (j : ℕ). IsUntoldKept (slot_at o j) (slot_at n j)) (sym (eqb-true i SCHEDULER same))
    (ran_slot (slot_at o SCHEDULER) (slot_at n SCHEDULER) core running (λ c is. ran c (stays ∙ is)) below)
ran_at o m n core running before stays ran others below i false apart =
    subst (λ (s : Slot). IsUntoldKept (slot_at o i) s) (sym (others i (eqb-false i SCHEDULER apart))) (before.each i)

pub ran_next : {o m n : Objects} (core : ℕ) (running : Option (ℕ × ℕ)) → KeepsUntold o m → slot_at m SCHEDULER ≡ slot_at o SCHEDULER →
    ((c : Cores) → slot_at m SCHEDULER ≡ Slot.Scheduler c → slot_at n SCHEDULER ≡ Slot.Scheduler (record c { running = slice_set c.running core running })) →
    ((i : ℕ) → i ≢ SCHEDULER → slot_at n i ≡ slot_at m i) → core < length (cores_of (slot_at o SCHEDULER)) → KeepsUntold o n
ran_next {o} {m} {n} core running before stays ran others below =
    record { each = λ i. ran_at o m n core running before stays ran others below i (i == SCHEDULER) refl }
