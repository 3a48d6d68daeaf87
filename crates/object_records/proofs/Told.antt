-- A record tells its slot and its list.
use Rattle.std.proofs.Common.{◌≡◌, ◌≢◌, ℕ, ◌==◌, Bool, true, false, List, Option, Some, None, refl, ap, sym, ◌∙◌}
use Rattle.std.proofs.lemmas.Option.{same_Some, none-some}
use Rattle.std.proofs.lemmas.Bool.{false≢true, eqb-true, eqb-false}
use Rattle.sls_base.specs.declared.fixed.TheConstants.{SCHEDULER}
use Rattle.link_lists.specs.Lists.{list_at}
use Rattle.kobj_table.specs.declared.slot.Slot.{Slot}
use Rattle.kobj_table.specs.declared.objects.Objects.{Objects}
use Rattle.kobj_table.specs.Slots.{has_list, is_scheduler}
use Rattle.kobj_table.specs.Objects.{slot_at, HasNoStrays}
use Rattle.kobj_codec.specs.declared.obj.Obj.{Obj}
use Rattle.object_records.specs.Records.{record_of, record_at, slot_of, threads_of, keeps_list, HasOwnThreads, HasOwnLists, list_in}

pub none_told : (slot : Slot) (threads : List ℕ) → record_of slot threads ≡ None → slot ≡ Slot.Empty
none_told Slot.Empty threads e = refl
none_told (Slot.Group group) threads e = absurd (none-some (Obj.Group group) (sym e))
none_told (Slot.Thread thread) threads e = absurd (none-some (Obj.Thread thread) (sym e))
none_told (Slot.Space space) threads e = absurd (none-some (Obj.Space space) (sym e))
none_told (Slot.Memory memory) threads e = absurd (none-some (Obj.Memory memory) (sym e))
none_told (Slot.Connection c) threads e = absurd (none-some _ (sym e))
none_told (Slot.Notification note) threads e = absurd (none-some _ (sym e))
none_told (Slot.Ring ring) threads e = absurd (none-some (Obj.Ring ring) (sym e))
none_told (Slot.Scheduler cores) threads e = absurd (none-some _ (sym e))

pub slot_told : (slot : Slot) (threads : List ℕ) (obj : Obj) → record_of slot threads ≡ Some obj → slot_of obj ≡ slot
slot_told Slot.Empty threads obj e = absurd (none-some obj e)
slot_told (Slot.Group group) threads obj e = ap slot_of (sym (same_Some _ obj e))
slot_told (Slot.Thread thread) threads obj e = ap slot_of (sym (same_Some _ obj e))
slot_told (Slot.Space space) threads obj e = ap slot_of (sym (same_Some _ obj e))
slot_told (Slot.Memory memory) threads obj e = ap slot_of (sym (same_Some _ obj e))
slot_told (Slot.Connection c) threads obj e = ap slot_of (sym (same_Some _ obj e))
slot_told (Slot.Notification note) threads obj e = ap slot_of (sym (same_Some _ obj e))
slot_told (Slot.Ring ring) threads obj e = ap slot_of (sym (same_Some _ obj e))
slot_told (Slot.Scheduler cores) threads obj e = ap slot_of (sym (same_Some _ obj e))

pub threads_told : (slot : Slot) (threads : List ℕ) → HasOwnThreads slot threads → list_in (record_of slot threads) ≡ threads
threads_told Slot.Empty threads own = sym (own refl)
threads_told (Slot.Group group) threads own = sym (own refl)
threads_told (Slot.Thread thread) threads own = sym (own refl)
threads_told (Slot.Space space) threads own = sym (own refl)
threads_told (Slot.Memory memory) threads own = sym (own refl)
threads_told (Slot.Connection c) threads own = refl
threads_told (Slot.Notification note) threads own = refl
threads_told (Slot.Ring ring) threads own = sym (own refl)
threads_told (Slot.Scheduler cores) threads own = refl

pub told_again : (obj : Obj) → record_of (slot_of obj) (threads_of obj) ≡ Some obj
told_again (Obj.Group group) = refl
told_again (Obj.Thread thread) = refl
told_again (Obj.Space space) = refl
told_again (Obj.Memory memory) = refl
told_again (Obj.Connection c) = refl
told_again (Obj.Notification note) = refl
told_again (Obj.Ring ring) = refl
told_again (Obj.Scheduler scheduler) = refl

pub own_threads : (obj : Obj) → HasOwnThreads (slot_of obj) (threads_of obj)
own_threads (Obj.Group group) e = refl
own_threads (Obj.Thread thread) e = refl
own_threads (Obj.Space space) e = refl
own_threads (Obj.Memory memory) e = refl
own_threads (Obj.Connection c) e = absurd (false≢true (sym e))
own_threads (Obj.Notification note) e = absurd (false≢true (sym e))
own_threads (Obj.Ring ring) e = refl
own_threads (Obj.Scheduler scheduler) e = absurd (false≢true (sym e))

-- Whole tables.

pub lists_told : (o : Objects) (i : ℕ) → HasOwnLists o → list_at o.links i ≡ list_in (record_at o i)
lists_told o i own = sym (threads_told (slot_at o i) (list_at o.links i) (own i))

pub slots_told : (o : Objects) (i : ℕ) (told : Option Obj) → record_at o i ≡ told → (p : Objects) → record_at p i ≡ told → slot_at p i ≡ slot_at o i
slots_told o i None a p b = none_told (slot_at p i) (list_at p.links i) b ∙ sym (none_told (slot_at o i) (list_at o.links i) a)
slots_told o i (Some obj) a p b = sym (slot_told (slot_at p i) (list_at p.links i) obj b) ∙ slot_told (slot_at o i) (list_at o.links i) obj a

-- a slot that keeps no list has none
listless : (slot : Slot) → keeps_list slot ≡ false → has_list slot ≡ false
listless (Slot.Connection c) e = e
listless (Slot.Notification note) e = e
listless Slot.Empty e = refl
listless (Slot.Group group) e = refl
listless (Slot.Thread thread) e = refl
listless (Slot.Space space) e = refl
listless (Slot.Memory memory) e = refl
listless (Slot.Ring ring) e = refl
listless (Slot.Scheduler cores) e = refl

-- one that has no list keeps none, but for a scheduler's
unkept : (slot : Slot) → has_list slot ≡ false → is_scheduler slot ≡ false → keeps_list slot ≡ false
unkept (Slot.Connection c) e unscheduled = e
unkept (Slot.Notification note) e unscheduled = e
unkept Slot.Empty e unscheduled = refl
unkept (Slot.Group group) e unscheduled = refl
unkept (Slot.Thread thread) e unscheduled = refl
unkept (Slot.Space space) e unscheduled = refl
unkept (Slot.Memory memory) e unscheduled = refl
unkept (Slot.Ring ring) e unscheduled = refl
unkept (Slot.Scheduler cores) e unscheduled = absurd (false≢true (sym unscheduled))

-- a scheduler keeps a list
kept : (slot : Slot) → is_scheduler slot ≡ true → keeps_list slot ≡ true
kept (Slot.Scheduler cores) e = refl
kept (Slot.Connection c) e = refl
kept (Slot.Notification note) e = refl
kept Slot.Empty e = absurd (false≢true e)
kept (Slot.Group group) e = absurd (false≢true e)
kept (Slot.Thread thread) e = absurd (false≢true e)
kept (Slot.Space space) e = absurd (false≢true e)
kept (Slot.Memory memory) e = absurd (false≢true e)
kept (Slot.Ring ring) e = absurd (false≢true e)

owned_by : (o : Objects) (i : ℕ) (b : Bool) → (i == SCHEDULER) ≡ b → HasNoStrays o → is_scheduler (slot_at o SCHEDULER) ≡ true → HasOwnThreads (slot_at o i) (list_at o.links i)
owned_by o i true same none scheduler e =
    absurd (false≢true (sym e ∙ (ap (λ k. keeps_list (slot_at o k)) (eqb-true i SCHEDULER same) ∙ kept (slot_at o SCHEDULER) scheduler)))
owned_by o i false same none scheduler e = none i (eqb-false i SCHEDULER same) (listless (slot_at o i) e)

pub owned : (o : Objects) → HasNoStrays o → is_scheduler (slot_at o SCHEDULER) ≡ true → HasOwnLists o
owned o none scheduler = λ i. owned_by o i (i == SCHEDULER) refl none scheduler

pub no_strays : (o : Objects) → HasOwnLists o → ((i : ℕ) → i ≢ SCHEDULER → is_scheduler (slot_at o i) ≡ false) → HasNoStrays o
no_strays o own others = λ i other listless. own i (unkept (slot_at o i) listless (others i other))
