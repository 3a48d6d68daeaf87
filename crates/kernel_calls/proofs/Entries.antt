-- Rings that count a world's entries.
use Rattle.std.specs.Prelude.{◌≡◌, ℕ, ◌==◌, Bool, true, false}
use Rattle.std.proofs.Common.{refl, sym, ◌∙◌, subst}
use Rattle.std.proofs.lemmas.Bool.{eqb-true, eqb-false}
use Rattle.sls_base.specs.declared.fixed.TheConstants.{SCHEDULER}
use Rattle.sls_base.specs.declared.thread.Thread.{Thread as ThreadRecord}
use Rattle.plain_state.specs.Worlds.{World, put_count}
use Rattle.kobj_table.specs.declared.objects.Objects.{Objects}
use Rattle.sls_base.specs.declared.thread.Ring.{Ring}
use Rattle.kobj_table.specs.declared.slot.Slot.{Slot}
use Rattle.kobj_table.specs.Slots.{is_scheduler}
use Rattle.kobj_table.specs.Objects.{slot_at}
use Rattle.call_readings.specs.Kernel.{CountsEntries}
use Rattle.kernel_calls.specs.declared.done.Done.{Done}
use Rattle.kernel_calls.specs.Ticking.{Settles}

-- a ring counts the entries of each world that has put as many
pub entries_kept : (slot : Slot) (v w : World) → ((channel : ℕ) → put_count v channel ≡ put_count w channel) → CountsEntries slot w → CountsEntries slot v
entries_kept (Slot.Ring ring) v w same is = (is.0, λ output. is.1 output ∙ sym (same ring.channel))
entries_kept Slot.Empty v w same is = is
entries_kept (Slot.Group group) v w same is = is
entries_kept (Slot.Thread thread) v w same is = is
entries_kept (Slot.Space space) v w same is = is
entries_kept (Slot.Memory memory) v w same is = is
entries_kept (Slot.Connection connection) v w same is = is
entries_kept (Slot.Notification note) v w same is = is
entries_kept (Slot.Scheduler cores) v w same is = is

-- what stands at a number counts them, where each ring there was there before
pub ring_kept : (slot before : Slot) (w : World) → ((ring : Ring) → slot ≡ Slot.Ring ring → before ≡ Slot.Ring ring) → CountsEntries before w → CountsEntries slot w
ring_kept (Slot.Ring ring) before w was is = subst (λ (s : Slot). CountsEntries s w) (was ring refl) is
ring_kept Slot.Empty before w was is = tt
ring_kept (Slot.Group group) before w was is = tt
ring_kept (Slot.Thread thread) before w was is = tt
ring_kept (Slot.Space space) before w was is = tt
ring_kept (Slot.Memory memory) before w was is = tt
ring_kept (Slot.Connection connection) before w was is = tt
ring_kept (Slot.Notification note) before w was is = tt
ring_kept (Slot.Scheduler cores) before w was is = tt

no_ring : (slot : Slot) (w : World) → is_scheduler slot ≡ true → CountsEntries slot w
no_ring (Slot.Scheduler cores) w is = tt
no_ring (Slot.Ring ring) w is = absurd (cc)
no_ring Slot.Empty w is = tt
no_ring (Slot.Group group) w is = tt
no_ring (Slot.Thread thread) w is = tt
no_ring (Slot.Space space) w is = tt
no_ring (Slot.Memory memory) w is = tt
no_ring (Slot.Connection connection) w is = tt
no_ring (Slot.Notification note) w is = tt

settled_ring : (o n : Objects) (core id left : ℕ) (thread : ThreadRecord) (done : Done) (w : World) (i : ℕ) (a b : Bool) → (i == id) ≡ a → (i == SCHEDULER) ≡ b →
    Settles o n core id left thread done → is_scheduler (slot_at o SCHEDULER) ≡ true → CountsEntries (slot_at o i) w → CountsEntries (slot_at n i) w
settled_ring o n core id left thread done w i true b same same' s scheduler is = rw (eqb-true i id same) (rw s.there tt)
settled_ring o n core id left thread done w i false true same same' s scheduler is = rw (eqb-true i SCHEDULER same') (no_ring (slot_at n SCHEDULER) w (s.scheduler ∙ scheduler))
settled_ring o n core id left thread done w i false false same same' s scheduler is = rw (s.others i (eqb-false i id same) (eqb-false i SCHEDULER same')) is

-- a thread that is put down changes no ring
pub settled_rings : (o n : Objects) (core id left : ℕ) (thread : ThreadRecord) (done : Done) (w : World) → Settles o n core id left thread done →
    is_scheduler (slot_at o SCHEDULER) ≡ true → ((i : ℕ) → CountsEntries (slot_at o i) w) → (i : ℕ) → CountsEntries (slot_at n i) w
settled_rings o n core id left thread done w s scheduler rings i =
    settled_ring o n core id left thread done w i (i == id) (i == SCHEDULER) refl refl s scheduler (rings i)
