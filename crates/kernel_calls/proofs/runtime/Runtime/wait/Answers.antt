use Rattle.std.proofs.Common.{◌≡◌, ◌≢◌, ◌∙◌, ◌-◌, sym, ap, refl, true, ℕ, List, [], ◌∷◌, inl, inr}
use Rattle.std.specs.Prelude.{◌==◌, ◌++◌}
use Rattle.std.proofs.lemmas.Bool.{cases_Bool, eqb-true, eqb-false, false≢true}
use Rattle.sls_base.specs.declared.fixed.TheConstants.{SCHEDULER}
use Rattle.sls_base.specs.declared.thread.ThreadState.TheVariants.{Waiting}
use Rattle.link_lists.specs.Lists.{list_at}
use Rattle.ipc_note.specs.declared.lists.TheConstants.{RUN_QUEUE}
use Rattle.kobj_table.specs.declared.slot.Slot.{Slot}
use Rattle.kobj_table.specs.Slots.{has_list}
use Rattle.kobj_table.specs.Objects.{slot_at, object_at, state_of}
use Rattle.plain_state.specs.declared.calls.Call.TheVariants.{Wait}
use Rattle.plain_state.specs.declared.objects.Kind.TheVariants.{NotificationKind}
use Rattle.plain_state.specs.Objects.{Notification, is_kind}
use Rattle.plain_state.specs.CallEffects.{effect_of_call}
use Rattle.call_readings.specs.Kernel.{world_of}
use Rattle.kernel_calls.proofs.Unrefused.{met_by}
use Rattle.kernel_calls.proofs.Frames.{changed, one_put, no_more, not_scheduler}
use Rattle.kernel_calls.proofs.Queues.{relisted, strays_moved}
use Rattle.kernel_calls.proofs.Threads.{apart, caller_answered, caller_waits, not_back}
use Rattle.kernel_calls.proofs.Notes.{wait_waits, wait_takes}
use Rattle.kernel_calls.proofs.Kept.{rings_put}
use Rattle.kernel_calls.proofs.Untold.{keeps_same, put_kept}
use Rattle.kernel_calls.proofs.runtime.Runtime.wait.Goals as goal

pub returns-in_default-clause-does : goal.returns-in_default-clause-does
unfolding world_of state_of
returns-in_default-clause-does c w rest h e a =
    let o = c.args.self.now.objects in
    let met = met_by c.unrefused_call_meets_all.ensures.needs (world_of o rest w) c.args.me c.args.thread.now Wait e in
    absurd (let none = c.in_default.ensures.none rest.content in let kind : is_kind NotificationKind (object_at rest.content o c.id_named-id.result) ≡ true = rw (c.id_named-id.ensures rest) met.0.kind in cc)

pub returns-clause-does : goal.returns-clause-does
unfolding world_of state_of effect_of_call
returns-clause-does c w rest h e a =
    let o = c.args.self.now.objects in
    let id = c.id_named-id.result in
    let thread = c.args.thread.now in
    let slot_is = c.in-Some.ensures.some in
    let count = c.in-Some.note.count in
    let puts = c.put.ensures.puts in
    let waiters = list_at o.links id in
    elim (cases_Bool (count == 0)) [
      | inl none ↦
          (let zero_is : ◌≡◌ {A = ℕ} count 0 = eqb-true count 0 none in
          let joined = c.wait.ensures.joined zero_is in
          let counted : ◌≡◌ {A = ℕ} c.wait.new.note.count 0 = c.wait.ensures.count ∙ rw zero_is refl in
          let queue = not_scheduler o id a.held.scheduler (rw slot_is refl) in
          let given = relisted c.lists_alone.ensures.object o c.put.new.self c.wait.new.links rest.content id (Slot.Notification c.wait.new.note) (Notification 0 (waiters ++ c.args.me ∷ [])) puts
          (rw (joined.last, counted) refl) (λ i other not_queue. joined.others i other) a.held.scheduler in
          changed _ (wait_waits (state_of o rest) thread c.args.me id count waiters (sym (c.id_named-id.ensures rest)) (rw slot_is refl) zero_is)
          (record {
            objects = given;
            told = (rw slot_is refl, tt);
            queue = rw puts.links (joined.others RUN_QUEUE queue ∙ sym (no_more (list_at o.links RUN_QUEUE)));
            scheduler = puts.others SCHEDULER queue;
          })
          refl (caller_waits thread _ (Waiting id) _ [] c.of_caller.ensures (c.wait.ensures.waits zero_is) refl) h (record { stores = refl; output = refl; takes = refl }))
      | inr some ↦
          (let other : ◌≢◌ {A = ℕ} count 0 = eqb-false count 0 some in
          let kept = c.wait.ensures.kept other in
          changed _ (wait_takes (state_of o rest) thread c.args.me id count waiters (sym (c.id_named-id.ensures rest)) (rw slot_is refl) some)
          (one_put rest.content o c.put.new.self id (Slot.Notification c.wait.new.note) (Notification (count - 1) waiters) (record { there = puts.there; others = puts.others; links = puts.links ∙ kept })
          (rw c.wait.ensures.count refl) (rw slot_is refl, tt) a.held.scheduler (rw slot_is refl))
          refl (caller_answered thread _ 0 _ [] c.of_caller.ensures (c.wait.ensures.answered other) a.caller.awake) h (record { stores = refl; output = refl; takes = refl }))
    ]

pub returns-clause-keeps : goal.returns-clause-keeps
returns-clause-keeps c a =
    let o = c.args.self.now.objects in
    let id = c.id_named-id.result in
    let thread = c.args.thread.now in
    let slot_is = c.in-Some.ensures.some in
    let count = c.in-Some.note.count in
    let puts = c.put.ensures.puts in
    let has : has_list (slot_at o id) ≡ true = rw slot_is refl in
    elim (cases_Bool (count == 0)) [
      | inl none ↦
          (let zero_is : ◌≡◌ {A = ℕ} count 0 = eqb-true count 0 none in
          let joined = c.wait.ensures.joined zero_is in
          record {
            caller = puts.others c.args.me (apart o c.args.me id (rw a.caller.there refl) (rw slot_is refl));
            strays = c.put.ensures.strays (strays_moved o c.wait.new.links id has (λ i other not_queue. joined.others i other) a.held.strays) (λ other no_list. absurd (false≢true (sym no_list)));
            free = λ left back. absurd (not_back thread _ (Waiting id) left c.of_caller.ensures (c.wait.ensures.waits zero_is) refl back);
            untold = put_kept puts refl tt;
            rings = rings_put puts (λ ring same. cc);
          })
      | inr some ↦
          (let kept = c.wait.ensures.kept (eqb-false count 0 some) in
          record {
            caller = puts.others c.args.me (apart o c.args.me id (rw a.caller.there refl) (rw slot_is refl));
            strays = c.put.ensures.strays (strays_moved o c.wait.new.links id has (λ i other not_queue. ap (λ (l : List (List ℕ)). list_at l i) kept) a.held.strays) (λ other no_list. absurd (false≢true (sym no_list)));
            free = λ left back. rw (puts.links, kept) a.caller.free;
            untold = put_kept puts refl tt;
            rings = rings_put puts (λ ring same. cc);
          })
    ]

pub returns-in_default-clause-keeps : goal.returns-in_default-clause-keeps
returns-in_default-clause-keeps c a = keeps_same c.args.self.now _ c.args.me _ refl a.held.strays a.caller.free
