use Rattle.std.proofs.Common.{◌≡◌, ◌≢◌, ◌∙◌, ◌<◌, ◌^◌, sym, ap, refl, false, true, ℕ, List, [], ◌∷◌, arith, inl, inr}
use Rattle.std.specs.Prelude.{Some, None, Option, slice_get, unwrap_or}
use Rattle.std.proofs.lemmas.Bool.{false≢true}
use Rattle.plain_state.specs.States.{thread_at}
use Rattle.sls_base.specs.declared.fixed.TheConstants.{SCHEDULER}
use Rattle.link_lists.specs.Lists.{list_at}
use Rattle.kobj_table.specs.declared.slot.Slot.{Slot}
use Rattle.kobj_table.specs.Slots.{has_list}
use Rattle.kobj_table.specs.Objects.{slot_at, object_at, state_of}
use Rattle.plain_state.specs.declared.calls.Call.TheVariants.{Signal}
use Rattle.plain_state.specs.declared.calls.Refusal.TheVariants.{Full}
use Rattle.plain_state.specs.declared.objects.Kind.TheVariants.{NotificationKind}
use Rattle.plain_state.specs.Objects.{Notification, is_kind}
use Rattle.plain_state.specs.CallRefusals.{is_full_count}
use Rattle.plain_state.specs.CallEffects.{effect_of_call}
use Rattle.call_readings.specs.Kernel.{world_of}
use Rattle.object_records.specs.Untold.{KeepsUntold}
use Rattle.kernel_calls.proofs.Unrefused.{met_by}
use Rattle.kernel_calls.proofs.Objects.{put_gives, both_given}
use Rattle.kernel_calls.proofs.Frames.{changed, one_put, not_scheduler}
use Rattle.kernel_calls.proofs.Places.{listed, cases_list}
use Rattle.kernel_calls.proofs.Queues.{relisted, strays_moved}
use Rattle.kernel_calls.proofs.Threads.{apart, is_thread_slot, caller_answered}
use Rattle.kernel_calls.proofs.Notes.{signal_wakes, signal_counts, rises, not_greatest}
use Rattle.kernel_calls.proofs.Kept.{KeepsRings, rings_put, rings_lent}
use Rattle.kernel_calls.proofs.Untold.{keeps_same, lent_next, put_kept}
use Rattle.kernel_calls.proofs.runtime.Runtime.signal.Goals as goal

pub returns-in_default-clause-does : goal.returns-in_default-clause-does
unfolding world_of state_of
returns-in_default-clause-does c w rest h e a =
    let o = c.args.self.now.objects in
    let met = met_by c.unrefused_call_meets_all.ensures.needs (world_of o rest w) c.args.me c.args.thread.now Signal e in
    absurd (let none = c.in_default.ensures.none rest.content in let kind : is_kind NotificationKind (object_at rest.content o c.id_named-id.result) ≡ true = rw (c.id_named-id.ensures rest) met.0.kind in cc)

tail_same : (a b : ℕ) (xs ys : List ℕ) → a ∷ xs ≡ b ∷ ys → xs ≡ ys
tail_same a b xs ys e = cc

pub returns-clause-does : goal.returns-clause-does
unfolding world_of state_of effect_of_call
returns-clause-does c w rest h e a =
    let o = c.args.self.now.objects in
    let id = c.id_named-id.result in
    let slot_is = c.in-Some.ensures.some in
    let count = c.in-Some.note.count in
    let puts = c.put.ensures.puts in
    elim (cases_list (list_at o.links id)) [
      | inl empty ↦
          (let none : c.first-first.result ≡ None = c.first-first.ensures.first ∙ ap (λ (l : List ℕ). slice_get l 0) empty in
          let room : is_full_count (object_at rest.content o id) ≡ false = rw (c.id_named-id.ensures rest) (c.unrefused_call_meets_all.ensures.besides (world_of o rest w) c.args.me c.args.thread.now Signal Full (λ same. cc) e) in
          let other = not_greatest count (rw (slot_is, empty) at room) in
          let small : count < 2 ^ 32 = (rw slot_is at (a.held.sound.forms id)).0 in
          let counted = rises count c.signal.new.note.count (c.signal.ensures.counted empty) small other in
          let back = rw none at c.give_back.ensures.none in
          rw back (changed _ (signal_counts (state_of o rest) c.args.thread.now id count (sym (c.id_named-id.ensures rest)) (rw (slot_is, empty) refl))
          (one_put rest.content o c.put.new.self id (Slot.Notification c.signal.new.note) _ (record { there = puts.there; others = puts.others; links = puts.links ∙ c.signal.ensures.nobody empty })
          (rw (empty, counted) refl) (rw slot_is refl, tt) a.held.scheduler (rw slot_is refl))
          refl (caller_answered c.args.thread.now _ 0 _ [] c.of_caller.ensures (c.signal.ensures.answered (λ both. other both.1)) a.caller.awake) h (record { stores = refl; output = refl; takes = refl })))
      | inr waiting ↦
          (let first = waiting.0 in
          let waiters = waiting.1 in
          let is = waiting.2 in
          let some : list_at o.links id ≡ [] → ⊥ = λ empty. (let f : first ∷ waiters ≡ [] = sym is ∙ empty in cc) in
          let moved = c.signal.ensures.moved first waiters is in
          let first_is : c.first-first.result ≡ Some first = c.first-first.ensures.first ∙ ap (λ (l : List ℕ). slice_get l 0) is in
          let left : list_at c.signal.new.links id ≡ waiters = tail_same first first _ waiters (sym moved.first ∙ is) in
          let l = listed o a.held.rest a.held.sound.placed a.held.strays id first (rw is (0, omega arith, refl)) in
          let slot = is_thread_slot a.held.rest.content (slot_at o first) (list_at o.links first) l.0 l.1 in
          let back = rw first_is at c.give_back.ensures.some in
          let waiter_is : c.thread_or_zeros-waiter.result ≡ thread_at (state_of o rest) first = c.thread_or_zeros-waiter.ensures rest ∙ ap (λ (n : ℕ). thread_at (state_of o rest) n) (c.unwrap_or.ensures ∙ ap (λ (x : Option ℕ). unwrap_or x c.args.me) first_is) in
          let queue = not_scheduler o id a.held.scheduler (rw slot_is refl) in
          let note_given = relisted c.lists_alone.ensures.object o c.put.new.self c.signal.new.links rest.content id (Slot.Notification c.signal.new.note) (Notification count waiters) puts
          (rw (left, c.signal.ensures.kept some) refl) moved.others a.held.scheduler in
          let thread_given = put_gives rest.content c.put.new.self c.give_back.new.objects first (Slot.Thread c.signal.new.waiter) _ back (rw (c.signal.ensures.woken some, waiter_is) refl) in
          changed _ (signal_wakes (state_of o rest) c.args.thread.now id first count waiters (sym (c.id_named-id.ensures rest)) (rw (slot_is, is) refl))
          (record {
            objects = both_given (object_at rest.content o) (object_at rest.content c.put.new.self) (object_at rest.content c.give_back.new.objects) id first _ _ note_given thread_given;
            told = (rw slot_is refl, (rw slot.1 refl, tt));
            queue = rw (back.links, puts.links) (moved.last);
            scheduler = back.others SCHEDULER (not_scheduler o first a.held.scheduler (rw slot.1 refl)) ∙ puts.others SCHEDULER queue;
          })
          refl (caller_answered c.args.thread.now _ 0 _ (first ∷ []) c.of_caller.ensures (c.signal.ensures.answered (λ both. some both.0)) a.caller.awake) h (record { stores = refl; output = refl; takes = refl }))
    ]

pub returns-clause-keeps : goal.returns-clause-keeps
unfolding state_of
returns-clause-keeps c a =
    let o = c.args.self.now.objects in
    let id = c.id_named-id.result in
    let slot_is = c.in-Some.ensures.some in
    let puts = c.put.ensures.puts in
    let has : has_list (slot_at o id) ≡ true = rw slot_is refl in
    let free = c.signal.ensures.free c.args.me a.caller.free in
    let rings : KeepsRings o c.give_back.new.objects =
    λ i ring is. rings_put puts (λ other same. cc) i ring (rings_lent c.put.new.self c.give_back.new.objects c.first-first.result c.signal.new.waiter c.give_back.ensures.some c.give_back.ensures.none i ring is) in
    let untold : KeepsUntold o c.give_back.new.objects = lent_next c.first-first.result c.signal.new.waiter (put_kept puts refl tt) c.give_back.ensures.some c.give_back.ensures.none in
    elim (cases_list (list_at o.links id)) [
      | inl empty ↦
          (let none : c.first-first.result ≡ None = c.first-first.ensures.first ∙ ap (λ (l : List ℕ). slice_get l 0) empty in
          let back = rw none at c.give_back.ensures.none in
          let moved = strays_moved o c.signal.new.links id has (λ i other not_queue. ap (λ (l : List (List ℕ)). list_at l i) (c.signal.ensures.nobody empty)) a.held.strays in
          record { caller = rw back (puts.others c.args.me (apart o c.args.me id (rw a.caller.there refl) (rw slot_is refl))); strays = rw back (c.put.ensures.strays moved (λ other no_list. absurd (false≢true (sym no_list)))); free = λ left at_back. rw (back, puts.links) free; untold = untold; rings = rings })
      | inr waiting ↦
          (let first = waiting.0 in
          let is = waiting.2 in
          let moved = c.signal.ensures.moved first waiting.1 is in
          let first_is : c.first-first.result ≡ Some first = c.first-first.ensures.first ∙ ap (λ (l : List ℕ). slice_get l 0) is in
          let l = listed o a.held.rest a.held.sound.placed a.held.strays id first (rw is (0, omega arith, refl)) in
          let slot = is_thread_slot a.held.rest.content (slot_at o first) (list_at o.links first) l.0 l.1 in
          let back = rw first_is at c.give_back.ensures.some in
          let strays = c.put.ensures.strays (strays_moved o c.signal.new.links id has moved.others a.held.strays) (λ other no_list. absurd (false≢true (sym no_list))) in
          let waiter_apart : first ≢ id = λ same. (let f : slot_at o first ≡ Slot.Notification c.in-Some.note = rw same slot_is in let t = slot.1 in cc) in
          let thread_is : slot_at c.put.new.self first ≡ Slot.Thread slot.0 = puts.others first waiter_apart ∙ slot.1 in
          record {
            caller = back.others c.args.me (λ same. a.caller.free id (rw (is, same) (0, omega arith, refl))) ∙ puts.others c.args.me (apart o c.args.me id (rw a.caller.there refl) (rw slot_is refl));
            strays = (rw first_is at c.give_back.ensures.strays) strays (λ other no_list. strays first other (rw thread_is refl));
            free = λ left at_back. rw (back.links, puts.links) free;
            untold = untold;
            rings = rings;
          })
    ]

pub returns-in_default-clause-keeps : goal.returns-in_default-clause-keeps
returns-in_default-clause-keeps c a = keeps_same c.args.self.now _ c.args.me _ refl a.held.strays a.caller.free
