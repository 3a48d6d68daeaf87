use Rattle.std.proofs.Common.{◌≡◌, ◌∙◌, sym, ap, refl, false, true, [], ◌∷◌}
use Rattle.std.specs.Prelude.{Some, Option, is_none, bit_and, option_map}
use Rattle.cap_group.specs.declared.cap.Cap.{Cap}
use Rattle.kobj_table.specs.declared.slot.Slot.{Slot}
use Rattle.kobj_table.specs.Slots.{capability_of}
use Rattle.kobj_table.specs.Objects.{object_at, state_of}
use Rattle.plain_state.specs.declared.calls.Call.TheVariants.{CapCopy}
use Rattle.plain_state.specs.declared.objects.Kind.TheVariants.{GroupKind}
use Rattle.plain_state.specs.Objects.{Group, is_kind}
use Rattle.plain_state.specs.Calls.{arg, cap_named}
use Rattle.plain_state.specs.CallEffects.{effect_of_call, answers_with, change}
use Rattle.plain_state.specs.CallRefusals.{no_slot}
use Rattle.plain_state.specs.declared.calls.Refusal.TheVariants.{NoSlot}
use Rattle.call_readings.specs.Kernel.{world_of}
use Rattle.kernel_calls.proofs.Unrefused.{met_by}
use Rattle.kernel_calls.proofs.Frames.{changed, one_put, answered}
use Rattle.kernel_calls.proofs.Caps.{caps_of, not_full, all_held}
use Rattle.kernel_calls.proofs.Groups.{copy_is}
use Rattle.kernel_calls.proofs.Threads.{apart}
use Rattle.kernel_calls.proofs.Kept.{rings_put}
use Rattle.kernel_calls.proofs.Untold.{keeps_same, put_kept}
use Rattle.kernel_calls.proofs.runtime.Runtime.cap_copy.Goals.{in_default-via-in-Some+in_default, in_default-via-in_default}
use Rattle.kernel_calls.proofs.runtime.Runtime.cap_copy.Goals as goal

pub returns-in_default-clause-does : goal.returns-in_default-clause-does
unfolding world_of state_of
returns-in_default-clause-does c w rest h e a =
    let o = c.args.self.now.objects in
    let met = met_by c.unrefused_call_meets_all.ensures.needs (world_of o rest w) c.args.me c.args.thread.now CapCopy e in
    let id = c.id_named-id.ensures rest in
    elim c.in_default.branch [
      | in_default-via-in-Some+in_default b ↦ absurd (let none = b.in_default.ensures'.none rest.content in let kind : is_kind GroupKind (object_at rest.content o c.id_named-id.result) ≡ true = rw id met.1.1.0.kind in cc)
      | in_default-via-in_default b ↦ absurd (let was : is_none (option_map capability_of c.cap_named.result) ≡ false = rw (c.cap_named.ensures rest) met.0.cap in let now : is_none (option_map capability_of c.cap_named.result) ≡ true = rw b.in_default.is-0 refl in cc)
    ]

pub returns-in_default-lowest_free-clause-does : goal.returns-in_default-lowest_free-clause-does
unfolding world_of state_of
returns-in_default-lowest_free-clause-does c w rest h e a =
    let o = c.args.self.now.objects in
    let slot_is = c.in-Some-Some.ensures'.some in
    let full : no_slot (object_at rest.content o c.id_named-id.result) ≡ false = rw (c.id_named-id.ensures rest) (c.unrefused_call_meets_all.ensures.besides (world_of o rest w) c.args.me c.args.thread.now CapCopy NoSlot (λ same. cc) e) in
    absurd (not_full c.in-Some-Some.group.slots c.lowest_free.result c.lowest_free.ensures.first_free (rw slot_is at full) c.in_default-lowest_free.is)

pub returns-clause-does : goal.returns-clause-does
unfolding world_of state_of effect_of_call
returns-clause-does c w rest h e a =
    let o = c.args.self.now.objects in
    let thread = c.args.thread.now in
    let met = met_by c.unrefused_call_meets_all.ensures.needs (world_of o rest w) c.args.me thread CapCopy e in
    let slot_is = c.in-Some-Some.ensures'.some in
    let held = c.in-Some-Some.held in
    let held_is : cap_named (state_of o rest) thread 0 ≡ Some (capability_of held) = sym (c.cap_named.ensures rest) ∙ ap (λ (x : Option Cap). option_map capability_of x) c.in-Some-Some.is-0 in
    let rights : bit_and held.rights (arg thread 2) ≡ arg thread 2 = all_held held.rights (arg thread 2) (rw held_is at met.1.0.rights) in
    let effect_is = copy_is (state_of o rest) thread c.id_named-id.result c.in-Some.slot _ held c.in-Some-Some.group.slots c.set.new.self.slots c.lowest_free.result
    (sym (c.id_named-id.ensures rest)) (rw slot_is refl) held_is rights c.lowest_free.ensures.first_free c.in-Some.is (rw (sym c.from.ensures) (rw (sym c.arg.ensures) c.set.ensures.slots)) in
    changed (answers_with thread c.in-Some.slot (change c.id_named-id.result (Group (caps_of c.set.new.self.slots)) ∷ [])) effect_is
    (one_put rest.content o c.put.new.self c.id_named-id.result (Slot.Group c.set.new.self) (Group (caps_of c.set.new.self.slots)) c.put.ensures.puts refl (rw slot_is refl, tt) a.held.scheduler (rw slot_is refl))
    refl (answered thread c.from-2.result c.in-Some.slot _ [] c.answers-2.ensures c.from-2.ensures) h (record { stores = refl; output = refl; takes = refl })

pub returns-clause-keeps : goal.returns-clause-keeps
returns-clause-keeps c a =
    let slot_is = c.in-Some-Some.ensures'.some in
    record {
      caller = c.put.ensures.puts.others c.args.me (apart c.args.self.now.objects c.args.me c.id_named-id.result (rw a.caller.there refl) (rw slot_is refl));
      strays = c.put.ensures.strays a.held.strays (λ other no_list. a.held.strays c.id_named-id.result other (rw slot_is refl));
      free = λ left back. rw c.put.ensures.puts.links a.caller.free;
      untold = put_kept c.put.ensures.puts refl tt;
      rings = rings_put c.put.ensures.puts (λ ring same. cc);
    }

pub returns-in_default-clause-keeps : goal.returns-in_default-clause-keeps
returns-in_default-clause-keeps c a = keeps_same c.args.self.now _ c.args.me _ refl a.held.strays a.caller.free

pub returns-in_default-lowest_free-clause-keeps : goal.returns-in_default-lowest_free-clause-keeps
returns-in_default-lowest_free-clause-keeps c a = keeps_same c.args.self.now _ c.args.me _ refl a.held.strays a.caller.free
