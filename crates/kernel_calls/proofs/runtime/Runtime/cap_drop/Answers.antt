use Rattle.std.proofs.Common.{◌≡◌, sym, refl, true, [], ◌∷◌, arith}
use Rattle.kobj_table.specs.declared.slot.Slot.{Slot}
use Rattle.kobj_table.specs.Objects.{object_at, state_of}
use Rattle.plain_state.specs.declared.calls.Call.TheVariants.{CapDrop}
use Rattle.plain_state.specs.declared.objects.Kind.TheVariants.{GroupKind}
use Rattle.plain_state.specs.Objects.{Group, is_kind}
use Rattle.plain_state.specs.CallEffects.{effect_of_call, answers_with, change}
use Rattle.call_readings.specs.Kernel.{world_of}
use Rattle.kernel_calls.proofs.Unrefused.{met_by}
use Rattle.kernel_calls.proofs.Frames.{changed, one_put, answered}
use Rattle.kernel_calls.proofs.Caps.{caps_of}
use Rattle.kernel_calls.proofs.Groups.{drop_is}
use Rattle.kernel_calls.proofs.Threads.{apart}
use Rattle.kernel_calls.proofs.Kept.{rings_put}
use Rattle.kernel_calls.proofs.Untold.{keeps_same, put_kept}
use Rattle.kernel_calls.proofs.runtime.Runtime.cap_drop.Goals as goal

pub returns-in_default-clause-does : goal.returns-in_default-clause-does
unfolding world_of state_of
returns-in_default-clause-does c w rest h e a =
    let o = c.args.self.now.objects in
    let met = met_by c.unrefused_call_meets_all.ensures.needs (world_of o rest w) c.args.me c.args.thread.now CapDrop e in
    absurd (let none = c.in_default.ensures.none rest.content in let kind : is_kind GroupKind (object_at rest.content o c.id_named-id.result) ≡ true = rw (c.id_named-id.ensures rest) met.0.kind in cc)

pub overflow_cast-arg : goal.overflow_cast-arg
overflow_cast-arg c = let low = c.requires in omega (arith, low, c.arg.ensures)

pub returns-clause-does : goal.returns-clause-does
unfolding world_of state_of effect_of_call
returns-clause-does c w rest h e a =
    let o = c.args.self.now.objects in
    let thread = c.args.thread.now in
    let slot_is = c.in-Some.ensures.some in
    let effect_is = drop_is (state_of o rest) thread c.id_named-id.result c.in-Some.group.slots c.clear.new.self.slots (sym (c.id_named-id.ensures rest)) (rw slot_is refl) (rw (sym c.arg.ensures) c.clear.ensures.slots) in
    changed (answers_with thread 0 (change c.id_named-id.result (Group (caps_of c.clear.new.self.slots)) ∷ [])) effect_is
    (one_put rest.content o c.put.new.self c.id_named-id.result (Slot.Group c.clear.new.self) (Group (caps_of c.clear.new.self.slots)) c.put.ensures.puts refl (rw slot_is refl, tt) a.held.scheduler (rw slot_is refl))
    refl (answered thread 0 0 _ [] c.answers-2.ensures refl) h (record { stores = refl; output = refl; takes = refl })

pub returns-clause-keeps : goal.returns-clause-keeps
returns-clause-keeps c a =
    let slot_is = c.in-Some.ensures.some in
    record {
      caller = c.put.ensures.puts.others c.args.me (apart c.args.self.now.objects c.args.me c.id_named-id.result (rw a.caller.there refl) (rw slot_is refl));
      strays = c.put.ensures.strays a.held.strays (λ other no_list. a.held.strays c.id_named-id.result other (rw slot_is refl));
      free = λ left back. rw c.put.ensures.puts.links a.caller.free;
      untold = put_kept c.put.ensures.puts refl tt;
      rings = rings_put c.put.ensures.puts (λ ring same. cc);
    }

pub returns-in_default-clause-keeps : goal.returns-in_default-clause-keeps
returns-in_default-clause-keeps c a = keeps_same c.args.self.now _ c.args.me _ refl a.held.strays a.caller.free
