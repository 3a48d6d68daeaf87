use Rattle.std.proofs.Common.{ap, refl, List}
use Rattle.std.specs.Prelude.{Some, Option}
use Rattle.cap_group.specs.declared.cap.Cap.{Cap}
use Rattle.plain_state.specs.declared.calls.Call.TheVariants.{GroupNew}
use Rattle.plain_state.specs.declared.calls.Refusal.TheVariants.{NoSlot, NoObjects}
use Rattle.plain_state.specs.Objects.{Group, new_group, empty_slots}
use Rattle.plain_state.specs.CallEffects.{effect_of_call}
use Rattle.call_readings.specs.Kernel.{world_of}
use Rattle.kernel_calls.proofs.Caps.{caps_of}
use Rattle.kernel_calls.proofs.Made.{made}
use Rattle.kernel_calls.proofs.runtime.Runtime.group_new.Goals as goal

pub returns-clause-does : goal.returns-clause-does
unfolding effect_of_call empty_slots
returns-clause-does c w rest h e a =
    let world = world_of c.args.self.now.objects rest w in
    let law = c.unrefused_call_meets_all.ensures.besides in
    made _ _ rest w c.args.thread.now new_group c.make.result
    (c.make.ensures.makes w rest new_group h (law world c.args.me c.args.thread.now GroupNew NoSlot (λ same. cc) e) (law world c.args.me c.args.thread.now GroupNew NoObjects (λ same. cc) e)
    (ap (λ (l : List (Option Cap)). Some (Group (caps_of l))) c.new.ensures.slots) a.held)
    refl h
