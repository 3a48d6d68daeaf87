use Rattle.std.proofs.Common.{refl}
use Rattle.std.proofs.Common.{[]}
use Rattle.plain_state.specs.Objects.{Notification}
use Rattle.plain_state.specs.declared.calls.Call.TheVariants.{NoteNew}
use Rattle.plain_state.specs.declared.calls.Refusal.TheVariants.{NoSlot, NoObjects}
use Rattle.plain_state.specs.CallEffects.{effect_of_call}
use Rattle.call_readings.specs.Kernel.{world_of}
use Rattle.kernel_calls.proofs.Made.{made}
use Rattle.kernel_calls.proofs.runtime.Runtime.note_new.Goals as goal

pub returns-clause-does : goal.returns-clause-does
unfolding effect_of_call
returns-clause-does c w rest h e a =
    let world = world_of c.args.self.now.objects rest w in
    let law = c.unrefused_call_meets_all.ensures.besides in
    made _ _ rest w c.args.thread.now (Notification 0 []) c.make.result
    (c.make.ensures.makes w rest (Notification 0 []) h (law world c.args.me c.args.thread.now NoteNew NoSlot (λ same. cc) e) (law world c.args.me c.args.thread.now NoteNew NoObjects (λ same. cc) e)
    refl a.held)
    refl h
