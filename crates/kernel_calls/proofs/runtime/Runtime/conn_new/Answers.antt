use Rattle.std.proofs.Common.{refl}
use Rattle.std.proofs.Common.{[]}
use Rattle.std.specs.Prelude.{None}
use Rattle.plain_state.specs.Objects.{Connection}
use Rattle.plain_state.specs.declared.calls.Call.TheVariants.{ConnNew}
use Rattle.plain_state.specs.declared.calls.Refusal.TheVariants.{NoSlot, NoObjects}
use Rattle.plain_state.specs.CallEffects.{effect_of_call}
use Rattle.call_readings.specs.Kernel.{world_of}
use Rattle.kernel_calls.proofs.Made.{made}
use Rattle.kernel_calls.proofs.runtime.Runtime.conn_new.Goals as goal

pub returns-clause-does : goal.returns-clause-does
unfolding effect_of_call
returns-clause-does c w rest h e a =
    let world = world_of c.args.self.now.objects rest w in
    let law = c.unrefused_call_meets_all.ensures.besides in
    made _ _ rest w c.args.thread.now (Connection c.args.me None []) c.make.result
    (c.make.ensures.makes w rest (Connection c.args.me None []) h (law world c.args.me c.args.thread.now ConnNew NoSlot (λ same. cc) e) (law world c.args.me c.args.thread.now ConnNew NoObjects (λ same. cc) e)
    refl a.held)
    refl h
