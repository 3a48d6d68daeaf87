use Rattle.std.proofs.Common.{refl}
use Rattle.std.proofs.Common.{[], List, ap}
use Rattle.std.specs.Prelude.{Some, map}
use Rattle.mem_space.specs.declared.region.Region.{Region}
use Rattle.kobj_table.specs.Slots.{region_of}
use Rattle.plain_state.specs.Objects.{Space}
use Rattle.plain_state.specs.declared.calls.Call.TheVariants.{SpaceNew}
use Rattle.plain_state.specs.declared.calls.Refusal.TheVariants.{NoSlot, NoObjects}
use Rattle.plain_state.specs.CallEffects.{effect_of_call}
use Rattle.call_readings.specs.Kernel.{world_of}
use Rattle.kernel_calls.proofs.Made.{made}
use Rattle.kernel_calls.proofs.runtime.Runtime.space_new.Goals as goal

pub returns-clause-does : goal.returns-clause-does
unfolding effect_of_call
returns-clause-does c w rest h e a =
    let world = world_of c.args.self.now.objects rest w in
    let law = c.unrefused_call_meets_all.ensures.besides in
    made _ _ rest w c.args.thread.now (Space []) c.make.result
    (c.make.ensures.makes w rest (Space []) h (law world c.args.me c.args.thread.now SpaceNew NoSlot (λ same. cc) e) (law world c.args.me c.args.thread.now SpaceNew NoObjects (λ same. cc) e)
    (ap (λ (l : List Region). Some (Space (map region_of l))) c.new.ensures.regions) a.held)
    refl h
