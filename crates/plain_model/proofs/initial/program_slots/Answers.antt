use Rattle.std.proofs.Common.{◌∙◌, ◌+◌, ◌-◌, ap, length, arith}
use Rattle.plain_model.specs.Initial as plain
use Rattle.plain_model.specs.InitialParts.{channel_caps}
use Rattle.plain_state.proofs.SlowMemory.{one_longer}
use Rattle.plain_model.proofs.SlowInitial.{behind_more}
use Rattle.plain_model.proofs.initial.program_slots.Goals as goal

pub loop-own-preserved : goal.loop-own-preserved
loop-own-preserved c = record {
  count = let e = ap length c.push.ensures.items ∙ one_longer c.loop-own.slots.items c.all_rights.result in omega arith;
  same = behind_more plain.all_rights (channel_caps c.args.program.now c.args.n) c.loop-own.slots.items c.push.new.self.items c.all_rights.result (c.args.n + 2) (c.loop-own.own - 2) (c.loop-own.own + 1 - 2)
      c.loop-own.invariant.same c.push.ensures.items (c.all_rights.ensures ∙ ap plain.all_rights (omega arith)) (omega arith);
}
