use Rattle.std.proofs.Common.{◌∙◌, ◌+◌, ◌-◌, ap, arith}
use Rattle.std.proofs.lemmas.List.{map_push}
use Rattle.std.specs.Prelude.{option_map}
use Rattle.plain_model.specs.Initial as plain
use Rattle.plain_model.specs.InitialParts.{channel_caps}
use Rattle.kobj_table.specs.Slots.{capability_of}
use Rattle.first_state.specs.Filled.{caps_of}
use Rattle.first_state.proofs.Lists.{behind_more}
use Rattle.first_state.proofs.groups.program_group.Goals as goal

pub loop-own-preserved : goal.loop-own-preserved
loop-own-preserved c = record {
  count = omega (arith, c.push.ensures.len, c.loop-own.invariant.count);
  same = behind_more plain.all_rights (channel_caps c.args.program.now c.args.n) (caps_of c.loop-own.slots.items) (caps_of c.push.new.self.items) (option_map capability_of c.all_rights.result) (c.args.n + 2) (c.loop-own.own - 2) (c.loop-own.own + 1 - 2)
      c.loop-own.invariant.same (ap caps_of c.push.ensures.items ∙ map_push (option_map capability_of) c.loop-own.slots.items c.all_rights.result) (c.all_rights.ensures ∙ ap plain.all_rights (omega arith)) (omega arith);
}
