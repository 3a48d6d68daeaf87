use Rattle.std.proofs.Common.{◌<◌, length, rules}
use Rattle.plain_state.proofs.SlowTicks.{object_put}
use Rattle.plain_state.proofs.store.make_change.Goals as goal

pub returns-clause-changed : goal.returns-clause-changed
returns-clause-changed c =
    let within : c.from.result < length c.args.objects.now = search rules in
    object_put c.args.objects.now c.from.result c.args.change.id c.args.change.object c.from.ensures within
