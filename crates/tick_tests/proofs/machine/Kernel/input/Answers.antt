use Rattle.plain_model.specs.Play.{input}
use Rattle.tick_tests.proofs.machine.Kernel.input.Goals as goal

pub returns : goal.returns
returns c =
    let k = c.args.self.now in
    let held = c.requires.held in
    let next = c.give_input.ensures.holds k.accepted k.nvm held.rest held.world held.holds in
    record { world = input held.world c.args.bytes.now; rest = next.0; holds = next.1 }
