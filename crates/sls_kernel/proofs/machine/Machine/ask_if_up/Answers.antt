use Rattle.std.proofs.Common.{ap, rules}
use Rattle.sls_kernel.specs.Side.{IsServing, mode}
use Rattle.sls_kernel.specs.Play.{side_of}
use Rattle.sls_kernel.proofs.machine.Machine.ask_if_up.Goals as goal

pub returns-then-is_up-clause-world : goal.returns-then-is_up-clause-world
returns-then-is_up-clause-world c = λ w s.
    let up : IsServing (mode c.args.self.now) = search rules in
    let e = c.ask.ensures in
    let world = e.world w s in (
      (
        record {
          serving = up;
          doing = e.goes;
          memory = e.memory;
          turns = e.left;
          same = λ other. ap side_of (e.same other);
        },
        world.0,
      ),
      world.1,
    )
