-- The device takes the entry, as the world accepts it.
use Rattle.std.specs.Prelude.{◌≡◌, length}
use Rattle.std.proofs.Common.{arith}
use Rattle.sls_base.specs.declared.limits.TheConstants.{OUTPUT_CHANNELS}
use Rattle.kernel_machine.proofs.AcceptTakes.{AcceptLaws, taken_at}
use Rattle.kernel_machine.proofs.kernel.Kernel.accept.Goals as goal

pub returns-clause-is_at : goal.returns-clause-is_at
returns-clause-is_at c = λ course at.
    let laws : AcceptLaws = record { runs = c.running_cores.ensures.accepts; saves = c.accepts.ensures } in
    let offered = (c.in_ok-entry.ensures.some course at).0 in
    let size : length c.args.self.now.accepted ≡ OUTPUT_CHANNELS = omega arith in
    taken_at c.args.self.now course c.args.channel c.requires.channel offered laws size at c.requires.up
