use Rattle.kernel_calls.proofs.Waiting.{dropped}
use Rattle.kernel_calls.proofs.calls.Calls.drop_inputs.Goals as goal

pub returns-clause-holds : goal.returns-clause-holds
returns-clause-holds c accepted m rest w h = rw c.clear.ensures (dropped c.args.self.now accepted m rest w h)
