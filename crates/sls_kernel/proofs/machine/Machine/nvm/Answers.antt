use Rattle.sls_kernel.specs.Side.{mode}
use Rattle.sls_kernel.proofs.Durable.{stands_for}
use Rattle.sls_kernel.proofs.machine.Machine.nvm.Goals as goal

pub returns-clause-stands : goal.returns-clause-stands
unfolding mode
returns-clause-stands c = λ w s. stands_for c.args.self.now w s

pub returns-clause-released : goal.returns-clause-released
returns-clause-released c = λ w s channel. s.counted.released channel
