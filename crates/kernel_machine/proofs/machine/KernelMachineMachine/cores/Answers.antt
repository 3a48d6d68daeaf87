-- Each core has a hand.
use Rattle.std.proofs.Common.{◌∙◌, ap, sym}
use Rattle.kernel_machine.specs.declared.kernel.Kernel.{Kernel}
use Rattle.kernel_machine.proofs.Seen.{count_hands}
use Rattle.kernel_machine.proofs.machine.KernelMachineMachine.cores.Goals as goal

pub returns-clause-number : goal.returns-clause-number
returns-clause-number c =
    ap (λ (k : Kernel). k.cores) c.self.view_is ∙ sym (count_hands c.args.self.now.work c.args.self.now.cores)
