-- A turn of the kernel is one of the machine.
use Rattle.std.proofs.Common.{sym, subst}
use Rattle.machine_contract.specs.Goes.{TurnGoes}
use Rattle.kernel_machine.specs.declared.kernel.Kernel.{Kernel}
use Rattle.kernel_machine.specs.Sides.{seen_of}
use Rattle.kernel_machine.specs.Formats.{format}
use Rattle.kernel_machine.specs.Shows.{IsAt}
use Rattle.kernel_machine.proofs.machine.KernelMachineMachine.turn.Goals as goal

pub returns-clause-goes : goal.returns-clause-goes
returns-clause-goes c = λ course shows.
    let at : IsAt c.self.inside.kernel course =
    subst (λ (k : Kernel). IsAt k course) (sym c.self.view_is) shows.is_at in
    let next = c.take_turn.new.self in
    subst (λ (k : Kernel). TurnGoes format c.args.core c.take_turn.result (seen_of k) course (seen_of next))
    c.self.view_is (c.take_turn.ensures.goes course at).goes
