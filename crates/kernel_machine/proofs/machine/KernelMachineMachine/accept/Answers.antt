-- What the kernel is at is shown.
use Rattle.std.proofs.Common.{sym, subst}
use Rattle.kernel_machine.specs.declared.kernel.Kernel.{Kernel}
use Rattle.kernel_machine.specs.Shows.{IsAt}
use Rattle.kernel_machine.proofs.machine.KernelMachineMachine.accept.Goals as goal

pub returns-clause-shows : goal.returns-clause-shows
returns-clause-shows c = λ course shows.
    let at : IsAt c.self.inside.kernel course =
    subst (λ (k : Kernel). IsAt k course) (sym c.self.view_is) shows.is_at in
    let next = c.accept.ensures.is_at course at in
    record { is_at = next; shown = c.machines_are_seen.ensures.shown c.accept.new.self _ next }
