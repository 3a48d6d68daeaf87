-- A machine that was booted shows its first course.
use Rattle.machine_contract.specs.Courses.{first_course}
use Rattle.kernel_machine.proofs.machine.KernelMachineMachine.boot.Goals as goal

pub returns-in-Ok-clause-shows : goal.returns-in-Ok-clause-shows
returns-in-Ok-clause-shows c = record {
  is_at = c.in-Ok.ensures.is_at;
  shown = c.machines_are_seen.ensures.shown c.in-Ok.kernel
      (first_course c.args.image.now c.args.cores c.args.nvm) c.in-Ok.ensures.is_at;
}
