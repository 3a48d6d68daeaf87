-- A checkpoint offers what the world does.
use Rattle.kernel_machine.proofs.SeenCores.{saves_of}
use Rattle.kernel_machine.proofs.kernel.Kernel.offered.Goals as goal

pub returns-in-Saves-clause-none : goal.returns-in-Saves-clause-none
returns-in-Saves-clause-none c = λ course at.
    c.offered-in-Saves.ensures.none course.world
    (saves_of c.args.self.now course c.in-Saves.checkpoint c.in-Saves.is at)

pub returns-in-Saves-clause-some : goal.returns-in-Saves-clause-some
returns-in-Saves-clause-some c = λ course at.
    c.offered-in-Saves.ensures.some course.world
    (saves_of c.args.self.now course c.in-Saves.checkpoint c.in-Saves.is at)
