use Rattle.kernel_machine.proofs.SeenCores.{runs_of, saves_of}
use Rattle.kernel_machine.proofs.kernel.Kernel.put_count.Goals as goal

pub returns-in-Runs : goal.returns-in-Runs
returns-in-Runs c = λ course is.
    let k = c.args.self.now in
    let h = runs_of k course c.in-Runs.running c.in-Runs.is is in
    c.put_count.ensures k.accepted k.nvm h.rest course.world h.holds

pub returns-in-Saves : goal.returns-in-Saves
returns-in-Saves c = λ course is.
    let k = c.args.self.now in
    c.put_count-in-Saves.ensures k.accepted k.nvm course.world
    (saves_of k course c.in-Saves.checkpoint c.in-Saves.is is)
