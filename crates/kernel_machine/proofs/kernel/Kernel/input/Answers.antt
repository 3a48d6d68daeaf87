-- The input waits behind the others, of cores that run and in a checkpoint alike.
use Rattle.kernel_machine.proofs.SeenCores.{runs_of, saves_of}
use Rattle.kernel_machine.proofs.InputGiven.{given_is, runs_at, runs_go, saves_at, saves_go}
use Rattle.kernel_machine.proofs.kernel.Kernel.input.Goals as goal

pub returns-in-Runs-clause-goes : goal.returns-in-Runs-clause-goes
returns-in-Runs-clause-goes c = λ course at.
    let old = c.args.self.now in
    let k = c.in-Runs.running in
    let new = c.give_input.new.self in
    let told = c.give_input.ensures in
    let runs = runs_of old course k c.in-Runs.is at in
    runs_go old course c.args.bytes.now k new new.calls.inputs c.in-Runs.is told.rest
    c.give_input.result c.requires.up
    (given_is course.world c.give_input.result (told.full old.accepted old.nvm course.world runs))

pub returns-in-Runs-clause-is_at : goal.returns-in-Runs-clause-is_at
returns-in-Runs-clause-is_at c = λ course at.
    let old = c.args.self.now in
    let k = c.in-Runs.running in
    let new = c.give_input.new.self in
    let told = c.give_input.ensures in
    let runs = runs_of old course k c.in-Runs.is at in
    runs_at old course c.args.bytes.now k new new.calls.inputs c.in-Runs.is told.rest
    at (told.runs old.accepted old.nvm course.world runs)

pub returns-in-Saves-clause-goes : goal.returns-in-Saves-clause-goes
returns-in-Saves-clause-goes c = λ course at.
    let old = c.args.self.now in
    let k = c.in-Saves.checkpoint in
    let new = c.give_input-in-Saves.new.self in
    let told = c.give_input-in-Saves.ensures in
    let saves = saves_of old course k c.in-Saves.is at in
    saves_go old course c.args.bytes.now k new new.running.calls.inputs c.in-Saves.is told.rest
    c.give_input-in-Saves.result c.requires.up
    (given_is course.world c.give_input-in-Saves.result (told.full old.accepted old.nvm course.world saves))

pub returns-in-Saves-clause-is_at : goal.returns-in-Saves-clause-is_at
returns-in-Saves-clause-is_at c = λ course at.
    let old = c.args.self.now in
    let k = c.in-Saves.checkpoint in
    let new = c.give_input-in-Saves.new.self in
    let told = c.give_input-in-Saves.ensures in
    let saves = saves_of old course k c.in-Saves.is at in
    saves_at old course c.args.bytes.now k new new.running.calls.inputs c.in-Saves.is told.rest at
    (told.is_of old.accepted old.nvm course.world saves)
