use Rattle.sls_kernel.specs.Plain.{cut}
use Rattle.sls_kernel.specs.Play.{side_of}
use Rattle.sls_kernel.proofs.Plays.{cut_goes}
use Rattle.sls_kernel.proofs.machine.Machine.step.Goals as goal

pub returns-in-Turn-clause-world : goal.returns-in-Turn-clause-world
returns-in-Turn-clause-world c = λ w s.
    let e = c.turn-did.ensures in
    let world = e.world w s in
    rw c.in-Turn.is ((record { doing = e.goes; turns = e.fewer; end = e.end }, world.0), world.1)

pub returns-in-WriteBack-clause-world : goal.returns-in-WriteBack-clause-world
returns-in-WriteBack-clause-world c = λ w s.
    let e = c.write_back-version.ensures in
    let world = e.world w s in
    rw c.in-WriteBack.is ((record { words = e.words; none = e.none; commit = e.commit; turns = e.left }, world.0), world.1)

pub returns-in-Ok-clause-world : goal.returns-in-Ok-clause-world
returns-in-Ok-clause-world c = λ w s.
    let cut_is = c.cut.ensures in
    let lit = c.in-Ok.ensures in
    rw c.in-Cut.is (
      cut_goes (side_of c.args.self) (side_of c.in-Ok.machine) c.cut.result.nvm lit.memory cut_is.words lit.mode lit.formats (cut_is.unformatted w s) lit.fewer,
      lit.shows (cut w) (cut_is.shows w s) (λ zero. search (cut_is.formatted w s zero, c.requires.made)),
    )
