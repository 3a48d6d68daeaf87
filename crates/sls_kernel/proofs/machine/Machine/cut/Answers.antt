use Rattle.sls_kernel.specs.Shows.{image_of}
use Rattle.sls_kernel.specs.Side.{mode}
use Rattle.sls_kernel.proofs.Cuts.{shows_off, first_cut, formats}
use Rattle.sls_kernel.proofs.machine.Machine.cut.Goals as goal

pub returns-clause-shows : goal.returns-clause-shows
returns-clause-shows c = λ w s. shows_off c.args.self c.cut.new.nvm w s c.cut.ensures.words c.cut.ensures.commits c.cut.ensures.cuts

pub returns-clause-formatted : goal.returns-clause-formatted
unfolding image_of
returns-clause-formatted c = λ w s. first_cut c.args.self c.cut.new.nvm w s c.cut.ensures.words

pub returns-clause-unformatted : goal.returns-clause-unformatted
unfolding mode
returns-clause-unformatted c = λ w s. formats c.args.self c.cut.new.nvm w s c.cut.ensures.words
