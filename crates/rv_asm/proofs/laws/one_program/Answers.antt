use Rattle.rv_asm.proofs.Round.{one_program}
use Rattle.rv_asm.proofs.laws.one_program.Goals as goal

pub returns : goal.returns
returns c = one_program
