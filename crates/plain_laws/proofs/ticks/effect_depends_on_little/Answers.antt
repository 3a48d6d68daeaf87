use Rattle.plain_laws.proofs.Alike.{alike_instruction}
use Rattle.plain_laws.proofs.ticks.effect_depends_on_little.Goals as goal

pub returns : goal.returns
returns c = alike_instruction
