use Rattle.pmem_model.proofs.PartLemmas.{has-with_parts}
use Rattle.pmem_model.proofs.parts.with.Goals as goal

pub returns : goal.returns
returns c = λ part. has-with_parts c.args.parts c.args.first c.args.last part c.requires.order c.requires.range
