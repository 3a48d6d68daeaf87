use Rattle.alloc_journal.proofs.SetLemmas.{neither_at}
use Rattle.alloc_journal.proofs.bits.in_neither.Goals as goal

pub returns : goal.returns
returns c = λ n. neither_at c.args.a c.args.b n c.ranges.a.fits c.ranges.b.fits
