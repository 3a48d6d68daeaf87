use Rattle.alloc_journal.proofs.SetLemmas.{one_at}
use Rattle.alloc_journal.proofs.bits.in_one.Goals as goal

pub returns : goal.returns
returns c = λ n. one_at c.args.a c.args.b n
