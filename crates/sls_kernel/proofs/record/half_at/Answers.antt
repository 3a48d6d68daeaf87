use Rattle.sls_kernel.proofs.Records.{low_half}
use Rattle.sls_kernel.proofs.record.half_at.Goals as goal

pub returns-then-j-eq0 : goal.returns-then-j-eq0
returns-then-j-eq0 c = rw c.read-word.ensures (low_half _ c.args.j c.if-j-eq0.true)
