use Rattle.std.proofs.Common.{arith}
use Rattle.job_run.proofs.Codes.{code_length}
use Rattle.job_run.proofs.code.image_of_lines.Goals as goal

pub image_of-requires : goal.image_of-requires
image_of-requires c = rw c.in_ok-content.ensures (omega (arith, code_length))
