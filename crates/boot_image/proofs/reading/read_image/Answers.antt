use Rattle.std.proofs.Common.{arith}
use Rattle.boot_image.proofs.ImagesSaid.{result_said}
use Rattle.boot_image.proofs.reading.read_image.Goals as goal

pub returns-clause-read : goal.returns-clause-read
returns-clause-read c = result_said c.args.bytes.now c.image_of.result (λ i. omega (arith, c.type_inv.bytes i)) c.image_of.ensures.read
