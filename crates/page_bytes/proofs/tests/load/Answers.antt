use Rattle.std.proofs.Common.{arith, ◌+◌, ◌*◌}
use Rattle.page_bytes.proofs.tests.load.Goals as goal

pub bytes_at-requires-clause-home : goal.bytes_at-requires-clause-home
bytes_at-requires-clause-home c content k below page seen inside = c.requires.home (1 + 2 * page) (omega (arith, inside))
