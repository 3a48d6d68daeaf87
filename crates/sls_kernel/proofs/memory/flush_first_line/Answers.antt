use Rattle.std.proofs.Common.{arith}
use Rattle.sls_kernel.proofs.Places.{table_room}
use Rattle.sls_kernel.proofs.memory.flush_first_line.Goals as goal

pub flush-requires-clause-inside : goal.flush-requires-clause-inside
flush-requires-clause-inside c = table_room _ _ (omega arith) (omega arith)
