use Rattle.std.proofs.Common.{arith}
use Rattle.sls_kernel.proofs.Places.{table_room}
use Rattle.sls_kernel.proofs.memory.store_word.Goals as goal

pub burst-requires-clause-inside : goal.burst-requires-clause-inside
burst-requires-clause-inside c = table_room _ _ c.requires.table (omega arith)
