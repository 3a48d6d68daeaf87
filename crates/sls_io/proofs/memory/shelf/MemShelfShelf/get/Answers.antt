use Rattle.std.proofs.Common.{rules}
use Rattle.sls_io.proofs.ShelfLemmas.{found_missing, found_long, found_bytes}
use Rattle.sls_io.proofs.memory.shelf.MemShelfShelf.get.Goals as goal

pub returns-in-None-clause-found : goal.returns-in-None-clause-found
returns-in-None-clause-found c = found_missing c.args.self.now.names c.args.name.now c.args.limit c.in-None.ensures.value

pub returns-in-Some-clause-found : goal.returns-in-Some-clause-found
returns-in-Some-clause-found c = found_long c.args.self.now.names c.args.name.now c.args.limit c.in-Some.bytes.now c.in-Some.ensures.value (search rules)

pub returns-in_ok-from_slice-in-Some-2-clause-found : goal.returns-in_ok-from_slice-in-Some-2-clause-found
returns-in_ok-from_slice-in-Some-2-clause-found c = found_bytes c.args.self.now.names c.args.name.now c.args.limit c.in-Some-2.bytes.now c.in_ok-from_slice-in-Some-2.field-0 c.in-Some-2.ensures.value (search rules) (search rules)
