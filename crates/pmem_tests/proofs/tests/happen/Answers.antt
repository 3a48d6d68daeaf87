use Rattle.std.proofs.Common.{arith}
use Rattle.pmem_model.specs.PlaceLaws.{inside_word, inside_line, home_of}
use Rattle.pmem_tests.proofs.tests.happen.Goals as goal

pub burst-requires-clause-inside : goal.burst-requires-clause-inside
burst-requires-clause-inside c = inside_word c.in-Store.at

pub burst-requires-clause-home : goal.burst-requires-clause-home
burst-requires-clause-home c = home_of c.args.nvm.now c.in-Store.at c.requires (omega arith)

pub flush-requires-clause-inside : goal.flush-requires-clause-inside
flush-requires-clause-inside c = inside_line c.in-Flush.at

pub flush-requires-clause-home : goal.flush-requires-clause-home
flush-requires-clause-home c = home_of c.args.nvm.now _ c.requires (omega arith)

pub write_back-requires-clause-home : goal.write_back-requires-clause-home
write_back-requires-clause-home c = home_of c.args.nvm.now c.in-WriteBack.at c.requires (omega arith)
