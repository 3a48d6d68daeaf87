use Rattle.pmem_model.specs.PlaceLaws.{home_of}
use Rattle.object_root_tests.proofs.tests.values.Goals as goal

pub read-requires-clause-home : goal.read-requires-clause-home
read-requires-clause-home c = home_of c.args.nvm.now c.args.at c.requires.home c.requires.in_memory

pub durable-requires-clause-home : goal.durable-requires-clause-home
durable-requires-clause-home c = home_of c.args.nvm.now c.args.at c.requires.home c.requires.in_memory
