use Rattle.pmem_model.specs.PlaceLaws.{home_of}
use Rattle.sls_run_tests.proofs.machines.durable.Goals as goal

pub durable-requires-clause-home : goal.durable-requires-clause-home
durable-requires-clause-home c = home_of c.args.nvm.now c.args.at c.requires.home c.requires.range
