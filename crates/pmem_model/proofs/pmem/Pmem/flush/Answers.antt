use Rattle.pmem_model.proofs.PlaceLemmas.{home_bank}
use Rattle.pmem_model.proofs.pmem.Pmem.flush.Goals as goal

pub flush-requires-clause-home : goal.flush-requires-clause-home
flush-requires-clause-home c = home_bank c.self.inside.banks.items c.args.at c.self.invariant.table (rw (← c.self.view_is) at c.requires.home)
