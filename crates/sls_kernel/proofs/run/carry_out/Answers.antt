use Rattle.sls_kernel.proofs.run.carry_out.Goals as goal

pub returns-in-Load-clause-state : goal.returns-in-Load-clause-state
returns-in-Load-clause-state c s count tells aligned runs = rw c.in-Load.is (c.load.ensures c.args.put.now s count runs)

pub returns-in-Store-clause-state : goal.returns-in-Store-clause-state
returns-in-Store-clause-state c s count tells aligned runs = rw c.in-Store.is (c.store.ensures.state c.args.put.now s count runs)
