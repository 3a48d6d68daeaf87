use Rattle.pmem_model.proofs.pmem.Pmem.new.Goals as goal

pub returns-clause-words : goal.returns-clause-words
returns-clause-words c = λ i. rw (c.deref.ensures.value, c.in_ok-words.ensures.zero i) at (c.in_ok-nvm.ensures.words i)
