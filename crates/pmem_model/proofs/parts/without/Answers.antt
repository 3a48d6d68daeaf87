use Rattle.std.proofs.lemmas.Nat.{one_shl}
use Rattle.pmem_model.specs.Marks.{has-without_same, has-without_other}
use Rattle.pmem_model.proofs.parts.without.Goals as goal

pub returns-clause-gone : goal.returns-clause-gone
returns-clause-gone c = rw (one_shl c.args.part 64 c.requires.range) (has-without_same c.args.parts c.args.part c.requires.member)

pub returns-clause-others : goal.returns-clause-others
returns-clause-others c = λ other ne. rw (one_shl c.args.part 64 c.requires.range) (has-without_other c.args.parts c.args.part other c.requires.member ne)
