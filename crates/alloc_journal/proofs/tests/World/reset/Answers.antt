use Rattle.std.proofs.Common.{◌∙◌}
use Rattle.alloc_journal.proofs.tests.World.reset.Goals as goal

pub invariant_of-self : goal.invariant_of-self
invariant_of-self c = λ k lt.
    c.fence.ensures.homes k ∙ c.flush.ensures.homes k ∙ c.store-3.ensures.homes k ∙ c.store-2.ensures.homes k
    ∙ c.store.ensures.homes k ∙ c.self.invariant k lt
