use Rattle.std.proofs.Common.{arith, refl}
use Rattle.std.proofs.lemmas.Grind.{common_steps}
use Rattle.pmem_model.proofs.KeptLemmas.{kept_touched}
use Rattle.pmem_model.proofs.bank.Bank.mark.Goals as goal

pub invariant_of-self : goal.invariant_of-self
invariant_of-self c =
    let b = c.self.inside in
    kept_touched b.cached.items b.durable.items b.marks.items _ _ b.touched _ c.args.at c.args.count
    c.self.invariant
    (grind (arith, common_steps))
    (grind (arith, common_steps))
    (λ i out. refl)
    (λ i out. grind (arith, common_steps, c.mark.ensures i))
    (λ part. grind (arith, common_steps, c.with_words-self-inside.ensures part))
