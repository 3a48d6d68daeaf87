use Rattle.std.specs.Prelude.{true}
use Rattle.std.proofs.Common.{inl, inr}
use Rattle.pmem_operations.proofs.laws.operations.Goals as goal

pub returns-clause-burst : goal.returns-clause-burst
returns-clause-burst c = λ core at count value f g most inside words.
    inl (record { at = at; count = count; value = value; most = most; inside = inside; words = words })

pub returns-clause-flush : goal.returns-clause-flush
returns-clause-flush c = λ core at lines f g inside words.
    inr (inl (record { at = at; lines = lines; inside = inside; words = words }))

pub returns-clause-fence : goal.returns-clause-fence
returns-clause-fence c = λ core f g words. inr (inr (record { reached = λ i. true; words = words }))
