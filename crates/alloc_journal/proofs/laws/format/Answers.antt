use Rattle.std.proofs.Common.{◌∙◌, sym}
use Rattle.alloc_journal.proofs.ShowLemmas.{numbers_same}
use Rattle.alloc_journal.proofs.laws.format.Goals as goal

pub returns-clause-same : goal.returns-clause-same
returns-clause-same c = numbers_same

pub returns-clause-only : goal.returns-clause-only
returns-clause-only c = λ words v a b h k n inside. sym (h.each n inside) ∙ k.each n inside
