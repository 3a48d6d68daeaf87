use Rattle.plain_laws.proofs.Tracked.{first_tracked, tracked_after, always_tracked}
use Rattle.plain_laws.proofs.Unchanged.{unchanged_same, fixed_in_both}
use Rattle.plain_laws.proofs.kept.changes_are_tracked.Goals as goal

pub returns-clause-first : goal.returns-clause-first
returns-clause-first c = first_tracked

pub returns-clause-kept : goal.returns-clause-kept
returns-clause-kept c = λ w label placed range forms names h. tracked_after w label (record { placed = placed; range = range; forms = forms; names = names }) h

pub returns-clause-always : goal.returns-clause-always
returns-clause-always c = always_tracked

pub returns-clause-both : goal.returns-clause-both
returns-clause-both c = unchanged_same

pub returns-clause-fixed : goal.returns-clause-fixed
returns-clause-fixed c = fixed_in_both
