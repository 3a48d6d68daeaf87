use Rattle.plain_laws.proofs.FixedLabels.{first_fixed, stays_fixed, always_fixed}
use Rattle.plain_laws.proofs.fixed.fixed_objects_stay.Goals as goal

pub returns-clause-first : goal.returns-clause-first
returns-clause-first c = first_fixed

pub returns-clause-kept : goal.returns-clause-kept
returns-clause-kept c = stays_fixed

pub returns-clause-always : goal.returns-clause-always
returns-clause-always c = always_fixed
