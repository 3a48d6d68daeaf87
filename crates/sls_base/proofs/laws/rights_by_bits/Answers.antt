use Rattle.sls_base.specs.declared.rights.TheConstants.{ALL_RIGHTS}
use Rattle.sls_base.proofs.RightsLemmas.{has_by_bits, wanted_most}
use Rattle.sls_base.proofs.laws.rights_by_bits.Goals as goal

pub returns-clause-by_bits : goal.returns-clause-by_bits
returns-clause-by_bits c = has_by_bits

pub returns-clause-beyond : goal.returns-clause-beyond
returns-clause-beyond c = λ held wanted most has. wanted_most held wanted ALL_RIGHTS most has
