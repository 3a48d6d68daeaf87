use Rattle.sls_base.proofs.RightsLemmas.{has_by_bits}
use Rattle.sls_base.proofs.rights.has_rights.Goals as goal

pub returns-clause-by_bits : goal.returns-clause-by_bits
returns-clause-by_bits c = has_by_bits c.args.held c.args.wanted
