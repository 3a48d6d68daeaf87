use Rattle.pmem_layout.specs.Owners.{Version}
use Rattle.version_commit.proofs.Places.{owner_version}
use Rattle.sls_base.specs.declared.limits.TheConstants.{VERSION_AT}
use Rattle.version_commit.proofs.Steps.{one_owner}
use Rattle.version_commit.proofs.committer.Committer.commit_step.Goals as goal

pub returns-clause-rest : goal.returns-clause-rest
returns-clause-rest c = one_owner Version _ _ VERSION_AT owner_version c.go_on.ensures.others
