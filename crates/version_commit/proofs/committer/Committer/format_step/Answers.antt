use Rattle.pmem_layout.specs.Owners.{Format}
use Rattle.version_commit.proofs.Places.{owner_format}
use Rattle.pmem_layout.specs.declared.places.TheConstants.{FORMAT_AT}
use Rattle.version_commit.proofs.Steps.{one_owner}
use Rattle.version_commit.proofs.committer.Committer.format_step.Goals as goal

pub returns-clause-rest : goal.returns-clause-rest
returns-clause-rest c = one_owner Format _ _ FORMAT_AT owner_format c.go_on.ensures.others
