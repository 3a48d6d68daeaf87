use Rattle.version_commit.proofs.Places.{owner_version}
use Rattle.sls_base.specs.declared.limits.TheConstants.{VERSION_AT}
use Rattle.version_commit.proofs.Commits.{between_calm, between_left}
use Rattle.version_commit.proofs.laws.commit.Goals as goal

pub returns-clause-calm : goal.returns-clause-calm
returns-clause-calm c = λ c' f g v w calm h. between_calm c' f g v w (calm.at VERSION_AT owner_version) h

pub returns-clause-left : goal.returns-clause-left
returns-clause-left c = λ c' f left v w l h. between_left c' f left v w (l.at VERSION_AT owner_version) h
