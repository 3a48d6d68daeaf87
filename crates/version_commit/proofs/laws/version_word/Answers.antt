use Rattle.version_commit.proofs.Places.{owner_version}
use Rattle.sls_base.specs.declared.limits.TheConstants.{VERSION_AT}
use Rattle.version_commit.proofs.OnWays.{way_calm, way_left}
use Rattle.version_commit.proofs.laws.version_word.Goals as goal

pub returns-clause-calm : goal.returns-clause-calm
returns-clause-calm c = λ c' f g v w calm h. way_calm c'.version (f VERSION_AT) (g VERSION_AT) v w (calm.at VERSION_AT owner_version) h

pub returns-clause-left : goal.returns-clause-left
returns-clause-left c = λ c' f left v w l h. way_left c'.version (f VERSION_AT) v w (left VERSION_AT) (l.at VERSION_AT owner_version) h
