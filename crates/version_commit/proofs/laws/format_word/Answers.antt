use Rattle.version_commit.proofs.Places.{owner_format}
use Rattle.pmem_layout.specs.declared.places.TheConstants.{FORMAT_AT}
use Rattle.version_commit.proofs.OnWays.{way_calm, way_left}
use Rattle.version_commit.proofs.laws.format_word.Goals as goal

pub returns-clause-calm : goal.returns-clause-calm
returns-clause-calm c = λ c' f g v w calm h. way_calm c'.format (f FORMAT_AT) (g FORMAT_AT) v w (calm.at FORMAT_AT owner_format) h

pub returns-clause-left : goal.returns-clause-left
returns-clause-left c = λ c' f left v w l h. way_left c'.format (f FORMAT_AT) v w (left FORMAT_AT) (l.at FORMAT_AT owner_format) h
