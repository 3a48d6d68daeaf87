use Rattle.kobj_codec.proofs.Only.{record_only}
use Rattle.kobj_codec.proofs.laws.one_object.Goals as goal

pub returns : goal.returns
returns c = λ words a b h k r s. record_only h k r s
