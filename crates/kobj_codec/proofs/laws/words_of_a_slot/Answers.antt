use Rattle.std.proofs.Common.{◌+◌, ◌∙◌, arith}
use Rattle.kobj_codec.proofs.laws.words_of_a_slot.Goals as goal

pub returns : goal.returns
returns c = λ a b obj same r. record {
  head = same 0 (omega arith) ∙ r.head;
  behind = λ i lt. same (i + 1) lt ∙ r.behind i lt;
}
