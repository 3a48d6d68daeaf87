use Rattle.std.proofs.Common.{◌∙◌, arith}
use Rattle.page_bytes.proofs.Words.{byte_of_word}
use Rattle.page_bytes.proofs.store.word_with.Goals as goal

pub returns : goal.returns
returns c k inside =
    let l = c.loop-k in
    byte_of_word l.merged c.from_le_bytes.result l.invariant.size l.invariant.below c.from_le_bytes.ensures k ∙ l.invariant.filled k (omega arith)
