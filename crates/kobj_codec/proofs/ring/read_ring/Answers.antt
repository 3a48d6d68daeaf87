use Rattle.std.proofs.Common.{◌∙◌, ◌==◌, ℕ, List, ap, arith, slice_index}
use Rattle.kobj_codec.proofs.Heads.{ring_head}
use Rattle.kobj_codec.proofs.Parts.{same_ring}
use Rattle.kobj_codec.proofs.ring.read_ring.Goals as goal

pub returns : goal.returns
returns c = λ r i h.
    let bytes = c.to_le_bytes.ensures in
    let told = ring_head r i h in
    let page = h.behind 1 (omega arith) in
    let small = i.page in
    same_ring
    (ap (λ (bs : List ℕ). slice_index bs 1) bytes ∙ told.channel)
    (ap (λ (bs : List ℕ). slice_index bs 2 == 1) bytes ∙ told.fresh)
    (h.behind 0 (omega arith))
    (omega (arith, c.bits.ensures, page, small))
