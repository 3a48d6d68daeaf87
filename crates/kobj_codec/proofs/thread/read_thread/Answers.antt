use Rattle.std.proofs.Common.{◌∙◌, ℕ, List, ap, arith, slice_index}
use Rattle.kobj_codec.proofs.Told.{thread_told}
use Rattle.kobj_codec.proofs.Heads.{thread_head}
use Rattle.kobj_codec.proofs.Parts.{same_thread}
use Rattle.kobj_codec.proofs.thread.read_thread.Goals as goal

pub returns : goal.returns
returns c = λ t i r.
    let bytes = c.to_le_bytes.ensures in
    let told = thread_head t i r in
    same_thread
    (ap (λ (bs : List ℕ). slice_index bs 1) bytes ∙ told.group)
    (ap (λ (bs : List ℕ). slice_index bs 2) bytes ∙ told.space)
    (c.state_of.ensures t.state (ap (λ (bs : List ℕ). slice_index bs 3) bytes ∙ told.number) (ap (λ (bs : List ℕ). slice_index bs 4) bytes ∙ told.about_is))
    (c.half_at.ensures ∙ thread_told t i r 0 (omega arith))
    (c.read_registers.ensures t i r)
