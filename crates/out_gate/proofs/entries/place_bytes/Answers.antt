use Rattle.std.proofs.Common.{◌∙◌, ◌-◌, ◌+◌, ◌++◌, ℕ, List, length, replicate, ap}
use borrow.Rule.Slice.PartMut.{put_mid}
use Rattle.out_gate.proofs.Places.{filled}
use Rattle.out_gate.proofs.entries.place_bytes.Goals as goal

pub returns : goal.returns
returns c =
    let entry = c.args.entry.now in
    let size = c.copy_from_slice.new.self in
    ap (λ (l : List ℕ). put_mid 8 (8 + length entry - 8) (size ++ replicate 56 0) l) c.copy_from_slice-2.ensures.after
    ∙ filled size entry c.copy_from_slice.ensures.len c.requires
    ∙ ap (λ (l : List ℕ). l ++ entry ++ replicate (56 - length entry) 0) (c.copy_from_slice.ensures.after ∙ c.to_le_bytes.ensures)
