use Rattle.std.proofs.Common.{◌≡◌, ◌+◌, ◌-◌, ◌*◌, take, drop, ◌∙◌, arith}
use Rattle.sls_kernel.proofs.Bytes.{byte_of-word, part_at, part_below}
use Rattle.sls_kernel.proofs.put.word_of.Goals as goal

pub returns : goal.returns
returns c j h =
    let a = c.args in
    let word = c.copy_from_slice.new.self in
    let part : word ≡ take (8 * a.i + 8 - 8 * a.i) (drop (8 * a.i) a.bytes.now) = c.copy_from_slice.ensures.after in
    byte_of-word word c.from_le_bytes.result c.copy_from_slice.ensures.len (λ i. rw part (part_below a.bytes.now (8 * a.i) (8 * a.i + 8 - 8 * a.i) 256 i (omega arith) c.fits-bytes)) c.from_le_bytes.ensures j
    ∙ rw part (part_at a.bytes.now (8 * a.i) (8 * a.i + 8 - 8 * a.i) j (omega arith))
