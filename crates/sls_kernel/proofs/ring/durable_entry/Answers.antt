use Rattle.std.proofs.Common.{◌≡◌, ℕ, ◌+◌, ◌*◌, ◌%◌, ◌≤◌, arith}
use Rattle.pmem_model.specs.Memory.{word_at}
use Rattle.sls_kernel.specs.Words.{frame_place}
use Rattle.sls_kernel.proofs.Entries.{bytes_more, same_entry}
use Rattle.sls_kernel.proofs.ring.durable_entry.Goals as goal

pub loop-k-preserved : goal.loop-k-preserved
loop-k-preserved c = rw c.push.ensures.items (bytes_more _ _ _ _ c.loop-k.invariant c.durable_byte.ensures)

pub returns : goal.returns
returns c = λ entry is.
    let words : ℕ → ℕ = λ i. (word_at c.args.nvm.now (frame_place c.args.frame + i)).durable in
    let most : words (8 * (c.args.number % 64)) ≤ 56 = omega (arith, is.size, is.most) in
    let whole : c.loop-k.k ≡ words (8 * (c.args.number % 64)) = omega (arith, c.durable_length-k-end.ensures.whole most) in
    same_entry words c.args.number c.loop-k.k c.loop-k.entry.items entry is whole c.loop-k.invariant
