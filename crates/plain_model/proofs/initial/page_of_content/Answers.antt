use Rattle.std.proofs.Common.{ℕ, ◌+◌, ◌*◌, ◌∙◌, ap, arith, slice_index}
use Rattle.plain_model.proofs.SlowInitial.{page_of_bytes}
use Rattle.plain_model.proofs.initial.page_of_content.Goals as goal

pub returns : goal.returns
returns c =
    let content = c.args.content.now in
    page_of_bytes _ (c.args.k + c.args.j) 4096 (4096 * c.args.j) content c.loop-at.bytes.items (omega arith) (omega arith)
    (λ i h. c.loop-at.invariant.same i (omega arith) ∙ ap (λ (k : ℕ). slice_index content (4096 * k + i)) c.from-from.ensures)
