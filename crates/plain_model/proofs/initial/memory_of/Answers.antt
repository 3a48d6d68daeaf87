use Rattle.std.proofs.Common.{ℕ, List, ◌∙◌, ap, map, arith}
use Rattle.plain_model.specs.Initial as plain
use Rattle.plain_state.specs.Slow.{page_of}
use Rattle.plain_model.proofs.SlowInitial.{mapped_more}
use Rattle.plain_model.proofs.initial.memory_of.Goals as goal

pub loop-j-preserved : goal.loop-j-preserved
loop-j-preserved c =
    let content = c.args.spec.now.content.items in
    ap (map page_of) c.in_ok-push.ensures.items
    ∙ mapped_more page_of (plain.page_of_content content c.args.k) c.loop-j.pages.items c.in_ok-page_of_content.field-0 0 c.loop-j.j c.loop-j.invariant
    (c.in_ok-page_of_content.ensures ∙ ap (λ (l : List ℕ). plain.page_of_content l c.args.k c.loop-j.j) c.as_slice.ensures.value ∙ ap (plain.page_of_content content c.args.k) (omega arith))
