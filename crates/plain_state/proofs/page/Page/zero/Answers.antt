use Rattle.std.proofs.Common.{◌≡◌, replicate}
use Rattle.plain_state.proofs.SlowLists.{page_of_zeros}
use Rattle.plain_state.proofs.page.Page.zero.Goals as goal

pub returns : goal.returns
returns c =
    let zeros : c.in_ok-vec.field-0.items ≡ replicate 4096 0 = c.in_ok-vec.ensures.items_if_clones_equal (λ y h. h) in
    page_of_zeros c.args.number 4096 c.in_ok-vec.field-0.items zeros
