use Rattle.std.proofs.Common.{◌≡◌, ◌∙◌, ◌+◌, ap, length, arith, [], refl}
use Rattle.std.proofs.lemmas.List.FromFn.{length-map-range_with_len}
use Rattle.first_state.specs.Filled.{region_page}
use Rattle.first_state.proofs.Lists.{behind_more}
use Rattle.first_state.proofs.Parts.{mem_page, page_made}
use Rattle.first_state.proofs.memories.memory_of.Goals as goal

pub push-requires : goal.push-requires
push-requires c =
    let count = ap length c.loop-j.invariant ∙ length-map-range_with_len (region_page c.args.spec.now c.args.k) 0 c.loop-j.j in
    (omega arith, omega arith)

pub loop-j-preserved : goal.loop-j-preserved
unfolding mem_page
loop-j-preserved c =
    let content = c.args.spec.now.content in
    let counted : c.len.result ≡ length content.items = omega (arith, c.len.ensures, content.ok.0) in
    behind_more (region_page c.args.spec.now c.args.k) [] c.loop-j.memory.pages.items c.push.new.self.items _ 0 c.loop-j.j (c.loop-j.j + 1) c.loop-j.invariant c.push.ensures.items
    (page_made c.args.spec.now c.args.k c.loop-j.j c.from.result c.len.result c.from-in-loop-j.result c.from.ensures counted c.from-in-loop-j.ensures) refl
