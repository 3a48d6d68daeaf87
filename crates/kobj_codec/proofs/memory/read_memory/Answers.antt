use Rattle.std.proofs.Common.{◌<◌, ℕ, List, arith, ap, length, slice_index}
use Rattle.mem_space.specs.declared.memory.MemPage.{MemPage}
use Rattle.kobj_codec.proofs.Heads.{memory_head}
use Rattle.kobj_codec.proofs.ReadSoFar.{first_none, first_pushed, first_all}
use Rattle.kobj_codec.proofs.Memories.{PagesOf, memory_of, next_page}
use Rattle.kobj_codec.proofs.memory.read_memory.Goals as goal

pub loop-j-init : goal.loop-j-init
loop-j-init c = record { size = ap length c.new-pages.ensures; read = first_none c.new-pages.ensures }

pub loop-j-preserved : goal.loop-j-preserved
loop-j-preserved c = record {
  size = omega (arith, c.push.ensures.len, c.loop-j.invariant.size);
  read = first_pushed c.page_of.result c.loop-j.invariant.read c.push.ensures.items
      (λ pages w.
      let byte = ap (λ (bs : List ℕ). slice_index bs 1) c.to_le_bytes.ensures in
      let len = memory_head (memory_of pages) w.0 w.1 in
      let inside : c.loop-j.j < length pages = omega (arith, byte, len, c.from.ensures, c.min-count.ensures, c.loop-j-test.true) in
      next_page c.args.words.now pages c.loop-j.j c.short_at.result c.page_of.result w inside c.short_at.ensures c.page_of.ensures);
}

pub returns : goal.returns
returns c = λ m i r.
    let w : PagesOf c.args.words.now m.pages.items = (i, r) in
    let byte = ap (λ (bs : List ℕ). slice_index bs 1) c.to_le_bytes.ensures in
    let len = memory_head m i r in
    let most = i.most in
    let pages = first_all c.loop-j.invariant.read m.pages.items w (omega (arith, byte, len, c.from.ensures, c.min-count.ensures, most, c.loop-j-test.false)) in
    ap (λ (ps : List MemPage). memory_of ps) pages
