use Rattle.std.proofs.Common.{◌≡◌, length, map, ap, ◌∙◌, refl}
use Rattle.std.proofs.lemmas.List.{length-set}
use Rattle.std.proofs.Math.Seq.{map-set_same}
use Rattle.arrayvec.proofs.ArrayVecLemmas.{items-with_items}
use Rattle.mem_space.proofs.memory.Memory.set_fresh.Goals as goal

pub returns-clause-numbers : goal.returns-clause-numbers
returns-clause-numbers c =
    let pages = c.deref_mut.result.now in
    let shown : pages ≡ c.args.self.now.pages.items = c.deref_mut.ensures.value in
    ap (map (λ page. page.page)) (items-with_items c.args.self.now.pages _ (length-set pages c.args.index _ ∙ ap length shown))
    ∙ map-set_same (λ page. page.page) pages c.args.index _ _ refl
    ∙ ap (map (λ page. page.page)) shown
