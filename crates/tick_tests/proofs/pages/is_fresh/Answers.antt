use Rattle.std.proofs.Common.{sym, ◌∙◌, ◌&&◌, rules, tests, nat_eq, Bool}
use Rattle.std.proofs.lemmas.Iterator.{YieldsList-from_slice}
use Rattle.std.proofs.lemmas.Iterator.Search.{any_from_yields_List}
use Rattle.mem_space.specs.declared.memory.MemPage.{MemPage}
use Rattle.tick_tests.proofs.pages.is_fresh.Goals as goal

pub returns-in-Some-Memory : goal.returns-in-Some-Memory
returns-in-Some-Memory c =
    let e = sym c.in-Some-Memory.ensures.some ∙ c.in-Some-Memory.field-0-is in
    let p : MemPage → Bool = λ q. nat_eq q.page c.args.page && q.fresh in
    rw e (any_from_yields_List p _ _ c.any.result c.any.ensures.ran (YieldsList-from_slice c.in-Some-Memory.memory.pages.items cc) (λ x b q k. search (rules, tests)))
