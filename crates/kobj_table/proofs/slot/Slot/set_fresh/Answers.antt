use Rattle.std.specs.Prelude.{List, Some}
use Rattle.std.proofs.Common.{ap}
use Rattle.plain_model.specs.Objects.{Memory, Page}
use Rattle.kobj_table.proofs.Fresh.{same_pages}
use Rattle.kobj_table.proofs.slot.Slot.set_fresh.Goals as goal

pub returns-in-Memory-clause-object : goal.returns-in-Memory-clause-object
returns-in-Memory-clause-object c content threads page is zeros =
    let page_is = rw c.in-Memory.is at is in
    rw c.in-Memory.is (ap (λ (pages : List Page). Some (Memory pages))
    (same_pages content c.in-Memory.memory c.set_fresh.new.self c.args.index c.args.fresh page c.set_fresh.ensures.marked page_is zeros))
