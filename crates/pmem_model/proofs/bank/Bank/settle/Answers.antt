use Rattle.std.proofs.Common.{◌≡◌, arith, length}
use Rattle.pmem_model.proofs.KeptLemmas.{kept_settled}
use Rattle.pmem_model.proofs.Writes.{whole_written}
use Rattle.pmem_model.proofs.bank.Bank.settle.Goals as goal

pub invariant_of-self : goal.invariant_of-self
invariant_of-self c =
    let b = c.self.inside in
    let durable = rw (c.deref.ensures.value, c.deref_mut.ensures.value, c.deref_mut-2.ensures.value) at c.settle.ensures.durable in
    let marks = rw c.deref_mut-2.ensures.value at c.settle.ensures.marks in
    let durable_len : length c.settle.new.durable ≡ length b.durable.items = cc in
    let marks_len : length c.settle.new.marks ≡ length b.marks.items = cc in
    rw (whole_written b.durable.len c.settle.new.durable b.durable.items durable_len (omega (arith, b.durable.ok.0)), whole_written b.marks.len c.settle.new.marks b.marks.items marks_len (omega (arith, b.marks.ok.0)))
    (kept_settled b.cached.items b.durable.items b.marks.items c.settle.new.durable c.settle.new.marks b.touched c.args.core c.args.first c.args.past
    c.self.invariant durable_len marks_len durable marks)
