use Rattle.std.proofs.Common.{arith, ◌<◌, ◌*◌, inr}
use Rattle.pmem_model.specs.PlaceLaws.{bank_of-table, offset_of-table, bank_size-table, inside_table}
use Rattle.sls_base.specs.declared.fixed.TheConstants.{LEADER}
use Rattle.alloc_journal.proofs.memory.flush.Goals as goal

pub flush-requires-clause-inside : goal.flush-requires-clause-inside
flush-requires-clause-inside c =
    let all = c.requires.in_table in let some = c.requires.some in
    let inside : c.args.at < 17920 = omega (arith, all, some) in
    rw (bank_of-table c.args.at inside, offset_of-table c.args.at inside, bank_size-table) (omega (arith, all))

pub returns-clause-operation : goal.returns-clause-operation
returns-clause-operation c =
    let all = c.requires.in_table in let some = c.requires.some in
    let inside : c.args.at < 17920 = omega (arith, all, some) in
    inr (c.operations.ensures.flush LEADER c.args.at c.args.lines _ _
    (omega (arith, inside), inside_table c.args.at (8 * c.args.lines) inside all) c.flush.ensures.words)
