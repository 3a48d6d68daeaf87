use Rattle.std.proofs.Common.{◌<◌, arith, inr, length, slice_index}
use Rattle.pmem_model.specs.PlaceLaws.{bank_of-table, offset_of-table, bank_size-table, inside_table}
use Rattle.sls_base.specs.declared.fixed.TheConstants.{LEADER}
use Rattle.alloc_journal.proofs.memory.store_words.Goals as goal

pub burst-requires-clause-inside : goal.burst-requires-clause-inside
burst-requires-clause-inside c =
    let all = c.requires.in_table in let some = c.requires.some in
    let inside : c.args.at < 17920 = omega (arith, all, some) in
    rw (bank_of-table c.args.at inside, offset_of-table c.args.at inside, bank_size-table) all

pub returns-clause-operation : goal.returns-clause-operation
returns-clause-operation c =
    let all = c.requires.in_table in let some = c.requires.some in
    let inside : c.args.at < 17920 = omega (arith, all, some) in
    inr (c.operations.ensures.burst LEADER c.args.at (length c.args.words.now) (slice_index c.args.words.now) _ _ c.requires.most
    (omega (arith, inside), inside_table c.args.at (length c.args.words.now) inside all) c.burst.ensures.words)
