use Rattle.std.proofs.Common.{length, slice_index, inr, arith, ◌<◌}
use Rattle.pmem_model.specs.PlaceLaws.{inside_table}
use Rattle.sls_base.specs.declared.fixed.TheConstants.{LEADER}
use Rattle.object_root.proofs.memory.store.Goals as goal

pub burst-requires-clause-inside : goal.burst-requires-clause-inside
burst-requires-clause-inside c = inside_table c.args.at (length c.args.words.now) (omega arith) c.requires.in_table

pub returns-clause-operation : goal.returns-clause-operation
returns-clause-operation c =
    let all = c.requires.in_table in let some = c.requires.some in
    let inside : c.args.at < 17920 = omega (arith, all, some) in
    inr (c.operations.ensures.burst LEADER c.args.at (length c.args.words.now) (slice_index c.args.words.now) _ _ c.requires.most
    (omega (arith, inside), inside_table c.args.at (length c.args.words.now) inside all) c.burst.ensures.words)
