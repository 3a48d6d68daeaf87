use Rattle.std.proofs.Common.{◌*◌, ◌<◌, inr, arith}
use Rattle.pmem_model.specs.Events.{flush_calm}
use Rattle.pmem_model.specs.Memory.{word_at}
use Rattle.pmem_model.specs.PlaceLaws.{inside_table}
use Rattle.sls_base.specs.declared.fixed.TheConstants.{LEADER}
use Rattle.object_root.proofs.memory.flush.Goals as goal

pub flush-requires-clause-inside : goal.flush-requires-clause-inside
flush-requires-clause-inside c = inside_table c.args.at (8 * c.args.lines) (omega arith) c.requires.in_table

pub returns-clause-calm : goal.returns-clause-calm
returns-clause-calm c = record {
  at = flush_calm (word_at c.args.nvm.now) (word_at c.flush.new.self) LEADER c.args.at
      (8 * c.args.lines) c.flush.ensures.words;
}

pub returns-clause-operation : goal.returns-clause-operation
returns-clause-operation c =
    let all = c.requires.in_table in let some = c.requires.some in
    let inside : c.args.at < 17920 = omega (arith, all, some) in
    inr (c.operations.ensures.flush LEADER c.args.at c.args.lines _ _
    (omega (arith, inside), inside_table c.args.at (8 * c.args.lines) inside all) c.flush.ensures.words)
