use Rattle.std.proofs.Common.{arith}
use Rattle.kobj_codec.proofs.RecordWords.{begun_first, begun_more, begun_record, same_record}
use Rattle.kobj_codec.proofs.writing.encode.Goals as goal

pub loop-i-init : goal.loop-i-init
loop-i-init c = begun_first _ c.args.obj.now _ c.empty_words-words.ensures c.head_word.ensures

pub loop-i-preserved : goal.loop-i-preserved
loop-i-preserved c = begun_more c.loop-i.words c.args.obj.now c.loop-i.i _ (omega (arith, c.loop-i-test.true)) c.loop-i.invariant c.word_behind.ensures

pub returns-clause-record : goal.returns-clause-record
returns-clause-record c = begun_record c.loop-i.words c.args.obj.now c.loop-i.i (omega (arith, c.loop-i-test.false)) c.loop-i.invariant

pub returns-clause-only : goal.returns-clause-only
returns-clause-only c = λ words size r. same_record words c.loop-i.words c.args.obj.now size c.loop-i.invariant.size r (returns-clause-record c)
