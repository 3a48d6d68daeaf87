use Rattle.std.proofs.Common.{◌∙◌, arith}
use Rattle.pmem_model.specs.Memory.{word_at}
use Rattle.sls_kernel.proofs.Outcomes.{called-put, called-other}
use Rattle.sls_kernel.proofs.run.call.Goals.{in-2+in-Ok, in-2+in-Err, in_default}
use Rattle.sls_kernel.proofs.run.call.Goals as goal

pub returns-clause-state : goal.returns-clause-state
returns-clause-state c s count tells runs =
    let t = c.args.thread.now in
    let answer = c.match-thread-offset68.answer in
    elim c.match-thread-offset68.branch [
      | in-2+in-Ok w ↦ rw (w.put-is, w.nvm-is) (called-put t c.set.new.thread w.put.new.counts (word_at w.put.new.nvm) count answer c.set.ensures s w.put.result (w.put.ensures.state s count tells runs) (rw w.in-Ok.is w.answer-is) (omega arith) runs.thread_is)
      | in-2+in-Err w ↦ rw (w.put-is, w.nvm-is) (called-put t c.set.new.thread w.put.new.counts (word_at w.put.new.nvm) count answer c.set.ensures s w.put.result (w.put.ensures.state s count tells runs) (rw w.in-Err.is (w.answer-is ∙ w.number_of.ensures)) (omega arith) runs.thread_is)
      | in_default w ↦ rw (w.put-is, w.nvm-is) (called-other t c.set.new.thread c.args.put.now (word_at c.args.nvm.now) count answer c.set.ensures s runs (w.answer-is ∙ w.number_of-answer.ensures) (λ e. omega arith) (λ e. omega arith))
    ]
