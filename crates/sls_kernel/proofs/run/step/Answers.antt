use Rattle.pmem_model.specs.Memory.{word_at}
use Rattle.sls_kernel.specs.Plain.{instruction}
use Rattle.sls_kernel.proofs.Outcomes.{sliced-stopped, sliced-more, sliced-last}
use Rattle.sls_kernel.proofs.run.step.Goals.{in-Some, in-None, in-None-2}
use Rattle.sls_kernel.proofs.run.step.Goals as goal

pub returns-clause-state : goal.returns-clause-state
returns-clause-state c s count tells most runs =
    let became = c.obey.ensures.state s count tells runs in
    let t = c.obey.new.thread in
    let p = c.obey.new.put in
    let f = word_at c.obey.new.nvm in
    elim c.match-obey.branch [
      | in-Some w ↦ rw w.thread-is (sliced-stopped t p f count s c.args.slice w.in-Some.cause (instruction count s) (rw w.in-Some.is at became))
      | in-None w ↦ rw w.thread-is (sliced-more t p f count s c.args.slice (instruction count s) w.if-slice-gt1.true most (rw w.in-None.is at became))
      | in-None-2 w ↦ rw w.thread-is (sliced-last t p f count s c.args.slice (instruction count s) w.if-slice-gt1.false (rw w.in-None-2.is at became))
    ]
