use Rattle.std.proofs.Common.{ℕ, ◌+◌, arith, ◌∙◌}
use Rattle.pmem_model.specs.Memory.{word_at}
use Rattle.sls_kernel.specs.Words.{frame_place}
use Rattle.sls_kernel.proofs.Records.{SaysRecord, half_said, put_said, same_thread}
use Rattle.sls_kernel.proofs.record.read_back.Goals as goal

pub returns : goal.returns
returns c = λ t put is fits said.
    let words : ℕ → ℕ = λ i. (word_at c.args.nvm.now (frame_place c.args.frame + i)).cached in
    let says : SaysRecord words t put = record { thread = is; word = said } in
    let status = c.status_of-status.ensures t.status is.status (c.read.ensures ∙ said 16 (omega arith)) in (
      same_thread t c.status_of-status.result c.halves_at-halves.result is (omega arith) (λ j h. c.halves_at-halves.ensures j h ∙ half_said words t put j says h) status,
      λ channel h. c.put_at.ensures channel h ∙ put_said words t put channel says h,
    )
