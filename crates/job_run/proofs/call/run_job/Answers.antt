use Rattle.std.proofs.Common.{ℕ, List, IfSome, length, take, ◌≤◌, ◌≡◌, subst, sym}
use Rattle.std.specs.Io.KnownBytes.{IsAtEnd}
use Rattle.job_run.proofs.Texts.{leaves, takes_text}
use Rattle.job_run.proofs.Told.{tells, answers}
use Rattle.job_run.proofs.call.run_job.Goals as goal

pub returns-in-Ok-clause-run : goal.returns-in-Ok-clause-run
returns-in-Ok-clause-run g c = λ is. leaves (g.S.Source.left c.args.job.now) (g.S.Source.left c.read_to_end.new.source) (g.S.Source.ended c.read_to_end.new.source) c.deref.result.now _ _ _ _ _ _ _
    (subst (λ (text : List ℕ). IfSome (g.S.Source.left c.args.job.now) (λ all. text ≡ take 65537 all)) (sym c.deref.ensures.value) c.in-Ok.ensures.first)
    (subst (λ (text : List ℕ). length text ≤ 65536 → IsAtEnd (g.S.Source.left c.read_to_end.new.source) × g.S.Source.ended c.read_to_end.new.source) (sym c.deref.ensures.value) c.in-Ok.ensures.end)
    (c.run_text.ensures.run)

pub returns-in-Ok-clause-bad_job : goal.returns-in-Ok-clause-bad_job
returns-in-Ok-clause-bad_job g c =
    let left = g.S.Source.left c.args.job.now in
    let left_after = g.S.Source.left c.read_to_end.new.source in
    let source_ended = g.S.Source.ended c.read_to_end.new.source in
    let old = g.O.Sink.written c.args.out.now in
    let new = g.O.Sink.written c.run_text.new.out in
    let came = c.args.nvm in
    tells left left_after source_ended 0 0 old new came c.run_text.result.0 c.run_text.result.1 (leaves left left_after source_ended c.deref.result.now 0 0 old new came c.run_text.result.0 c.run_text.result.1
    (subst (λ (text : List ℕ). IfSome left (λ all. text ≡ take 65537 all)) (sym c.deref.ensures.value) c.in-Ok.ensures.first)
    (subst (λ (text : List ℕ). length text ≤ 65536 → IsAtEnd left_after × source_ended) (sym c.deref.ensures.value) c.in-Ok.ensures.end)
    c.run_text.ensures.run)

pub returns-in-Ok-clause-fault : goal.returns-in-Ok-clause-fault
returns-in-Ok-clause-fault g c = λ is.
    let left = g.S.Source.left c.args.job.now in
    let left_after = g.S.Source.left c.read_to_end.new.source in
    let source_ended = g.S.Source.ended c.read_to_end.new.source in
    let old = g.O.Sink.written c.args.out.now in
    let new = g.O.Sink.written c.run_text.new.out in
    let came = c.args.nvm in
    answers left left_after source_ended 0 0 old new came c.run_text.result.0 c.run_text.result.1 (leaves left left_after source_ended c.deref.result.now 0 0 old new came c.run_text.result.0 c.run_text.result.1
    (subst (λ (text : List ℕ). IfSome left (λ all. text ≡ take 65537 all)) (sym c.deref.ensures.value) c.in-Ok.ensures.first)
    (subst (λ (text : List ℕ). length text ≤ 65536 → IsAtEnd left_after × source_ended) (sym c.deref.ensures.value) c.in-Ok.ensures.end)
    c.run_text.ensures.run)

pub returns-in-Ok-clause-takes : goal.returns-in-Ok-clause-takes
returns-in-Ok-clause-takes g c =
    let t = takes_text (g.S.Source.left c.args.job.now) (g.S.Source.left c.read_to_end.new.source) c.in-Ok.ensures.told c.in-Ok.ensures.rest in
    (t.taken, t.first)

pub returns-in-Ok-clause-takes_at_most : goal.returns-in-Ok-clause-takes_at_most
returns-in-Ok-clause-takes_at_most g c = takes_text (g.S.Source.left c.args.job.now) (g.S.Source.left c.read_to_end.new.source) c.in-Ok.ensures.told c.in-Ok.ensures.rest
