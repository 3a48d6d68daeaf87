use Rattle.std.proofs.Common.{Ok, sym, ap, ◌∙◌, arith}
use Rattle.std.specs.Str.Lines.{lines}
use Rattle.job_script.proofs.Progress.{goes_on, skips, stops, done, not_done, verdict_is, verdict_long}
use Rattle.job_script.proofs.Verdicts.{job_text}
use Rattle.job_script.proofs.reading.read_job.Goals as goal
use Rattle.job_script.proofs.reading.read_job.Goals.{in-Some-said+in_ok-push, in_default-said}

pub returns-then-bytes-gt-TEXT_BYTES-clause-refused : goal.returns-then-bytes-gt-TEXT_BYTES-clause-refused
returns-then-bytes-gt-TEXT_BYTES-clause-refused c = verdict_long c.args.bytes.now c.if-bytes-gt-TEXT_BYTES.true

pub returns-in-Err-clause-refused : goal.returns-in-Err-clause-refused
returns-in-Err-clause-refused c =
    let i = c.loop-text in
    let so_far = rw c.in-Some.ensures.lines at i.invariant.read in
    verdict_is c.args.bytes.now _ (omega arith) (stops i.lines.items i.number i.section c.in-Some.text.now (lines c.in-Some.after.now) c.in-Err.cause _ (sym c.line_at.ensures ∙ c.in-Err.is) so_far)

pub loop-text-preserved : goal.loop-text-preserved
loop-text-preserved c =
    let i = c.loop-text in
    let so_far = rw c.in-Some.ensures.lines at i.invariant.read in
    let read = c.in-Ok.read in
    let at = sym c.line_at.ensures ∙ c.in-Ok.is in
    record {
      read = elim c.match-said.branch [ in-Some-said+in_ok-push w ↦ rw (w.lines-is, w.in_ok-push.ensures.items) (goes_on i.lines.items i.number i.section c.in-Some.text.now (lines c.in-Some.after.now) w.in-Some-said.line read.1 _ (at ∙ ap (λ said. Ok (said, read.1)) w.in-Some-said.is) so_far) | in_default-said w ↦ rw w.lines-is (skips i.lines.items i.number i.section c.in-Some.text.now (lines c.in-Some.after.now) read.1 _ (at ∙ ap (λ said. Ok (said, read.1)) w.in_default-said.is) so_far) ];
      number = omega (arith, c.in-Some.ensures.shorter);
    }

pub returns-in-Ended-clause-read : goal.returns-in-Ended-clause-read
returns-in-Ended-clause-read c =
    let i = c.loop-text in
    verdict_is c.args.bytes.now _ (omega arith) (done i.lines.items i.number _ (rw (c.in_default.ensures.lines, c.in-Ended.is) at i.invariant.read))

pub returns-in-Ended-clause-form : goal.returns-in-Ended-clause-form
returns-in-Ended-clause-form c = (job_text c.args.bytes.now c.loop-text.lines.items (returns-in-Ended-clause-read c)).job

pub returns-in_default-section : goal.returns-in_default-section
returns-in_default-section c =
    let i = c.loop-text in
    record {
      read = tt;
      form = tt;
      refused = verdict_is c.args.bytes.now _ (omega arith) (not_done i.lines.items i.number i.section _ c.in_default-section.not-Ended (rw c.in_default.ensures.lines at i.invariant.read));
    }
