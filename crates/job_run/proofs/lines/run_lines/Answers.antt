use Rattle.std.proofs.Common.{◌+◌, drop, slice_index_or, ◌∙◌, arith}
use Rattle.job_script.specs.declared.line.Line.TheVariants.{Cores}
use Rattle.job_run.proofs.Writing.{lines_go_on, lines_break, all_ran, at_line, at_end}
use Rattle.job_run.proofs.lines.run_lines.Goals as goal

pub returns-in-Err-clause-broke : goal.returns-in-Err-clause-broke
returns-in-Err-clause-broke g c = λ w s.
    let lines = c.args.lines.now in
    let i = c.loop-line.line-index in
    let t = at_line _ _ _ lines i _ _ c.loop-line-test.true (c.loop-line.invariant.running w s) in
    lines_break c.in-Err.broken.cause _ _ _ c.in-Err.broken.nvm c.loop-line.machine (slice_index_or lines i (Cores 0)) (drop (i + 1) lines) _ _ t (c.in-Err.ensures.broke t.now t.shows)

pub loop-line-preserved : goal.loop-line-preserved
loop-line-preserved g c = record {
  up = c.in-Ok.ensures.up;
  running = λ w s.
      let lines = c.args.lines.now in
      let i = c.loop-line.line-index in
      let t = at_line _ _ _ lines i _ _ c.loop-line-test.true (c.loop-line.invariant.running w s) in
      lines_go_on _ _ _ c.loop-line.machine c.in-Ok.next (slice_index_or lines i (Cores 0)) (drop (i + 1) lines) _ _ t (c.in-Ok.ensures.ran t.now t.shows);
  told = c.in-Ok.ensures.told ∙ c.loop-line.invariant.told;
  falls = omega (arith, c.in-Ok.ensures.never_falls, c.loop-line.invariant.falls);
  wants = c.in-Ok.ensures.no_want ∙ c.loop-line.invariant.wants;
}

pub returns-clause-ran : goal.returns-clause-ran
returns-clause-ran g c = λ w s.
    all_ran _ _ c.loop-line.machine _ _ (at_end _ _ c.loop-line.machine c.args.lines.now c.loop-line.line-index _ _ c.loop-line-test.false (c.loop-line.invariant.running w s))
