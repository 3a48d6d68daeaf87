use Rattle.std.proofs.Common.{arith, ◌∙◌}
use Rattle.pmem_model.specs.Memory.{word_at}
use Rattle.page_store.proofs.BackSteps.{fewer_left, none_left}
use Rattle.page_store.proofs.history.recover.Goals as goal

pub loop-done-preserved : goal.loop-done-preserved
loop-done-preserved c = record {
  cuts = c.step.ensures.counts.cuts ∙ c.loop-done.invariant.cuts;
  home = c.step.ensures.home;
  left = fewer_left c.loop-done.recovery c.step.new.self c.loop-done._done c.loop-done-test.true c.step.ensures.left c.step.ensures.stays
      c.loop-done.invariant.left;
  shows = λ saved h. c.step.ensures.shows saved (c.loop-done.invariant.shows saved h);
}

pub returns-clause-shows : goal.returns-clause-shows
returns-clause-shows c = λ saved h.
    let left = c.loop-done.invariant.left in
    let end = c.loop-done-test.false in
    c.finish.ensures.shows (word_at c.loop-done.nvm) c.args.version saved
    (none_left c.loop-done.recovery (omega (arith, left, end))) (c.loop-done.invariant.shows saved h)
