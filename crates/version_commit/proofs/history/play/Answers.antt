use Rattle.pmem_model.specs.Memory.{word_at}
use Rattle.version_commit.specs.declared.history.Event.TheVariants.{Step}
use Rattle.version_commit.proofs.Played.{plays_next}
use Rattle.version_commit.proofs.history.play.Goals as goal

pub loop-event-preserved : goal.loop-event-preserved
loop-event-preserved c =
    let l = c.loop-event in
    record {
      home = c.happen.ensures.home;
      plays = plays_next c.args.events.now l.event-index c.args.version c.args.committer.now.version l.committer.version
          c.happen.new.committer.version (word_at c.args.nvm.now) (word_at l.nvm) (word_at c.happen.new.nvm) Step
          c.loop-event-test.true l.invariant.plays c.happen.ensures.happens;
      between = λ v h. c.happen.ensures.between v (l.invariant.between v h);
    }
