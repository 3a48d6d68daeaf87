use Rattle.std.proofs.Common.{inl, refl}
use Rattle.pmem_model.specs.Memory.{word_at}
use Rattle.alloc_journal.specs.declared.history.Event.TheVariants.{TakeObject}
use Rattle.alloc_journal.proofs.Played.{plays_next}
use Rattle.alloc_journal.proofs.ShowLemmas.{numbers_stand}
use Rattle.alloc_journal.proofs.history.play.Goals as goal

pub loop-event-preserved : goal.loop-event-preserved
loop-event-preserved c =
    let l = c.loop-event in
    record {
      home = c.happen.ensures.home;
      plays = plays_next c.args.events.now l.event-index c.args.numbers.now l.numbers c.happen.new.numbers
          (word_at c.args.nvm.now) (word_at l.nvm) (word_at c.happen.new.nvm) TakeObject
          c.loop-event-test.true l.invariant.plays c.happen.ensures.happens;
      shows = λ v saved h. c.happen.ensures.shows v saved (l.invariant.shows v saved h);
    }

pub returns-clause-stands : goal.returns-clause-stands
returns-clause-stands c = λ v saved h.
    let f = word_at c.loop-event.nvm in
    numbers_stand c.loop-event.numbers.work f (λ i. (f i).durable) v saved (record { at = λ i own. inl refl })
    (c.loop-event.invariant.shows v saved h)
