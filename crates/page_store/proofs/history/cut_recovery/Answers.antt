use Rattle.std.proofs.Common.{◌∙◌}
use Rattle.pmem_model.specs.Memory.{word_at}
use Rattle.pmem_model.specs.Events.{cut_left}
use Rattle.pmem_layout.specs.Owners.{Pages}
use Rattle.pmem_layout.specs.Rooms.{LeftIn}
use Rattle.page_store.specs.Slots.{durable_words}
use Rattle.page_store.proofs.history.cut_recovery.Goals as goal

pub loop-done-preserved : goal.loop-done-preserved
loop-done-preserved c = record {
  cuts = c.step.ensures.counts.cuts ∙ c.loop-done.invariant.cuts;
  home = c.step.ensures.home;
  shows = λ saved h. c.step.ensures.shows saved (c.loop-done.invariant.shows saved h);
}

pub returns-clause-stands : goal.returns-clause-stands
returns-clause-stands c = λ saved h.
    let left : LeftIn Pages (word_at c.loop-done.nvm) (durable_words (word_at c.cut.new.self)) =
    record { at = λ i own. cut_left (word_at c.loop-done.nvm) (word_at c.cut.new.self) c.cut.ensures.words i } in
    c.recovery.ensures.stands c.loop-done.recovery (word_at c.loop-done.nvm) (durable_words (word_at c.cut.new.self)) c.args.version saved left
    (c.loop-done.invariant.shows saved h)
