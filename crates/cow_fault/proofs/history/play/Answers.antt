use Rattle.std.proofs.Common.{arith, subst, sym}
use Rattle.pmem_model.specs.Memory.{Memory, word_at}
use Rattle.page_store.specs.Known.{Open}
use Rattle.page_store.specs.Shows.{PagesShow}
use Rattle.page_store.specs.declared.store.PageStore.{PageStore}
use Rattle.cow_fault.proofs.Places.{after_next}
use Rattle.cow_fault.proofs.history.play.Goals as goal

pub returns-then-not-happen-clause-shows : goal.returns-then-not-happen-clause-shows
returns-then-not-happen-clause-shows c = λ saved now h.
    let (next, after, shown) = c.loop-event.invariant.shows saved now h in
    let same = c.happen.ensures.same c.if-not-happen.true in (
      next,
      rw c.loop-event.invariant.count after,
      subst (λ (p : PageStore). PagesShow p (word_at c.happen.new.nvm) c.args.version saved next Open) (sym same.0)
          (subst (λ (m : Memory). PagesShow c.loop-event.pages (word_at m) c.args.version saved next Open) (sym same.1) shown),
    )

pub loop-event-preserved : goal.loop-event-preserved
loop-event-preserved c = record {
  home = c.happen.ensures.home;
  count = omega (arith, c.loop-event.invariant.count);
  shows = λ saved now h.
      let (before, so_far, shown) = c.loop-event.invariant.shows saved now h in
      let (next, after, then_shown) = c.happen.ensures.shows c.if-not-happen.false saved before shown in
      (next, after_next c.args.events.now c.loop-event.event-index saved now before next so_far after, then_shown);
}

pub returns-clause-shows : goal.returns-clause-shows
returns-clause-shows c = λ saved now h.
    let (next, after, shown) = c.loop-event.invariant.shows saved now h in (next, rw c.loop-event.invariant.count after, shown)
