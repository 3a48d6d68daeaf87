use Rattle.std.proofs.Common.{◌≡◌, ℕ, Option}
use Rattle.pmem_model.specs.Memory.{word_at, AllHome}
use Rattle.page_store.specs.Known.{Open}
use Rattle.page_store.specs.Shows.{PagesShow}
use Rattle.cow_fault.specs.Events.{AfterEvents}
use Rattle.cow_fault.proofs.history.play.Given as goal

abbrev pub invariant-loop-event : goal.invariant-loop-event
invariant-loop-event l = record {
  home : AllHome l.nvm;
  count : l.happened ≡ l.event-index;
  shows : (saved now : ℕ → Option (ℕ → ℕ)) → PagesShow l.fn.pages (word_at l.fn.nvm) l.version saved now Open
      → (next : ℕ → Option (ℕ → ℕ)) × AfterEvents l.events l.event-index saved now next
      × PagesShow l.pages (word_at l.nvm) l.version saved next Open;
}
