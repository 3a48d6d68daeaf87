use Rattle.std.proofs.Common.{ℕ, ◌<◌, ◌≤◌, Option}
use Rattle.sls_base.specs.declared.limits.TheConstants.{PAGES}
use Rattle.pmem_model.specs.Memory.{word_at, AllHome}
use Rattle.pmem_layout.specs.Owners as owners
use Rattle.pmem_layout.specs.Rooms.{StoresOnlyIn}
use Rattle.page_store.specs.Stages.{stage_of, IsSettled, IsFlushed}
use Rattle.page_store.specs.Known.{Open}
use Rattle.page_store.specs.Shows.{PagesShow}
use Rattle.page_store.proofs.history.commit.Given as goal

abbrev pub invariant-loop-page : goal.invariant-loop-page
invariant-loop-page l = record { settled : (i : ℕ) → i < l.page → IsSettled (stage_of l.fn.pages i) }

abbrev pub invariant-loop-stored : goal.invariant-loop-stored
invariant-loop-stored l = record {
  home : AllHome l.nvm;
  flushed : (i : ℕ) → i < l.stored → IsFlushed (stage_of l.pages i);
  settled : (i : ℕ) → l.stored ≤ i → i < PAGES → IsSettled (stage_of l.pages i);
  rest : StoresOnlyIn owners.Pages (word_at l.fn.nvm) (word_at l.nvm);
  shows : (saved now : ℕ → Option (ℕ → ℕ)) → PagesShow l.fn.pages (word_at l.fn.nvm) l.version saved now Open
      → PagesShow l.pages (word_at l.nvm) l.version saved now Open;
}
