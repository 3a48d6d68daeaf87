use Rattle.std.proofs.Common.{ℕ, Option, ◌≡◌}
use Rattle.pmem_model.specs.Memory.{word_at, AllHome}
use Rattle.page_store.specs.Slots.{durable_words}
use Rattle.page_store.specs.Format.{PagesStand}
use Rattle.page_store.specs.Back.{RecoveryShows}
use Rattle.page_store.proofs.history.cut_recovery.Given as goal

abbrev pub invariant-loop-done : goal.invariant-loop-done
invariant-loop-done l = record {
  cuts : l.nvm.cuts ≡ l.fn.nvm.cuts;
  home : AllHome l.nvm;
  shows : (saved : ℕ → Option (ℕ → ℕ)) → PagesStand (durable_words (word_at l.fn.nvm)) l.version saved
      → RecoveryShows l.recovery (word_at l.nvm) l.version saved;
}
