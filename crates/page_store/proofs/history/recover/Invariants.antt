use Rattle.std.proofs.Common.{ℕ, ◌+◌, ◌≤◌, Option, ◌≡◌}
use Rattle.pmem_model.specs.Memory.{word_at, AllHome}
use Rattle.page_store.specs.declared.recovery.TheConstants.{RECOVERY_STEPS}
use Rattle.page_store.specs.Slots.{durable_words}
use Rattle.page_store.specs.Format.{PagesStand}
use Rattle.page_store.specs.Back.{RecoveryShows, steps_left}
use Rattle.page_store.proofs.history.recover.Given as goal

abbrev pub invariant-loop-done : goal.invariant-loop-done
invariant-loop-done l = record {
  cuts : l.nvm.cuts ≡ l.fn.nvm.cuts;
  home : AllHome l.nvm;
  left : steps_left l.recovery + l._done ≤ RECOVERY_STEPS;
  shows : (saved : ℕ → Option (ℕ → ℕ)) → PagesStand (durable_words (word_at l.fn.nvm)) l.version saved
      → RecoveryShows l.recovery (word_at l.nvm) l.version saved;
}
