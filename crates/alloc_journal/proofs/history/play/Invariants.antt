use Rattle.std.proofs.Common.{ℕ, Bool, take}
use Rattle.pmem_model.specs.Memory.{word_at, AllHome}
use Rattle.alloc_journal.specs.Shows.{NumbersShow}
use Rattle.alloc_journal.specs.Events.{Plays}
use Rattle.alloc_journal.proofs.history.play.Given as goal

abbrev pub invariant-loop-event : goal.invariant-loop-event
invariant-loop-event l = record {
  home : AllHome l.nvm;
  plays : Plays (take l.event-index l.events) l.fn.numbers (word_at l.fn.nvm) l.numbers (word_at l.nvm);
  shows : (v : ℕ) (saved : ℕ → Bool) → NumbersShow l.fn.numbers.work (word_at l.fn.nvm) v saved
      → NumbersShow l.numbers.work (word_at l.nvm) v saved;
}
