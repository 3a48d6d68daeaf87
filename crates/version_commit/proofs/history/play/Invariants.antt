use Rattle.std.proofs.Common.{ℕ, take}
use Rattle.pmem_model.specs.Memory.{word_at, AllHome}
use Rattle.version_commit.specs.Shows.{IsBetween}
use Rattle.version_commit.specs.Events.{Plays}
use Rattle.version_commit.proofs.history.play.Given as goal

abbrev pub invariant-loop-event : goal.invariant-loop-event
invariant-loop-event l = record {
  home : AllHome l.nvm;
  plays : Plays (take l.event-index l.events) l.version l.fn.committer.version (word_at l.fn.nvm)
      l.committer.version (word_at l.nvm);
  between : (v : ℕ) → IsBetween l.fn.committer (word_at l.fn.nvm) v l.version → IsBetween l.committer (word_at l.nvm) v l.version;
}
