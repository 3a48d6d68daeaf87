use Rattle.pmem_model.specs.Memory.{AllHome}
use Rattle.version_commit.proofs.tests.drawn_events_commit_when_the_version_word_by_itself_does.Given as goal

abbrev pub invariant-loop-number : goal.invariant-loop-number
invariant-loop-number g l = record { home : AllHome l.nvm }
