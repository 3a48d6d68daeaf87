use Rattle.pmem_model.specs.Memory.{AllHome}
use Rattle.cow_fault.proofs.tests.drawn_events_keep_whole_contents.Given as goal

abbrev pub invariant-loop-number : goal.invariant-loop-number
invariant-loop-number g l = record { home : AllHome l.nvm }
