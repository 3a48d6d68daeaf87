use Rattle.pmem_model.specs.Memory.{AllHome}
use Rattle.cow_fault.proofs.tests.a_cut_after_each_step_keeps_a_protected_pages_content.Given as goal

abbrev pub invariant-loop-step : goal.invariant-loop-step
invariant-loop-step g l = record { home : AllHome l.nvm }
