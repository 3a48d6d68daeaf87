use Rattle.std.proofs.Common.{◌≡◌, ◌+◌, drop, sum_by}
use Rattle.sls_base.specs.declared.fixed.TheConstants.{FIRST_PROGRAM_PAGE}
use Rattle.plain_model.specs.Initial as plain
use Rattle.first_state.proofs.objects.pages_in_use.Given as goal

abbrev pub invariant-loop-program : goal.invariant-loop-program
invariant-loop-program l =
    l.pages + sum_by plain.program_pages (drop l.program-index l.image.programs.items) ≡ FIRST_PROGRAM_PAGE + sum_by plain.program_pages l.image.programs.items
