use Rattle.std.proofs.Common.{◌≡◌, ◌+◌, drop, sum_by}
use Rattle.plain_model.specs.Initial as plain
use Rattle.first_state.proofs.objects.program_pages.Given as goal

abbrev pub invariant-loop-spec : goal.invariant-loop-spec
invariant-loop-spec l = l.pages + sum_by plain.pages_taken (drop l.spec-index l.program.regions.items) ≡ plain.program_pages l.program
