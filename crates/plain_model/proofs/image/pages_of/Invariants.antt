use Rattle.std.proofs.Common.{◌≡◌, ◌*◌, ◌≤◌, take, sum_by}
use Rattle.plain_model.specs.Initial as plain
use Rattle.plain_model.proofs.image.pages_of.Given as goal

abbrev pub invariant-loop-program : goal.invariant-loop-program
invariant-loop-program l = (l.pages ≡ sum_by plain.program_pages (take l.program-index l.programs)) × (l.pages ≤ 4080 * l.program-index)
