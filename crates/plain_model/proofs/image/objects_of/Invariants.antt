use Rattle.std.proofs.Common.{◌≡◌, ◌*◌, ◌≤◌, take, sum_by}
use Rattle.plain_model.specs.Initial as plain
use Rattle.plain_model.proofs.image.objects_of.Given as goal

abbrev pub invariant-loop-program : goal.invariant-loop-program
invariant-loop-program l = (l.objects ≡ sum_by plain.program_size (take l.program-index l.programs)) × (l.objects ≤ 255 * l.program-index)
