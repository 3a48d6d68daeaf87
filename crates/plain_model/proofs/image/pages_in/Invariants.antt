use Rattle.std.proofs.Common.{◌≡◌, ◌*◌, ◌≤◌, take, sum_by}
use Rattle.plain_model.specs.Initial as plain
use Rattle.plain_model.proofs.image.pages_in.Given as goal

abbrev pub invariant-loop-spec : goal.invariant-loop-spec
invariant-loop-spec l = (l.pages ≡ sum_by plain.pages_taken (take l.spec-index l.specs)) × (l.pages ≤ 255 * l.spec-index)
