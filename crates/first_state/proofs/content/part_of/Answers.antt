use Rattle.std.proofs.Common.{◌∙◌, ◌*◌, ℕ, min, length, ap}
use Rattle.first_state.proofs.Parts.{part_cut}
use Rattle.first_state.proofs.content.part_of.Goals as goal

pub returns : goal.returns
returns c = part_cut c.args.content.now c.args.j c.min-from.result c.min-end.result
    (c.min-from.ensures ∙ ap (λ (j : ℕ). min (length c.args.content.now) (4096 * j)) c.from.ensures) c.min-end.ensures
