use Rattle.std.proofs.Common.{◌≡◌, ◌∙◌, ap, arith}
use Rattle.std.specs.Prelude.{filter}
use Rattle.std.proofs.lemmas.List.{take_all}
use Rattle.plain_state.specs.Sweep.{is_reached}
use Rattle.plain_state.specs.SlowSweep.{has}
use Rattle.plain_state.proofs.SlowSweeps.{kept_alike}
use Rattle.plain_state.proofs.sweep.Reached.kept.Goals as goal

pub returns : goal.returns
returns c = λ s tells.
    let whole : c.loop-id.kept.items ≡ filter (has c.args.self.now) c.args.ids.now = c.loop-id.invariant ∙ ap (filter (has c.args.self.now)) (take_all c.loop-id.id-index c.args.ids.now c.loop-id-test.false) in
    whole ∙ kept_alike (has c.args.self.now) (is_reached s) c.args.ids.now (λ k below. tells _ (omega (arith, c.type_inv.ids k)))
