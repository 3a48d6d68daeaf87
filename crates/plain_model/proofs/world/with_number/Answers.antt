use Rattle.std.proofs.Common.{ℕ, List, ap, sym, ◌∙◌}
use Rattle.plain_model.specs.SlowWorld.{is_in}
use Rattle.plain_model.proofs.SlowWorlds.{in_pushed, in_there}
use Rattle.plain_model.proofs.world.with_number.Goals as goal

pub returns-in_ok-push : goal.returns-in_ok-push
returns-in_ok-push c = λ n. in_pushed c.args.numbers.now.items _ c.args.number n c.in_ok-push.ensures.items

pub returns-else-not-has_number : goal.returns-else-not-has_number
returns-else-not-has_number c = λ n.
    in_there c.args.numbers.now.items c.args.number n (ap (λ (l : List ℕ). is_in l c.args.number) (sym c.as_slice.ensures.value) ∙ sym c.has_number.ensures ∙ c.if-not-has_number.false)
