use Rattle.std.proofs.Common.{◌≡◌, ◌<◌, ◌∙◌, sym, ap, subst, rules, ◌+◌, ◌*◌, ◌^◌, ℕ}
use Rattle.plain_state.specs.Memory as memory
use Rattle.plain_state.specs.Slow.{state_of}
use Rattle.plain_state.proofs.SlowValues.{digit, no_digit, value_more}
use Rattle.plain_state.proofs.state.State.+value_of.Goals as goal

pub returns-in-Some-clause-value : goal.returns-in-Some-clause-value
returns-in-Some-clause-value t c =
    let s = state_of c.args.self.now in
    let higher = c.value_of-higher.result in
    let byte = c.from.result in
    let small : byte < 256 = search rules in
    let sum = digit c.args.count higher byte c.if-count-eq0.false c.requires.count c.value_of-higher.ensures.small small in
    let told : byte ≡ memory.byte_at s.objects c.in-Some.place = c.from.ensures ∙ c.byte_at.ensures in
    sum.0 ∙ ap (λ (n : ℕ). n + 2 ^ 8 * higher) told ∙ ap (λ (n : ℕ). memory.byte_at s.objects c.in-Some.place + 2 ^ 8 * n) c.value_of-higher.ensures.value
    ∙ sym (value_more s c.args.regions.now c.args.right c.args.at c.args.count c.in-Some.place c.if-count-eq0.false (sym c.place_of.ensures.place ∙ c.in-Some.is))

pub returns-in-Some-clause-small : goal.returns-in-Some-clause-small
returns-in-Some-clause-small t c =
    let small : c.from.result < 256 = search rules in
    let sum = digit c.args.count c.value_of-higher.result c.from.result c.if-count-eq0.false c.requires.count c.value_of-higher.ensures.small small in
    subst (λ (n : ℕ). n < 256 ^ c.args.count) (sym sum.0) sum.1

pub returns-in-None-clause-small : goal.returns-in-None-clause-small
returns-in-None-clause-small t c = no_digit c.args.count c.value_of-higher.result c.if-count-eq0.false c.requires.count c.value_of-higher.ensures.small
