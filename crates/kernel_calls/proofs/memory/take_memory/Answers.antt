use Rattle.std.proofs.Common.{◌≡◌, ◌∙◌, sym, ap, arith, List, ℕ}
use Rattle.std.specs.Prelude.{◌||◌, take}
use Rattle.call_readings.specs.NumberSets.{uses_page}
use Rattle.kernel_calls.specs.Pages.{free_in, is_among}
use Rattle.kernel_calls.proofs.Taken.{none_taken, one_taken, all_taken, few_taken}
use Rattle.kernel_calls.proofs.memory.take_memory.Goals as goal

pub loop-init : goal.loop-init
loop-init c = none_taken c.args.numbers.now c.new-memory.result c.new-memory.ensures

pub loop-preserved : goal.loop-preserved
loop-preserved c =
    one_taken c.args.numbers.now c.loop.numbers c.take_page.new.self c.loop.memory _ c.loop.counter c.in-Some.page c.loop.invariant (sym c.in-Some.ensures.first) c.take_page.ensures.pages c.take_page.ensures.objects c.push.ensures.items

pub returns-in_default-clause-numbers : goal.returns-in_default-clause-numbers
returns-in_default-clause-numbers c = few_taken c.args.numbers.now c.loop.numbers c.loop.memory c.loop.counter c.args.count c.loop.invariant (omega arith) (sym c.in_default.ensures.first)

pub returns-in_default-clause-used : goal.returns-in_default-clause-used
returns-in_default-clause-used c page =
    c.loop.invariant.used page ∙ ap (λ (l : List ℕ). uses_page c.args.numbers.now page || is_among l page) (returns-in_default-clause-numbers c)

pub returns-clause-numbers : goal.returns-clause-numbers
returns-clause-numbers c =
    let whole : ◌≡◌ {A = ℕ} c.loop.counter c.args.count = omega arith in
    all_taken c.args.numbers.now c.loop.numbers c.loop.memory c.loop.counter c.loop.invariant ∙ ap (λ (n : ℕ). take n (free_in c.args.numbers.now)) whole

pub returns-clause-used : goal.returns-clause-used
returns-clause-used c page =
    c.loop.invariant.used page ∙ ap (λ (l : List ℕ). uses_page c.args.numbers.now page || is_among l page) (returns-clause-numbers c)
