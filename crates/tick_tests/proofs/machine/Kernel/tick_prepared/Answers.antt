use Rattle.std.proofs.Common.{rules, ◌≡◌, true, subst}
use Rattle.std.specs.Prelude.{All}
use Rattle.plain_state.specs.Ticks.{tick}
use Rattle.call_readings.specs.Content.{is_page_home}
use Rattle.kernel_calls.specs.Needed.{IsFreshPage}
use Rattle.tick_tests.proofs.machine.Kernel.tick_prepared.Goals as goal

pub tick-requires-clause-prepared : goal.tick-requires-clause-prepared
tick-requires-clause-prepared g c w rest holds =
    let k = c.args.self.now in
    let are_home : c.are_home.result ≡ true = search rules in
    let are_stored : c.are_stored.result ≡ true = search rules in
    let home = subst (All (λ page. is_page_home k.nvm page ≡ true)) c.as_slice.ensures.value (c.are_home.ensures are_home) in
    let stored = subst (λ o. All (λ page. IsFreshPage o page → ⊥) c.as_slice-2.result.now) c.objects-2.ensures (c.are_stored.ensures are_stored) in
    c.need-need.ensures.prepared w rest holds home (subst (All (λ page. IsFreshPage k.calls.runtime.objects page → ⊥)) c.as_slice-2.ensures.value stored)

pub returns : goal.returns
returns g c =
    let held = c.requires in
    let after = c.tick.ensures.holds held.world held.rest held.holds in
    record { world = tick held.world c.args.core; rest = after.0; holds = after.1 }
