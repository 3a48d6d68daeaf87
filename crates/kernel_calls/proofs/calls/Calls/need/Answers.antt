use Rattle.std.proofs.Common.{◌≡◌, ◌<◌, ◌∙◌, sym, ap, subst, ℕ, [], inl, inr}
use Rattle.std.specs.Prelude.{true, Some}
use Rattle.std.proofs.lemmas.List.Elements.{All-cons, All-nil}
use Rattle.sls_base.specs.declared.limits.TheConstants.{PAGES}
use Rattle.plain_state.specs.States.{State}
use Rattle.plain_state.specs.Worlds.{World}
use Rattle.plain_state.specs.Ticks.{touches, must_store}
use Rattle.call_readings.specs.Content.{is_page_home}
use Rattle.call_readings.specs.declared.devices.Devices.{Devices}
use Rattle.call_readings.specs.Kernel.{IsOfWorld}
use Rattle.call_readings.specs.Need.{page_fetched, IsAtHome}
use Rattle.kernel_calls.specs.Needed.{IsFreshPage}
use Rattle.kernel_calls.proofs.Needed.{same_world, of_world, home_or_away, told_home, all_told, each_told, stores_touch}
use Rattle.kernel_calls.proofs.Touched.{touched_below, fetched_below}
use Rattle.kernel_calls.proofs.calls.Calls.need.Goals as goal

pub returns-clause-touched : goal.returns-clause-touched
returns-clause-touched c w rest page holds home =
    let k = c.args.self.now in
    let accepted = c.args.accepted.now in
    let m = c.args.nvm.now in
    let found = subst (λ (d : Devices). IsOfWorld k.runtime.objects k.runtime.numbers d m rest w) (sym c.devices-devices.ensures) (of_world k accepted m rest w holds) in
    c.need_of_core.ensures.touched w rest page found (subst (λ (s : State). IsAtHome m (page_fetched s c.args.core)) holds.now home)
    ∙ sym (ap (λ (v : World). touches v c.args.core page) (same_world k accepted m rest w holds))

pub returns-clause-stored : goal.returns-clause-stored
returns-clause-stored c w rest page holds home =
    let k = c.args.self.now in
    let accepted = c.args.accepted.now in
    let m = c.args.nvm.now in
    let found = subst (λ (d : Devices). IsOfWorld k.runtime.objects k.runtime.numbers d m rest w) (sym c.devices-devices.ensures) (of_world k accepted m rest w holds) in
    c.need_of_core.ensures.stored w rest page found (subst (λ (s : State). IsAtHome m (page_fetched s c.args.core)) holds.now home)
    ∙ sym (ap (λ (v : World). must_store v c.args.core page) (same_world k accepted m rest w holds))

pub returns-clause-away : goal.returns-clause-away
returns-clause-away c w rest from holds is away =
    c.need_of_core.ensures.away rest from (subst (λ (s : State). page_fetched s c.args.core ≡ Some from) holds.now is)
    (fetched_below w.now holds.sound.names.0 holds.sound.apart.0 c.args.core from is) away

pub returns-clause-in_range : goal.returns-clause-in_range
returns-clause-in_range c w rest holds =
    let touched = c.need_of_core.result.touched.items in
    elim (home_or_away c.args.nvm.now (page_fetched w.now c.args.core)) [
      | inl home ↦ each_told (λ (page : ℕ). page < PAGES) touched (λ page told. touched_below c.unrefused_call_meets_all.ensures.needs w holds.sound.names.0 holds.sound.apart.0 c.args.core page
          (sym (returns-clause-touched c w rest page holds home) ∙ told))
      | inr away ↦ rw (returns-clause-away c w rest away.0 holds away.1 away.2).0
          (All-cons (λ (page : ℕ). page < PAGES) away.0 [] (fetched_below w.now holds.sound.names.0 holds.sound.apart.0 c.args.core away.0 away.1) (All-nil (λ (page : ℕ). page < PAGES)))
    ]

pub returns-clause-among : goal.returns-clause-among
returns-clause-among c w rest holds =
    elim (home_or_away c.args.nvm.now (page_fetched w.now c.args.core)) [
      | inl home ↦ each_told _ c.need_of_core.result.stored.items (λ page told. returns-clause-touched c w rest page holds home
          ∙ stores_touch w c.args.core page (sym (returns-clause-stored c w rest page holds home) ∙ told))
      | inr away ↦ rw (returns-clause-away c w rest away.0 holds away.1 away.2).1 (All-nil _)
    ]

pub returns-clause-prepared : goal.returns-clause-prepared
returns-clause-prepared c w rest holds home stored =
    let at_home : IsAtHome c.args.nvm.now (page_fetched w.now c.args.core) =
    λ from is below. told_home c.args.nvm.now from c.need_of_core.result.touched.items home (λ away. (returns-clause-away c w rest from holds is away).0) in
    record {
      home = λ page touched. all_told (λ (p : ℕ). is_page_home c.args.nvm.now p ≡ true) page c.need_of_core.result.touched.items home (returns-clause-touched c w rest page holds at_home ∙ touched);
      stored = λ page must. all_told (λ (p : ℕ). IsFreshPage c.args.self.now.runtime.objects p → ⊥) page c.need_of_core.result.stored.items stored (returns-clause-stored c w rest page holds at_home ∙ must);
    }
