-- The cores run what recovery came to.
use Rattle.std.specs.Prelude.{◌≡◌}
use Rattle.std.proofs.Common.{refl, subst, sym, ◌∙◌}
use Rattle.page_store.specs.Stages.{stage_of, IsAsRecovered}
use Rattle.version_rooms.specs.declared.rooms.Rooms.{Rooms}
use Rattle.tree_restore.specs.Restores.{turns_left}
use Rattle.kernel_machine.specs.declared.work.Restoring.{Restoring}
use Rattle.kernel_machine.specs.declared.work.Work.TheVariants as work
use Rattle.kernel_machine.specs.Turns.{ComesUp}
use Rattle.kernel_machine.proofs.UpRestored.{is_restored}
use Rattle.kernel_machine.proofs.turns.came_up.Goals as goal

pub returns-in-Recovers : goal.returns-in-Recovers
returns-in-Recovers c = λ s is end.
    let m = c.args.nvm.now in
    let finished = c.finish.ensures in
    let here : work.Recovers s ≡ work.Recovers c.in-Recovers.start = sym is ∙ c.in-Recovers.is in
    let same : s ≡ c.in-Recovers.start = cc in
    subst (λ (x : Restoring). turns_left x.recovery ≡ 0 → ComesUp x.recovery m (work.Runs c.begin.result)) (sym same)
    (λ none. record {
      running = c.begin.result;
      is = refl;
      runs = λ accepted w h. c.begin.ensures.runs accepted m w
          (is_restored c.in-Recovers.start.recovery m c.finish.result
          (λ v saved whole shows. finished.rest v saved none whole shows)
          (λ v saved whole shows. finished.records v saved none whole shows)
          finished.own
          (λ v saved shows. finished.stages v saved none shows) accepted w h);
      stages = λ accepted w h page below.
          subst (λ (rooms : Rooms). IsAsRecovered (stage_of rooms.pages page)) (sym c.begin.ensures.rooms)
          (finished.stages w.version h.saved none h.shows page below);
    }) end
