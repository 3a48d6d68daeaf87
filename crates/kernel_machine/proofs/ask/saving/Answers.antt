-- What begins is a checkpoint of the cores that ran.
use Rattle.std.proofs.Common.{◌≡◌, ◌∙◌, sym, subst, refl}
use Rattle.core_turns.specs.declared.running.Running.{Running}
use Rattle.kernel_machine.specs.declared.work.Work.TheVariants as works
use Rattle.kernel_machine.specs.Turns.{BeginsCheckpoint}
use Rattle.kernel_machine.proofs.ask.saving.Goals as goal

pub returns-in-Runs : goal.returns-in-Runs
returns-in-Runs c = λ k is.
    let m = c.args.nvm.now in
    let begun : BeginsCheckpoint c.in-Runs.running m (works.Saves c.begin.result) = record {
      checkpoint = c.begin.result;
      is = refl;
      before = c.begin.ensures.before;
      left = c.begin.ensures.left;
      prepares = c.begin.ensures.prepares;
      stages = c.begin.ensures.stages;
    } in
    let same : works.Runs c.in-Runs.running ≡ works.Runs k = sym c.in-Runs.is ∙ is in
    let cores : c.in-Runs.running ≡ k = cc in
    subst (λ (x : Running). BeginsCheckpoint x m (works.Saves c.begin.result)) cores begun
