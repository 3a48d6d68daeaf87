use Rattle.std.proofs.Common.{refl, sym, ◌∙◌}
use Rattle.kobj_table.proofs.States.{run_state}
use Rattle.kobj_table.proofs.objects.Objects.run.Goals as goal

pub returns-clause-state : goal.returns-clause-state
returns-clause-state c rest =
    run_state c.args.self.now c.put.new.self c.in-Some-Scheduler.cores _ c.args.core c.args.running rest
    (sym c.in-Some-Scheduler.ensures.some ∙ c.in-Some-Scheduler.field-0-is) c.put.ensures.puts refl refl
