use Rattle.std.proofs.Common.{◌∙◌, sym, refl}
use Rattle.sls_kernel.proofs.Begins.{lights_first, lights_saved}
use Rattle.sls_kernel.proofs.machine.Off.light.Goals.{then-table_durable-eq0, else-table_durable-eq0}
use Rattle.sls_kernel.proofs.machine.Off.light.Goals as goal

pub returns-after-table_durable-eq0-clause-shows : goal.returns-after-table_durable-eq0-clause-shows
returns-after-table_durable-eq0-clause-shows c = λ w off first.
    elim c.if-table_durable-eq0.branch [
      | then-table_durable-eq0 t ↦
          let zero = sym c.table_durable.ensures ∙ t.if-table_durable-eq0.true in
          lights_first _ w _ (record { stage = t.stage-is; thread = c.initial_thread.ensures; put = refl; in_range = c.in-Ok.ensures.range }) off zero c.in-Ok.ensures.bytes (first zero)
      | else-table_durable-eq0 t ↦ lights_saved _ w t.stage-is off (λ zero. t.if-table_durable-eq0.false (c.table_durable.ensures ∙ zero))
    ]
