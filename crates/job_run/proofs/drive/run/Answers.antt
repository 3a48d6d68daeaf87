use Rattle.std.proofs.Common.{subst, add-one}
use Rattle.sls_kernel.specs.Plain.{World}
use Rattle.sls_kernel.specs.Shows.{Shows}
use Rattle.sls_kernel.specs.Side.{Mode, ModeGoes, mode}
use Rattle.job_run.specs.Report.{ticks}
use Rattle.job_run.proofs.Turns.{ticked_turn, still_running}
use Rattle.job_run.proofs.drive.run.Goals as goal

pub ticks-preserved : goal.ticks-preserved
ticks-preserved c =
    let goes = subst (λ (m : Mode). ModeGoes m c.turn.result (mode c.turn.new.self)) c.ticks.invariant.up c.turn.ensures.goes in
    record {
      up = still_running (mode c.turn.new.self) c.turn.result goes;
      shows = λ w s.
          let now = ticks c.ticks._i w in
          rw add-one (subst (λ (x : World). Shows c.turn.new.self x) (ticked_turn (mode c.turn.new.self) c.turn.result now goes).1 (c.turn.ensures.world now (c.ticks.invariant.shows w s)).1);
    }
