use Rattle.std.proofs.Common.{◌≡◌, length, None}
use Rattle.sls_base.specs.declared.limits.TheConstants.{CORES}
use Rattle.kobj_codec.proofs.ReadSoFar.{ReadsBelow}
use Rattle.kobj_codec.proofs.Schedulers.{RunningOf}
use Rattle.kobj_codec.proofs.scheduler.read_scheduler.Given as goal

abbrev pub invariant-loop-core : goal.invariant-loop-core
invariant-loop-core l = record { size : length l.running ≡ CORES; read : ReadsBelow None (RunningOf l.words) l.running l.core }
