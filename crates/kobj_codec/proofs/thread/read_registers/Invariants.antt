use Rattle.std.proofs.Common.{◌≡◌, length}
use Rattle.sls_base.specs.declared.limits.TheConstants.{REGISTERS}
use Rattle.kobj_codec.proofs.ReadSoFar.{ReadsBelow}
use Rattle.kobj_codec.proofs.Threads.{RegistersOf}
use Rattle.kobj_codec.proofs.thread.read_registers.Given as goal

abbrev pub invariant-loop-j : goal.invariant-loop-j
invariant-loop-j l = record { size : length l.x ≡ REGISTERS; read : ReadsBelow 0 (RegistersOf l.words) l.x l.j }
