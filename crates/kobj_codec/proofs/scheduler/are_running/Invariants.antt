use Rattle.std.proofs.Common.{◌≡◌, ◌<◌, ◌≤◌, ℕ, IfSome, None}
use Rattle.std.specs.Prelude.{slice_index_or}
use Rattle.kobj_codec.specs.Objects.{IsOccupant}
use Rattle.kobj_codec.proofs.scheduler.are_running.Given as goal

abbrev pub invariant-loop-core : goal.invariant-loop-core
invariant-loop-core l = record {
  occupants : (k : ℕ) → k < l.core → IfSome (slice_index_or l.running k None) IsOccupant;
  past : (k : ℕ) → l.cores ≤ k → k < l.core → slice_index_or l.running k None ≡ None;
}
