use Rattle.std.proofs.Common.{◌≡◌, ◌<◌, ◌-◌, ◌^◌, ℕ}
use Rattle.std.specs.Prelude.{slice_index_or}
use Rattle.call_readings.proofs.numbers.least_absent.Given as goal

abbrev pub invariant-loop-place : goal.invariant-loop-place
invariant-loop-place l = (j : ℕ) → j < l.place → slice_index_or l.words j 0 ≡ 2 ^ 64 - 1
