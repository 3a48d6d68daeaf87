-- Counts of faults.
use Rattle.std.specs.Prelude.{ℕ, ◌≤◌}
use Rattle.sls_base.specs.Counts.{one_more}

-- a count rose, or stands where it stops
abbrev pub Rose : ℕ → ℕ → Type 0
Rose before now = one_more before ≤ now
