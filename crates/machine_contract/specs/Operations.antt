-- How many operations on the memory a turn may do.
use Rattle.std.specs.Prelude.{ℕ, nat_lt, is_some, if◌then◌else◌}
use Rattle.machine_contract.specs.declared.answers.Did.{Did}
use Rattle.machine_contract.specs.declared.answers.Did.TheVariants as did
use Rattle.machine_contract.specs.declared.answers.Why.{Why}
use Rattle.machine_contract.specs.declared.answers.Why.TheVariants as why
use Rattle.machine_contract.specs.Side.{Side, core_at}

-- how many an inner turn may do: a leader that waits does none, and neither does a helper with nothing in hand
abbrev pub inner_operations : Why → ℕ → Side → Side → ℕ
inner_operations why.Format core old new = 1
inner_operations why.Recover core old new = 1
inner_operations (why.Prepare page) core old new = 1
inner_operations (why.Home page) core old new = 0
inner_operations (why.Wait page other) core old new = 0
inner_operations (why.Copy entry) core old new = 1
inner_operations why.Lead core old new = if nat_lt new.left old.left then 1 else 0
inner_operations why.Help core old new = if is_some (core_at old core).holds then 1 else 0
inner_operations why.Paused core old new = 0

-- how many operations a turn may do at most
abbrev pub operations : Did → ℕ → Side → Side → ℕ
operations did.Retired core old new = 2
operations did.Idle core old new = 0
operations (did.Inner why) core old new = inner_operations why core old new
operations (did.Committed version) core old new = 1
operations (did.Up version) core old new = 1
