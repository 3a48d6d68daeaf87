use Rattle.std.proofs.Common.{rules, tests}
use Rattle.call_readings.specs.NumberSets.{is_in}
use Rattle.call_readings.proofs.numbers.is_in.Goals as goal

pub returns : goal.returns
unfolding is_in
returns c = search (rules, tests)
