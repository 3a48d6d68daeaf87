use Rattle.std.proofs.Common.{rules, tests}
use Rattle.call_readings.specs.NumberSets.{is_in}
use Rattle.call_readings.proofs.numbers.NumbersInUse.new.Goals as goal

pub returns-clause-objects : goal.returns-clause-objects
unfolding is_in
returns-clause-objects c id = search (rules, tests)

pub returns-clause-pages : goal.returns-clause-pages
unfolding is_in
returns-clause-pages c page = search (rules, tests)
