use Rattle.std.proofs.Common.{[]}
use Rattle.kernel_calls.proofs.JustSaved.{saved_by}
use Rattle.kernel_calls.proofs.calls.Calls.begin.Goals as goal

pub returns-clause-holds : goal.returns-clause-holds
returns-clause-holds c accepted m rest w is =
    saved_by (record { runtime = c.new-self.result; inputs = c.clear.new.self }) c.args.objects c.of-numbers.result [] accepted m rest w c.new-self.ensures.objects c.new-self.ensures.numbers c.clear.ensures
    c.of-numbers.ensures.counted is
