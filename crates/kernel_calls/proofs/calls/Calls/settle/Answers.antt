use Rattle.std.proofs.Common.{refl}
use Rattle.kernel_calls.proofs.JustSaved.{saved_by}
use Rattle.kernel_calls.proofs.calls.Calls.settle.Goals as goal

pub returns-clause-holds : goal.returns-clause-holds
returns-clause-holds c accepted m rest w is =
    let k = c.args.self.now in
    saved_by (record k { runtime = record k.runtime { numbers = c.of-numbers.result } }) k.runtime.objects c.of-numbers.result k.inputs accepted m rest w refl refl refl c.of-numbers.ensures.counted is
