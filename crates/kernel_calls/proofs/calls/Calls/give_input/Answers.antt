use Rattle.kernel_calls.proofs.Waiting.{input_given}
use Rattle.kernel_calls.proofs.calls.Calls.give_input.Goals as goal

pub returns-clause-holds : goal.returns-clause-holds
returns-clause-holds c accepted m rest w h =
    input_given c.args.self.now accepted m rest w h c.worlds_are_sound.ensures.kept c.args.bytes.now c.requires.some c.requires.most c.push.ensures.bytes c.push.result c.push.new.self
    c.push.ensures.full c.push.ensures.err c.push.ensures.ok
