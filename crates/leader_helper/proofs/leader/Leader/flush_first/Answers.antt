use Rattle.leader_helper.proofs.Gathers.{gathered, gathered_turns}
use Rattle.leader_helper.proofs.Turned.{turn_after}
use Rattle.leader_helper.proofs.leader.Leader.flush_first.Goals as goal

pub flush_next-requires-clause-led : goal.flush_next-requires-clause-led
flush_next-requires-clause-led c =
    let led = c.requires.led in
    record { version = led.version; contents = led.contents; writing = gathered c.requires.stage c.requires.settled led.writing }

pub returns-clause-writes : goal.returns-clause-writes
returns-clause-writes c = λ v cont h. c.flush_next.ensures.writes v cont (gathered c.requires.stage c.requires.settled h)

pub returns-clause-turn : goal.returns-clause-turn
returns-clause-turn c = turn_after (gathered_turns c.args.self.now c.args.rooms.now c.requires.stage) c.flush_next.ensures.turn
