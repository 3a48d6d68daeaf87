use Rattle.pmem_model.specs.Memory.{word_at}
use Rattle.leader_helper.proofs.Turned.{log_turn_begins, turn_after}
use Rattle.leader_helper.proofs.Writing.{log_begun}
use Rattle.leader_helper.proofs.leader.Leader.write_next.Goals as goal

pub log_next-requires-clause-led : goal.log_next-requires-clause-led
log_next-requires-clause-led c =
    let led = c.requires.led in
    record { version = led.version; contents = led.contents; writing = log_begun c.args.first c.requires.stage c.in-None.ensures led.writing }

pub returns-in-None-clause-writes : goal.returns-in-None-clause-writes
returns-in-None-clause-writes c = λ v cont of h. c.log_next.ensures.writes v cont (log_begun c.args.first c.requires.stage c.in-None.ensures h)

pub returns-in-None-clause-turn : goal.returns-in-None-clause-turn
returns-in-None-clause-turn c =
    let led = c.requires.led in
    turn_after (log_turn_begins c.args.self.now c.args.rooms.now (word_at c.args.nvm.now) led.version led.contents c.args.first c.requires.stage c.in-None.ensures led.writing) c.log_next.ensures.turn
