use Rattle.std.proofs.Common.{arith}
use Rattle.ipc_note.proofs.Free.{still_free, not_beside}
use Rattle.ipc_note.proofs.connection.finish.Goals as goal

pub push_back-requires : goal.push_back-requires
push_back-requires c =
    (omega arith, (omega arith, (c.requires.client c.in-Some.served c.in-Some.is, c.requires.client_free c.in-Some.served c.in-Some.is)))

pub returns-in-Some-clause-free : goal.returns-in-Some-clause-free
returns-in-Some-clause-free c thread free beside = still_free _ _ c.in-Some.served thread c.push_back.ensures.kept
    (not_beside c.args.conn.now.client c.in-Some.served c.args.me thread c.in-Some.is c.if-served-me.true beside) free
