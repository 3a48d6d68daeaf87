use Rattle.std.proofs.Common.{arith, sym}
use Rattle.ipc_note.proofs.Free.{still_free}
use Rattle.ipc_note.proofs.connection.call.Goals as goal

pub push_back-requires : goal.push_back-requires
push_back-requires c =
    let serving = c.is_serving.ensures.0 c.if-is_serving.true in
    (omega arith, (omega arith, (c.requires.server serving, c.requires.server_free serving)))

pub returns-then-is_serving-clause-others_free : goal.returns-then-is_serving-clause-others_free
returns-then-is_serving-clause-others_free c = λ thread free not_server not_me.
    still_free _ _ c.args.conn.now.server thread c.push_back.ensures.kept not_server free

pub returns-then-is_serving-clause-caller_free : goal.returns-then-is_serving-clause-caller_free
returns-then-is_serving-clause-caller_free c = λ other serving.
    still_free _ _ c.args.conn.now.server c.args.me c.push_back.ensures.kept (λ same. other (sym same)) c.requires.free

pub returns-else-is_serving-clause-others_free : goal.returns-else-is_serving-clause-others_free
returns-else-is_serving-clause-others_free c = λ thread free not_server not_me.
    still_free _ _ c.args.me thread c.push_back-else-is_serving.ensures.kept not_me free
