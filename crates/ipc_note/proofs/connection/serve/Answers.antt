use Rattle.ipc_note.proofs.connection.serve.Goals as goal

pub returns-clause-free : goal.returns-clause-free
returns-clause-free c thread free beside = c.serve_next.ensures.free thread (c.finish.ensures.free thread free beside)
