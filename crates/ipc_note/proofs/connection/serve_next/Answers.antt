use Rattle.std.proofs.Common.{refl}
use Rattle.ipc_note.proofs.Free.{not_first, still_free}
use Rattle.ipc_note.proofs.connection.serve_next.Goals as goal

pub returns-in-Some-clause-free : goal.returns-in-Some-clause-free
returns-in-Some-clause-free c thread free =
    let other = not_first _ c.args.id c.in-Some.first thread _ c.in-Some.ensures.popped free in
    still_free _ _ c.in-Some.first thread c.in-Some.ensures.kept other free

pub returns-in-None-clause-free : goal.returns-in-None-clause-free
returns-in-None-clause-free c thread free = rw (c.in-None.ensures.same refl) free
