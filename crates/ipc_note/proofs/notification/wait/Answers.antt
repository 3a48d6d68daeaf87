use Rattle.ipc_note.proofs.Free.{still_free}
use Rattle.ipc_note.proofs.notification.wait.Goals as goal

pub returns-then-note-eq0-clause-others_free : goal.returns-then-note-eq0-clause-others_free
returns-then-note-eq0-clause-others_free c = λ thread free other.
    still_free _ _ c.args.me thread c.push_back.ensures.kept other free
