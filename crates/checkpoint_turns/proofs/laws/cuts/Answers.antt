-- A cut leaves one version whole, and the version word tells which.
use Rattle.pmem_model.specs.Memory.{word_at}
use Rattle.leader_helper.proofs.Commits.{are_whole, whole}
use Rattle.core_turns.specs.Runs.{objects_of}
use Rattle.checkpoint_turns.specs.Checkpoints.{contents_of}
use Rattle.checkpoint_turns.proofs.Cuts.{is_first, says_saved}
use Rattle.checkpoint_turns.proofs.laws.cuts.Goals as goal

pub returns-clause-before : goal.returns-clause-before
returns-clause-before c = λ k accepted m w left may reads h.
    let written = contents_of h.saved (objects_of k.running) h.pages in
    let next = whole k.running.rooms written in
    let one =
    c.commit_point.ensures.before k.leader k.running.rooms (word_at m) left w.version written next may h.writing
    (are_whole k.running.rooms written) in
    says_saved left w h.saved reads (is_first left w.version h.saved next reads one) h.are

pub returns-clause-behind : goal.returns-clause-behind
returns-clause-behind c = λ k accepted m w left may h.
    let told =
    c.commit_point.ensures.after k.leader k.running.rooms (word_at m) left w.version h.saved h.pages may h.applying in
    (told.0, says_saved left w h.saved told.0 told.1 h.are)
