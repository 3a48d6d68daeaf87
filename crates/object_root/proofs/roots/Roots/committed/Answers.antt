use Rattle.std.proofs.Common.{ℕ, ◌+◌, ◌∙◌, ap, refl}
use Rattle.object_root.specs.Room.{Room}
use Rattle.object_root.proofs.RoomLaws.{objects_commit}
use Rattle.object_root.proofs.Progress.{stage_in, stage_past}
use Rattle.object_root.proofs.roots.Roots.committed.Goals as goal

pub returns-clause-idle : goal.returns-clause-idle
returns-clause-idle c = λ id. stage_in (c.self.inside.version + 1) c.self.inside.progress id
    ∙ stage_past c.self.inside.version _ (c.self.invariant.none_later id)

pub returns-clause-shows : goal.returns-clause-shows
returns-clause-shows c = λ f v saved next after is tagged h.
    objects_commit after is tagged refl (ap (λ (n : ℕ). n + 1)
    (ap (λ (r : Room). r.version) c.self.view_is ∙ h.version)) (returns-clause-idle c) h
