use Rattle.std.proofs.Common.{◌≡◌, ◌∙◌, ◌+◌, ℕ, ap, inl, inr, subst, sym}
use Rattle.version_commit.specs.Shows.{VersionShows}
use Rattle.version_commit.specs.declared.step.Step.{Step}
use Rattle.version_rooms.specs.Rooms.{reads_at}
use Rattle.version_rooms.proofs.Parted.{reads_one}
use Rattle.version_rooms.proofs.laws.settled_rooms.Goals as goal

pub returns-clause-same : goal.returns-clause-same
returns-clause-same c = λ r f g v cont phase calm h durable.
    let reads = reads_at r.committer.version v in
    record {
      version = elim (c.version_word.ensures.calm r.committer f g v reads (c.owners_take_part.ensures.calm _ f g calm) h.version) [
        | inl kept ↦ kept
        | inr read ↦
            let same : reads ≡ v = sym (c.version_word.ensures.durable r.committer g reads reads read) ∙ durable in
            subst (λ (n : ℕ). VersionShows r.committer g n reads) same read
      ];
      keep = c.kept_rooms.ensures r f g v cont phase calm h.keep;
    }

pub returns-clause-next : goal.returns-clause-next
returns-clause-next c = λ r f g v cont next phase calm may h moved.
    let reads = reads_at r.committer.version v in
    let read : VersionShows r.committer g reads reads =
    elim (c.version_word.ensures.calm r.committer f g v reads (c.owners_take_part.ensures.calm _ f g calm) h.version) [
      | inl kept ↦ absurd (moved (c.version_word.ensures.durable r.committer g v reads kept))
      | inr read ↦ read
    ] in
    let durable = c.version_word.ensures.durable r.committer g reads reads read in
    let cached = c.version_word.ensures.reads r.committer g reads reads read in
    let stored : reads ≡ v + 1 = elim (reads_one r.committer.version v) [
      | inl same ↦ absurd (moved (durable ∙ same))
      | inr stored ↦ stored
    ] in
    elim may [
      | inl rest ↦ absurd (moved (durable ∙ ap (λ (step : Step). reads_at step v) rest))
      | inr whole ↦ (whole.0, whole.1, (cached ∙ stored, durable ∙ stored), c.kept_rooms.ensures r f g v cont phase calm h.keep)
    ]
