use Rattle.std.proofs.Common.{◌∙◌, ap, inl, inr}
use Rattle.version_commit.specs.declared.step.Step.{Step}
use Rattle.version_rooms.specs.Rooms.{reads_at}
use Rattle.version_rooms.proofs.Points.{fixed_stand}
use Rattle.version_rooms.proofs.laws.at_rest.Goals as goal

pub returns : goal.returns
returns c = λ r f left v cont phase may rest h.
    let part = c.owners_take_part.ensures.left in (
      elim (c.version_word.ensures.left r.committer f left v (reads_at r.committer.version v) (part _ f left may) h.version) [
        | inl old ↦ old
        | inr read ↦ read ∙ ap (λ (step : Step). reads_at step v) rest
      ],
      record {
        in_range = h.keep.in_range;
        fixed = fixed_stand may h.keep.fixed;
        numbers = c.stands.ensures r.numbers.work f left v cont.saved.numbers (part _ f left may) h.keep.numbers;
        objects = c.room.ensures.stands r.roots f v cont.saved.objects cont.objects left (part _ f left may) h.keep.objects;
        pages = c.page_versions.ensures.stands r.pages f left v cont.saved.pages cont.pages phase (part _ f left may) h.keep.pages;
      },
    )
