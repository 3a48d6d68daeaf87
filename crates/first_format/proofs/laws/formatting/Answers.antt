use Rattle.std.proofs.Common.{◌≡◌, ℕ, inl, inr, arith}
use Rattle.sls_base.specs.declared.image.Image.{Image}
use Rattle.pmem_model.specs.Words.{Word}
use Rattle.version_commit.specs.declared.step.Step.{Step}
use Rattle.first_format.specs.declared.stage.Stage.{Stage}
use Rattle.first_format.specs.declared.stage.Stage.TheVariants.{Store, Flush, Fence, FormatWord, Done}
use Rattle.version_commit.specs.declared.step.Step.TheVariants as steps
use Rattle.first_format.specs.Clean.{HoldsClean}
use Rattle.first_format.specs.Formatted.{formatted}
use Rattle.first_format.specs.Parts.{first_parts}
use Rattle.first_format.specs.Shows.{AreOnWay, turns_at}
use Rattle.first_format.proofs.Pages.{rings_none}
use Rattle.first_format.proofs.Steps.{calm_on_way, done_clean, left_on}
use Rattle.first_format.proofs.laws.formatting.Goals as goal

pub returns-clause-blank : goal.returns-clause-blank
returns-clause-blank c = λ image cores words zero. record { unformatted = zero 0; each = λ word. inl (zero word) }

pub returns-clause-calm : goal.returns-clause-calm
returns-clause-calm c = λ s f g image cores calm h. record {
  begun = h.begun;
  cores_are = h.cores_are;
  words = calm_on_way (first_parts image cores) s.stage s.committer.format f g calm.at h.words;
}

pub returns-clause-cut : goal.returns-clause-cut
returns-clause-cut c = λ s f left image cores may h.
    elim (left_on (first_parts image cores) s.stage s.committer.format f left (rings_none image) may h.words) [
      | inl again ↦ inl (record { unformatted = again.unformatted; each = again.each })
      | inr whole ↦ inr whole
    ]

done_by : (image : Image) (cores : ℕ) (stage : Stage) (step : Step) (f : ℕ → Word) → turns_at stage step ≡ 0 → AreOnWay (first_parts image cores) stage step f
    → HoldsClean f (formatted (first_parts image cores))
done_by image cores (Store n) step f none h = absurd (omega arith)
done_by image cores (Flush n) step f none h = absurd (omega arith)
done_by image cores Fence step f none h = absurd (omega arith)
done_by image cores FormatWord steps.Store f none h = absurd (omega arith)
done_by image cores FormatWord steps.Flush f none h = absurd (omega arith)
done_by image cores FormatWord steps.Fence f none h = absurd (omega arith)
done_by image cores Done step f none h = done_clean (first_parts image cores) step f (rings_none image) h

pub returns-clause-ends : goal.returns-clause-ends
returns-clause-ends c = λ s f image cores none h. done_by image cores s.stage s.committer.format f none h.words
