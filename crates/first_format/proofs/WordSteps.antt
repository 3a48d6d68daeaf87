-- A step on the format word is an operation of the leader.
use Rattle.std.proofs.Common.{◌≡◌, ℕ, [], ◌∷◌, inl, inr, slice_index, true, arith}
use Rattle.sls_base.specs.declared.fixed.TheConstants.{LEADER}
use Rattle.pmem_model.specs.Words.{Word}
use Rattle.pmem_model.specs.PlaceLaws.{inside_line, inside_word}
use Rattle.pmem_layout.specs.declared.format.TheConstants.{FORMAT_WORD}
use Rattle.pmem_layout.specs.declared.places.TheConstants.{FORMAT_AT}
use Rattle.pmem_layout.specs.Places.{line_at}
use Rattle.pmem_operations.specs.Operations.{IsAtMostOne}
use Rattle.version_commit.specs.declared.step.Step.{Step}
use Rattle.version_commit.specs.declared.step.Step.TheVariants.{Store, Flush, Fence}
use Rattle.version_commit.specs.OnWay.{words_after}

pub word_operation : (step : Step) (f g : ℕ → Word) → ((i : ℕ) → g i ≡ words_after step FORMAT_AT FORMAT_WORD f i) → IsAtMostOne LEADER f g
word_operation Store f g e = inr (inl (record {
  at = FORMAT_AT;
  count = 1;
  value = slice_index (FORMAT_WORD ∷ []);
  most = omega arith;
  inside = (omega arith, inside_word FORMAT_AT);
  words = e;
}))
word_operation Flush f g e = inr (inr (inl (record {
  at = line_at FORMAT_AT;
  lines = 1;
  inside = (omega arith, inside_line FORMAT_AT);
  words = e;
})))
word_operation Fence f g e = inr (inr (inr (record { reached = λ i. true; words = e })))
