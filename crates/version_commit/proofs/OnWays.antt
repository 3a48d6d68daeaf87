-- What befalls a word that is on its way to be durable.
use Rattle.std.proofs.Common.{◌≡◌, ℕ, ◌⊎◌, inl, inr, ◌∙◌}
use Rattle.pmem_model.specs.Words.{Word}
use Rattle.pmem_model.specs.Events.{WordCalm, Left, calm_word}
use Rattle.version_commit.specs.OnWay.{IsOnWay, kind_before}
use Rattle.sls_base.specs.declared.fixed.TheConstants.{LEADER}
use Rattle.version_commit.specs.declared.step.Step.{Step}
use Rattle.version_commit.specs.declared.step.Step.TheVariants.{Store, Flush, Fence}

-- where its durable value is what it reads, it is clean, which is all that may be known
durable_now : (step : Step) (w : Word) (reads : ℕ) → w.cached ≡ reads → w.durable ≡ reads → IsOnWay step w reads reads
durable_now Store w reads c d = record { durable = d; known = (c, d) }
durable_now Flush w reads c d = record { durable = d; known = (c, inl d) }
durable_now Fence w reads c d = record { durable = d; known = (c, inl d) }

pub reads_of : (step : Step) (w : Word) (was reads : ℕ) → IsOnWay step w was reads → w.cached ≡ reads
reads_of Store w was reads h = h.known.0
reads_of Flush w was reads h = h.known.0
reads_of Fence w was reads h = h.known.0

pub way_calm : (step : Step) (w u : Word) (was reads : ℕ) → WordCalm w u → IsOnWay step w was reads
    → IsOnWay step u was reads ⊎ IsOnWay step u reads reads
way_calm step w u was reads calm h =
    let c = reads_of step w was reads h in
    elim calm.durable [
      | inl same ↦ inl (record { durable = same ∙ h.durable; known = calm_word LEADER (kind_before step was) w u reads calm h.known })
      | inr now ↦ inr (durable_now step u reads (calm.cached ∙ c) (now ∙ c))
    ]

pub way_left : (step : Step) (w : Word) (was reads left : ℕ) → Left w left → IsOnWay step w was reads → (left ≡ was) ⊎ (left ≡ reads)
way_left step w was reads left l h = elim l [ inl d ↦ inl (d ∙ h.durable) | inr c ↦ inr (c ∙ reads_of step w was reads h) ]
