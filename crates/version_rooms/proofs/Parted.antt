-- What each room shows beside steps of the others.
use Rattle.std.specs.Prelude.{◌≡◌, ◌≢◌, ◌⊎◌, ◌+◌, ℕ}
use Rattle.std.proofs.Common.{refl, inl, inr, subst}
use Rattle.sls_base.specs.declared.fixed.TheConstants.{LEADER}
use Rattle.pmem_model.specs.Words.{Word}
use Rattle.pmem_model.specs.Events.{WordCalm, WordIs, Clean}
use Rattle.pmem_layout.specs.declared.places.TheConstants.{FORMAT_AT}
use Rattle.pmem_layout.specs.Owners.{Fixed, Format, owner}
use Rattle.pmem_layout.specs.Rooms.{CalmIn}
use Rattle.version_commit.specs.declared.step.Step.{Step}
use Rattle.version_commit.specs.declared.step.Step.TheVariants as steps
use Rattle.version_commit.specs.OnWay.{IsOnWay, durable_after, next, reads_after}
use Rattle.version_rooms.specs.Rooms.{IsFixed, reads_at}

-- of two alternatives that are one
pub either : {A : Type 0} → A ⊎ A → A
either (inl a) = a
either (inr a) = a

clean_kept : {w u : Word} {x : ℕ} → WordCalm w u → WordIs LEADER Clean w x → WordIs LEADER Clean u x
clean_kept {w} {u} {x} calm is =
    let same = calm.cached in
    let cached : u.cached ≡ x = rw same is.0 in (
      cached,
      elim calm.durable [
        | inl kept ↦ rw kept is.1
        | inr read ↦ rw read is.0
      ],
    )

pub fixed_kept : {f g : ℕ → Word} {cores : ℕ} → owner FORMAT_AT ≡ Format → CalmIn Format f g → CalmIn Fixed f g → IsFixed f cores → IsFixed g cores
fixed_kept own format calm h = record {
  some = h.some;
  most = h.most;
  format = clean_kept (format.at FORMAT_AT own) h.format;
  each = λ word fixed. clean_kept (calm.at word fixed) (h.each word fixed);
}

-- at rest the version word reads the committed version

pub at_rest : {word : Word} {v : ℕ} (step : Step) → step ≡ steps.Store → IsOnWay step word v (reads_at step v) → IsOnWay step word v v
at_rest {word} {v} steps.Store rest h = h
at_rest {word} {v} steps.Flush rest h = absurd (cc)
at_rest {word} {v} steps.Fence rest h = absurd (cc)

pub from_rest : {word : Word} {v : ℕ} (step : Step) → step ≡ steps.Store → IsOnWay step word v v → IsOnWay step word v (reads_at step v)
from_rest {word} {v} steps.Store rest h = h
from_rest {word} {v} steps.Flush rest h = absurd (cc)
from_rest {word} {v} steps.Fence rest h = absurd (cc)

pub reads_one : (step : Step) (v : ℕ) → (reads_at step v ≡ v) ⊎ (reads_at step v ≡ v + 1)
reads_one steps.Store v = inl refl
reads_one steps.Flush v = inr refl
reads_one steps.Fence v = inr refl

-- a step of the commit but the last leaves the committed version, and the version word reads the next one
pub stepped : {word : Word} {v value : ℕ} (step : Step) → value ≡ v + 1 → step ≢ steps.Fence
    → IsOnWay (next step) word (durable_after step v (reads_at step v)) (reads_after step value (reads_at step v))
    → IsOnWay (next step) word v (reads_at (next step) v)
stepped {word} {v} {value} steps.Store e other h = subst (λ (n : ℕ). IsOnWay steps.Flush word v n) e h
stepped {word} {v} {value} steps.Flush e other h = h
stepped {word} {v} {value} steps.Fence e other h = absurd (other refl)

-- the last makes the next version the committed one
pub fenced_word : {word : Word} (v value : ℕ) (step : Step) → step ≡ steps.Fence
    → IsOnWay (next step) word (durable_after step v (reads_at step v)) (reads_after step value (reads_at step v))
    → IsOnWay steps.Store word (v + 1) (v + 1)
fenced_word {word} v value steps.Store last h = absurd (cc)
fenced_word {word} v value steps.Flush last h = absurd (cc)
fenced_word {word} v value steps.Fence last h = h
