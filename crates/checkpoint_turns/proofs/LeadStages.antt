-- Pages to which nothing was stored since the commit.
use Rattle.std.specs.Prelude.{◌≡◌, ◌⊎◌, ℕ}
use Rattle.std.proofs.Common.{refl, ap, sym, subst, ◌∙◌, inl, inr}
use Rattle.page_store.specs.declared.stage.PageStage.{PageStage}
use Rattle.page_store.specs.declared.stage.PageStage.TheVariants.{Fresh, Protected, Preparing, Writable}
use Rattle.page_store.specs.declared.stage.Origin.TheVariants.{Zeros, Copy}
use Rattle.page_store.specs.declared.stage.Writes.TheVariants.{Nothing, Stored, Flushed}
use Rattle.page_store.specs.declared.stage.PageState.TheVariants as state
use Rattle.page_store.specs.Stages.{IsAsRecovered, IsSettled, after, state_at}
use Rattle.core_turns.proofs.Faulting.{fresh_of}

-- it is fresh, or it is protected
pub still_either : (stage : PageStage) → after stage ≡ stage → (stage ≡ Fresh) ⊎ (stage ≡ Protected)
still_either Fresh e = inl refl
still_either Protected e = inr refl
still_either (Preparing core next) e = absurd (cc)
still_either (Writable Zeros Nothing) e = absurd (cc)
still_either (Writable Zeros Stored) e = absurd (cc)
still_either (Writable Zeros Flushed) e = absurd (cc)
still_either (Writable Copy writes) e = absurd (cc)

protected_of : (stage : PageStage) → state_at stage ≡ state.Protected → stage ≡ Protected
protected_of Fresh e = absurd (cc)
protected_of Protected e = refl
protected_of (Preparing core next) e = absurd (cc)
protected_of (Writable origin writes) e = absurd (cc)

-- Where it may be stored to as before, its stage is the same.
pub same_stage : (old new : PageStage) → after old ≡ old → state_at new ≡ state_at old → new ≡ old
same_stage old new still same = elim (still_either old still) [
  | inl fresh ↦ fresh_of new (same ∙ ap state_at fresh) ∙ sym fresh
  | inr there ↦ protected_of new (same ∙ ap state_at there) ∙ sym there
]

pub still_as_committed : (old new : PageStage) → after old ≡ old → state_at new ≡ state_at old → after new ≡ new
still_as_committed old new still same =
    let is = same_stage old new still same in ap after is ∙ still ∙ sym is

pub is_settled : (stage : PageStage) → after stage ≡ stage → IsSettled stage
is_settled stage still = elim (still_either stage still) [
  | inl fresh ↦ subst IsSettled (sym fresh) tt
  | inr there ↦ subst IsSettled (sym there) tt
]

pub is_as_recovered : (stage : PageStage) → after stage ≡ stage → IsAsRecovered stage
is_as_recovered stage still = elim (still_either stage still) [
  | inl fresh ↦ subst IsAsRecovered (sym fresh) tt
  | inr there ↦ subst IsAsRecovered (sym there) tt
]

-- A page that no core prepares is settled.
pub settled_unprepared : (stage : PageStage) → ((core : ℕ) → state_at stage ≡ state.Preparing core → ⊥)
    → IsSettled stage
settled_unprepared Fresh none = tt
settled_unprepared Protected none = tt
settled_unprepared (Preparing core next) none = none core refl
settled_unprepared (Writable origin writes) none = tt
