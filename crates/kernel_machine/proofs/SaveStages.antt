-- What the stage of a page says of the steps by which it is still prepared.
use Rattle.std.specs.Prelude.{◌≡◌, ◌⊎◌, ℕ, ◌+◌, ◌<◌, ◌≤◌, false}
use Rattle.std.proofs.Common.{refl, ap, sym, subst, ◌∙◌, arith, inl, inr}
use Rattle.page_store.specs.declared.stage.PageStage.{PageStage}
use Rattle.page_store.specs.declared.stage.PageStage.TheVariants.{Fresh, Protected, Preparing, Writable}
use Rattle.page_store.specs.declared.stage.Preparation.TheVariants.{FlushCopy, FenceCopy, StoreTag, FlushTag, FenceTag}
use Rattle.page_store.specs.declared.stage.PageState.{PageState}
use Rattle.page_store.specs.declared.stage.PageState.TheVariants as state
use Rattle.page_store.specs.Stages.{after, state_at}
use Rattle.cow_fault.specs.Faults.{faulted, steps_left}
use Rattle.checkpoint_turns.proofs.LeadStages.{still_either}
use Rattle.kernel_machine.specs.Sides.{is_writable_at}

-- A page that a core prepares.

pub steps_some : (stage : PageStage) (core : ℕ) → state_at stage ≡ state.Preparing core → 0 < steps_left stage
steps_some Fresh core e = absurd (cc)
steps_some Protected core e = absurd (cc)
steps_some (Preparing c FlushCopy) core e = omega arith
steps_some (Preparing c FenceCopy) core e = omega arith
steps_some (Preparing c StoreTag) core e = omega arith
steps_some (Preparing c FlushTag) core e = omega arith
steps_some (Preparing c FenceTag) core e = omega arith
steps_some (Writable origin writes) core e = absurd (cc)

pub one_step_less : (stage : PageStage) (holder core : ℕ) → state_at stage ≡ state.Preparing holder
    → steps_left (faulted stage core) + 1 ≡ steps_left stage
one_step_less Fresh holder core e = absurd (cc)
one_step_less Protected holder core e = absurd (cc)
one_step_less (Preparing c FlushCopy) holder core e = refl
one_step_less (Preparing c FenceCopy) holder core e = refl
one_step_less (Preparing c StoreTag) holder core e = refl
one_step_less (Preparing c FlushTag) holder core e = refl
one_step_less (Preparing c FenceTag) holder core e = refl
one_step_less (Writable origin writes) holder core e = absurd (cc)

-- No step is left exactly of a page that may be stored to.

pub is_done : (stage : PageStage) → (state_at stage ≡ state.Writable) ⊎ (state_at stage ≡ state.Writable → ⊥)
is_done Fresh = inr (λ e. cc)
is_done Protected = inr (λ e. cc)
is_done (Preparing core next) = inr (λ e. cc)
is_done (Writable origin writes) = inl refl

pub steps_where_not : (stage : PageStage) → (state_at stage ≡ state.Writable → ⊥) → 0 < steps_left stage
steps_where_not Fresh none = omega arith
steps_where_not Protected none = omega arith
steps_where_not (Preparing c FlushCopy) none = omega arith
steps_where_not (Preparing c FenceCopy) none = omega arith
steps_where_not (Preparing c StoreTag) none = omega arith
steps_where_not (Preparing c FlushTag) none = omega arith
steps_where_not (Preparing c FenceTag) none = omega arith
steps_where_not (Writable origin writes) none = absurd (none refl)

pub steps_done : (stage : PageStage) → state_at stage ≡ state.Writable → steps_left stage ≡ 0
steps_done Fresh e = absurd (cc)
steps_done Protected e = absurd (cc)
steps_done (Preparing core next) e = absurd (cc)
steps_done (Writable origin writes) e = refl

pub unwritable : (s : PageState) → (s ≡ state.Writable → ⊥) → is_writable_at s ≡ false
unwritable state.Fresh none = refl
unwritable state.Protected none = refl
unwritable state.Writable none = absurd (none refl)
unwritable state.Away none = refl
unwritable (state.Preparing core) none = refl

-- Of a page that no core prepares, what may be done with it tells how many steps are left.

abbrev steps_at : PageState → ℕ
steps_at state.Fresh = 1
steps_at state.Protected = 6
steps_at state.Writable = 0
steps_at state.Away = 0
steps_at (state.Preparing core) = 0

steps_told : (stage : PageStage) → ((core : ℕ) → state_at stage ≡ state.Preparing core → ⊥)
    → steps_left stage ≡ steps_at (state_at stage)
steps_told Fresh none = refl
steps_told Protected none = refl
steps_told (Preparing core next) none = absurd (none core refl)
steps_told (Writable origin writes) none = refl

pub same_steps : (old new : PageStage) → ((core : ℕ) → state_at old ≡ state.Preparing core → ⊥)
    → state_at new ≡ state_at old → steps_left new ≡ steps_left old
same_steps old new none same =
    steps_told new (λ core prepares. none core (sym same ∙ prepares)) ∙ ap steps_at same ∙ sym (steps_told old none)

-- Pages to which nothing was stored since a commit.

pub committed_unprepared : (stage : PageStage) → after stage ≡ stage → (core : ℕ)
    → state_at stage ≡ state.Preparing core → ⊥
committed_unprepared stage still core e = elim (still_either stage still) [
  | inl fresh ↦ (let no : state.Fresh ≡ state.Preparing core = sym (ap state_at fresh) ∙ e in cc)
  | inr there ↦ (let no : state.Protected ≡ state.Preparing core = sym (ap state_at there) ∙ e in cc)
]

pub committed_unwritable : (stage : PageStage) → after stage ≡ stage → is_writable_at (state_at stage) ≡ false
committed_unwritable stage still = elim (still_either stage still) [
  | inl fresh ↦ ap (λ (s : PageStage). is_writable_at (state_at s)) fresh
  | inr there ↦ ap (λ (s : PageStage). is_writable_at (state_at s)) there
]

pub committed_some : (stage : PageStage) → after stage ≡ stage → 1 ≤ steps_left stage
committed_some stage still = elim (still_either stage still) [
  | inl fresh ↦ subst (λ (s : PageStage). 1 ≤ steps_left s) (sym fresh) (omega arith)
  | inr there ↦ subst (λ (s : PageStage). 1 ≤ steps_left s) (sym there) (omega arith)
]

pub committed_most : (stage : PageStage) → after stage ≡ stage → steps_left stage ≤ 6
committed_most stage still = elim (still_either stage still) [
  | inl fresh ↦ subst (λ (s : PageStage). steps_left s ≤ 6) (sym fresh) (omega arith)
  | inr there ↦ subst (λ (s : PageStage). steps_left s ≤ 6) (sym there) (omega arith)
]
