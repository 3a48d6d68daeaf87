-- What a turn of a core makes of the stages of pages: how many steps are left, and whether a page may be stored to.
use Rattle.std.specs.Prelude.{◌≡◌, ◌⊎◌, ℕ, ◌+◌, ◌≤◌, ◌==◌, false}
use Rattle.std.proofs.Common.{refl, sym, ◌∙◌, inl, inr, arith}
use Rattle.page_store.specs.declared.stage.PageStage.{PageStage}
use Rattle.page_store.specs.declared.stage.PageStage.TheVariants.{Fresh, Protected, Preparing, Writable}
use Rattle.page_store.specs.declared.stage.Preparation.TheVariants.{FlushCopy, FenceCopy, StoreTag, FlushTag, FenceTag}
use Rattle.page_store.specs.declared.stage.PageState.{PageState}
use Rattle.page_store.specs.declared.stage.PageState.TheVariants as state
use Rattle.page_store.specs.Stages.{state_at, stored}
use Rattle.cow_fault.specs.Faults.{faulted, steps_left}
use Rattle.kernel_machine.specs.Sides.{is_writable_at}

-- A page that is stored to has as many steps left, and may be stored to as before.

pub stored_steps : (stage : PageStage) → steps_left (stored stage) ≡ steps_left stage
stored_steps Fresh = refl
stored_steps Protected = refl
stored_steps (Preparing core next) = refl
stored_steps (Writable origin writes) = refl

pub stored_state : (stage : PageStage) → state_at (stored stage) ≡ state_at stage
stored_state Fresh = refl
stored_state Protected = refl
stored_state (Preparing core next) = refl
stored_state (Writable origin writes) = refl

-- A page that may be stored to has no step left, and any other has one.

pub steps_done : (stage : PageStage) → state_at stage ≡ state.Writable → steps_left stage ≡ 0
steps_done Fresh e = absurd (cc)
steps_done Protected e = absurd (cc)
steps_done (Preparing core next) e = absurd (cc)
steps_done (Writable origin writes) e = refl

pub steps_some : (stage : PageStage) → (state_at stage ≡ state.Writable → ⊥) → 1 ≤ steps_left stage
steps_some Fresh not_yet = omega arith
steps_some Protected not_yet = omega arith
steps_some (Preparing core FlushCopy) not_yet = omega arith
steps_some (Preparing core FenceCopy) not_yet = omega arith
steps_some (Preparing core StoreTag) not_yet = omega arith
steps_some (Preparing core FlushTag) not_yet = omega arith
steps_some (Preparing core FenceTag) not_yet = omega arith
steps_some (Writable origin writes) not_yet = absurd (not_yet refl)

pub steps_not_none : (stage : PageStage) → (state_at stage ≡ state.Writable → ⊥) → (steps_left stage == 0) ≡ false
steps_not_none Fresh not_yet = refl
steps_not_none Protected not_yet = refl
steps_not_none (Preparing core FlushCopy) not_yet = refl
steps_not_none (Preparing core FenceCopy) not_yet = refl
steps_not_none (Preparing core StoreTag) not_yet = refl
steps_not_none (Preparing core FlushTag) not_yet = refl
steps_not_none (Preparing core FenceTag) not_yet = refl
steps_not_none (Writable origin writes) not_yet = absurd (not_yet refl)

-- a step takes one of them
pub steps_fall : (stage : PageStage) (core : ℕ) → (state_at stage ≡ state.Writable → ⊥)
    → steps_left (faulted stage core) + 1 ≡ steps_left stage
steps_fall Fresh core not_yet = refl
steps_fall Protected core not_yet = refl
steps_fall (Preparing c FlushCopy) core not_yet = refl
steps_fall (Preparing c FenceCopy) core not_yet = refl
steps_fall (Preparing c StoreTag) core not_yet = refl
steps_fall (Preparing c FlushTag) core not_yet = refl
steps_fall (Preparing c FenceTag) core not_yet = refl
steps_fall (Writable origin writes) core not_yet = absurd (not_yet refl)

-- Whether a page may be stored to.

pub cases_writable : (now : PageState) → (now ≡ state.Writable) ⊎ (now ≡ state.Writable → ⊥)
cases_writable state.Fresh = inr (λ e. cc)
cases_writable state.Protected = inr (λ e. cc)
cases_writable (state.Preparing core) = inr (λ e. cc)
cases_writable state.Writable = inl refl
cases_writable state.Away = inr (λ e. cc)

pub unwritable : (now : PageState) → (now ≡ state.Writable → ⊥) → is_writable_at now ≡ false
unwritable state.Fresh not_yet = refl
unwritable state.Protected not_yet = refl
unwritable (state.Preparing core) not_yet = refl
unwritable state.Writable not_yet = absurd (not_yet refl)
unwritable state.Away not_yet = refl

-- a page in a core's hand isn't writable
pub held_unwritable : (now : PageState) (core : ℕ) → now ≡ state.Preparing core → now ≡ state.Writable → ⊥
held_unwritable now core held writable = (let no : state.Preparing core ≡ state.Writable = sym held ∙ writable in cc)
