-- What a step by which a core prepares a page makes of its stage.
use Rattle.std.specs.Prelude.{◌≡◌, ℕ, false}
use Rattle.std.proofs.Common.{refl, ap, sym, ◌∙◌}
use Rattle.page_store.specs.declared.stage.PageStage.{PageStage}
use Rattle.page_store.specs.declared.stage.PageStage.TheVariants.{Fresh, Protected, Preparing, Writable}
use Rattle.page_store.specs.declared.stage.Preparation.TheVariants.{FlushCopy, FenceCopy, StoreTag, FlushTag, FenceTag}
use Rattle.page_store.specs.declared.stage.Origin.{Origin}
use Rattle.page_store.specs.declared.stage.Writes.TheVariants.{Stored}
use Rattle.page_store.specs.declared.stage.PageState.{PageState}
use Rattle.page_store.specs.declared.stage.PageState.TheVariants as state
use Rattle.page_store.specs.Stages.{state_at}
use Rattle.cow_fault.specs.Faults.{MayFault, faulted}
use Rattle.core_turns.specs.Marks.{is_zeroed}

pub fresh_of : (stage : PageStage) → state_at stage ≡ state.Fresh → stage ≡ Fresh
fresh_of Fresh e = refl
fresh_of Protected e = absurd (cc)
fresh_of (Preparing core next) e = absurd (cc)
fresh_of (Writable origin writes) e = absurd (cc)

-- A step leaves no page fresh.
pub never_fresh : (stage : PageStage) (core : ℕ) → faulted stage core ≡ Fresh → ⊥
never_fresh Fresh core e = cc
never_fresh Protected core e = cc
never_fresh (Preparing c FlushCopy) core e = cc
never_fresh (Preparing c FenceCopy) core e = cc
never_fresh (Preparing c StoreTag) core e = cc
never_fresh (Preparing c FlushTag) core e = cc
never_fresh (Preparing c FenceTag) core e = cc
never_fresh (Writable origin writes) core e = cc

-- Nor does it store to one.
pub never_stored : (stage : PageStage) (core : ℕ) (origin : Origin) → MayFault (state_at stage) core
    → faulted stage core ≡ Writable origin Stored → ⊥
never_stored Fresh core origin may e = cc
never_stored Protected core origin may e = cc
never_stored (Preparing c FlushCopy) core origin may e = cc
never_stored (Preparing c FenceCopy) core origin may e = cc
never_stored (Preparing c StoreTag) core origin may e = cc
never_stored (Preparing c FlushTag) core origin may e = cc
never_stored (Preparing c FenceTag) core origin may e = cc
never_stored (Writable o writes) core origin may e = may

-- A page is zeroed by it only if it was fresh.
pub zeroed_as_before : (stage : PageStage) (core : ℕ) → MayFault (state_at stage) core → (stage ≡ Fresh → ⊥)
    → is_zeroed (faulted stage core) ≡ is_zeroed stage
zeroed_as_before Fresh core may stale = absurd (stale refl)
zeroed_as_before Protected core may stale = refl
zeroed_as_before (Preparing c FlushCopy) core may stale = refl
zeroed_as_before (Preparing c FenceCopy) core may stale = refl
zeroed_as_before (Preparing c StoreTag) core may stale = refl
zeroed_as_before (Preparing c FlushTag) core may stale = refl
zeroed_as_before (Preparing c FenceTag) core may stale = refl
zeroed_as_before (Writable origin writes) core may stale = absurd may

pub fresh_not_zeroed : (stage : PageStage) → stage ≡ Fresh → is_zeroed stage ≡ false
fresh_not_zeroed stage e = ap is_zeroed e

-- A page is in this core's hand after it, or may be stored to.

pub holder_before : (now : PageState) (core c : ℕ) → MayFault now core → now ≡ state.Preparing c → c ≡ core
holder_before state.Fresh core c may e = absurd (cc)
holder_before state.Protected core c may e = absurd (cc)
holder_before (state.Preparing own) core c may e = let same : own ≡ c = cc in sym same ∙ may
holder_before state.Writable core c may e = absurd may
holder_before state.Away core c may e = absurd may

pub holder_after : (stage : PageStage) (core c : ℕ) → MayFault (state_at stage) core
    → state_at (faulted stage core) ≡ state.Preparing c → c ≡ core
holder_after Fresh core c may e = absurd (cc)
holder_after Protected core c may e = let same : core ≡ c = cc in sym same
holder_after (Preparing own FlushCopy) core c may e = let same : own ≡ c = cc in sym same ∙ may
holder_after (Preparing own FenceCopy) core c may e = let same : own ≡ c = cc in sym same ∙ may
holder_after (Preparing own StoreTag) core c may e = let same : own ≡ c = cc in sym same ∙ may
holder_after (Preparing own FlushTag) core c may e = let same : own ≡ c = cc in sym same ∙ may
holder_after (Preparing own FenceTag) core c may e = absurd (cc)
holder_after (Writable origin writes) core c may e = absurd may

pub in_hand_after : (stage : PageStage) (core : ℕ) → MayFault (state_at stage) core
    → (state_at (faulted stage core) ≡ state.Writable → ⊥) → state_at (faulted stage core) ≡ state.Preparing core
in_hand_after Fresh core may not_yet = absurd (not_yet refl)
in_hand_after Protected core may not_yet = refl
in_hand_after (Preparing own FlushCopy) core may not_yet = ap state.Preparing may
in_hand_after (Preparing own FenceCopy) core may not_yet = ap state.Preparing may
in_hand_after (Preparing own StoreTag) core may not_yet = ap state.Preparing may
in_hand_after (Preparing own FlushTag) core may not_yet = ap state.Preparing may
in_hand_after (Preparing own FenceTag) core may not_yet = absurd (not_yet refl)
in_hand_after (Writable origin writes) core may not_yet = absurd may
