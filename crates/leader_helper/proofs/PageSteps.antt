-- What a flush makes of the stage of a page.
use Rattle.std.specs.Prelude.{◌≡◌, ◌≢◌, true, false}
use Rattle.std.proofs.Common.{refl}
use Rattle.page_store.specs.declared.stage.PageStage.{PageStage}
use Rattle.page_store.specs.declared.stage.PageStage.TheVariants.{Fresh, Protected, Preparing, Writable}
use Rattle.page_store.specs.declared.stage.Writes.TheVariants.{Nothing, Stored, Flushed}
use Rattle.page_store.specs.Stages.{flushed, state_at, IsFlushed, IsSettled}
use Rattle.leader_helper.specs.Turns.{is_unflushed}

pub settled_flushed : (stage : PageStage) → is_unflushed stage ≡ false → IsSettled stage → IsFlushed stage
settled_flushed Fresh clear settled = tt
settled_flushed Protected clear settled = tt
settled_flushed (Preparing core next) clear settled = settled
settled_flushed (Writable origin Nothing) clear settled = tt
settled_flushed (Writable origin Stored) clear settled = absurd (cc)
settled_flushed (Writable origin Flushed) clear settled = tt

pub flushed_flushed : (stage : PageStage) → is_unflushed stage ≡ true → IsFlushed (flushed stage)
flushed_flushed Fresh set = tt
flushed_flushed Protected set = tt
flushed_flushed (Preparing core next) set = absurd (cc)
flushed_flushed (Writable origin Nothing) set = tt
flushed_flushed (Writable origin Stored) set = tt
flushed_flushed (Writable origin Flushed) set = tt

pub flushed_settled : (stage : PageStage) → IsSettled stage → IsSettled (flushed stage)
flushed_settled Fresh settled = tt
flushed_settled Protected settled = tt
flushed_settled (Preparing core next) settled = settled
flushed_settled (Writable origin Nothing) settled = tt
flushed_settled (Writable origin Stored) settled = tt
flushed_settled (Writable origin Flushed) settled = tt

pub flushed_clear : (stage : PageStage) → is_unflushed (flushed stage) ≡ false
flushed_clear Fresh = refl
flushed_clear Protected = refl
flushed_clear (Preparing core next) = refl
flushed_clear (Writable origin Nothing) = refl
flushed_clear (Writable origin Stored) = refl
flushed_clear (Writable origin Flushed) = refl

pub is_clear : (stage : PageStage) → IsFlushed stage → is_unflushed stage ≡ false
is_clear Fresh flush = refl
is_clear Protected flush = refl
is_clear (Preparing core next) flush = refl
is_clear (Writable origin Nothing) flush = refl
is_clear (Writable origin Stored) flush = absurd flush
is_clear (Writable origin Flushed) flush = refl

pub same_state : (stage : PageStage) → state_at (flushed stage) ≡ state_at stage
same_state Fresh = refl
same_state Protected = refl
same_state (Preparing core next) = refl
same_state (Writable origin Nothing) = refl
same_state (Writable origin Stored) = refl
same_state (Writable origin Flushed) = refl

pub is_moved : (stage : PageStage) → is_unflushed stage ≡ true → flushed stage ≢ stage
is_moved Fresh set = absurd (cc)
is_moved Protected set = absurd (cc)
is_moved (Preparing core next) set = absurd (cc)
is_moved (Writable origin Nothing) set = absurd (cc)
is_moved (Writable origin Stored) set = λ e. cc
is_moved (Writable origin Flushed) set = absurd (cc)
