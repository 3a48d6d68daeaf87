-- What of a world is as it was saved: what the sweep leaves, and what hasn't been written since.
use Rattle.std.specs.Prelude.{◌≡◌, ◌≢◌, ◌⊎◌, ℕ, ◌+◌, ◌<◌, true, false, Option, Some, None, slice_get}
use Rattle.sls_base.specs.declared.limits.TheConstants.{OBJECTS}
use Rattle.sls_base.specs.declared.fixed.TheConstants.{SCHEDULER, FIRST_OUTPUT_RING}
use Rattle.plain_model.specs.Objects.{Object, Page, pages_of}
use Rattle.plain_model.specs.States.{State}
use Rattle.plain_model.specs.Worlds.{World, has_page}
use Rattle.plain_model.specs.Sweep.{swept}

-- The saved copy is swept, and what it has is there still.
pub record IsSaved (w : World) : Type 0 where
  pub swept : swept w.saved ≡ w.saved
  pub objects : (i : ℕ) → w.saved.objects i ≢ None → w.now.objects i ≢ None
  pub pages : (page : ℕ) → has_page w.saved page ≡ true → has_page w.now page ≡ true

-- Page k of an object.
abbrev pub page_of : State → ℕ → ℕ → Option Page
page_of s i k = slice_get (pages_of (s.objects i)) k

-- a page of the running state is that of the saved copy, or is of no object there and zero
abbrev pub IsAsSaved : World → ℕ → ℕ → Page → Type 0
IsAsSaved w i k page =
    (page_of w.saved i k ≡ Some page) ⊎ ((has_page w.saved page.number ≡ false) × ((offset : ℕ) → page.byte offset ≡ 0))

-- A number has the same object in the running state and in the saved copy, or none in either.
abbrev pub IsSameInBoth : World → ℕ → Type 0
IsSameInBoth w i =
    ((object : Object) × (w.now.objects i ≡ Some object) × (w.saved.objects i ≡ Some object))
    ⊎ ((w.now.objects i ≡ None) × (w.saved.objects i ≡ None))

-- What wasn't changed is as it was saved: an object, with the queue and the cores the scheduler, with its entries a
-- ring. So is a page that wasn't stored to. What was changed has a number that objects have, and what was stored to
-- is a page that there is.
pub record IsTracked (w : World) : Type 0 where
  pub objects : (i : ℕ) → w.changed i ≡ false → w.now.objects i ≡ w.saved.objects i
  pub queue : w.changed SCHEDULER ≡ false → w.now.queue ≡ w.saved.queue
  pub cores : w.changed SCHEDULER ≡ false → w.now.cores ≡ w.saved.cores
  pub rings : (channel : ℕ) → w.changed (FIRST_OUTPUT_RING + channel) ≡ false → w.now.out channel ≡ w.saved.out channel
  pub pages : (i k : ℕ) (page : Page) → page_of w.now i k ≡ Some page → w.stored page.number ≡ false
      → IsAsSaved w i k page
  pub changed : (i : ℕ) → w.changed i ≡ true → i < OBJECTS
  pub stored : (page : ℕ) → w.stored page ≡ true → has_page w.now page ≡ true
