-- Laws that show that the definitions are the right ones. Each is the contract of a function in `laws`.
use Rattle.std.specs.Prelude.{◌≡◌, ◌≢◌, ◌⊎◌, ℕ, ◌<◌, ◌≤◌, Bool, true, false, List, ◌++◌, All, AllPairs, Contains, Some, None}
use Rattle.sls_base.specs.declared.limits.TheConstants.{OBJECTS, PAGES}
use Rattle.sls_base.specs.declared.fixed.TheConstants.{FIRST_PROGRAM_OBJECT}
use Rattle.plain_model.specs.Objects.{Scheduler}
use Rattle.plain_model.specs.States.{State}
use Rattle.plain_model.specs.Worlds.{World, is_used_object, is_used_page, free_pages, has_page}
use Rattle.plain_model.specs.Sweep.{leads_to, is_reached, swept, is_swept_otherwise}

-- Reached.

-- an object is reached: one that is always there, and one to which a reached one leads
pub data Reaches (s : State) : ℕ → Type 0 where
  fixed : {i : ℕ} → i < FIRST_PROGRAM_OBJECT → Reaches s i
  led : {from i : ℕ} → Reaches s from → from < OBJECTS → leads_to (s.objects from) i ≡ true → Reaches s i

-- a set has the objects that are always there
abbrev pub HasFixed : (ℕ → Bool) → Type 0
HasFixed set = (i : ℕ) → i < FIRST_PROGRAM_OBJECT → set i ≡ true

-- it has each object to which one of it leads
abbrev pub IsClosed : State → (ℕ → Bool) → Type 0
IsClosed s set = (from i : ℕ) → from < OBJECTS → set from ≡ true → leads_to (s.objects from) i ≡ true → set i ≡ true

-- What is reached is such a set, and is in every such set.
pub record IsLeast (s : State) : Type 0 where
  pub fixed : HasFixed (is_reached s)
  pub closed : IsClosed s (is_reached s)
  pub least : (set : ℕ → Bool) → HasFixed set → IsClosed s set → (i : ℕ) → is_reached s i ≡ true → set i ≡ true

-- What the sweep makes another.

-- The objects that the sweep makes others, or takes away, are those that are told so. Of the scheduler it is the run
-- queue or the cores that change.
pub record IsToldBySweep (s : State) (i : ℕ) : Type 0 where
  pub same : is_swept_otherwise s i ≡ false → (swept s).objects i ≡ s.objects i
  pub other : s.objects i ≢ Some Scheduler → is_swept_otherwise s i ≡ true → (swept s).objects i ≢ s.objects i
  pub scheduler : s.objects i ≡ Some Scheduler → is_reached s i ≡ true → is_swept_otherwise s i ≡ false
      → ((swept s).queue ≡ s.queue) × ((swept s).cores ≡ s.cores)
  pub other_scheduler : s.objects i ≡ Some Scheduler → is_reached s i ≡ true → is_swept_otherwise s i ≡ true
      → ((swept s).queue ≢ s.queue) ⊎ ((swept s).cores ≢ s.cores)

-- Output.

-- one list is the first part of another
abbrev pub IsFirstPart : List (List ℕ) → List (List ℕ) → Type 0
IsFirstPart xs ys = (rest : List (List ℕ)) × (xs ++ rest ≡ ys)

-- what the device has, what the saved copy has put and what the running state has put are each a first part of the next
pub record IsInOrder (w : World) : Type 0 where
  pub released : (channel : ℕ) → IsFirstPart (w.released channel) (w.saved.out channel)
  pub saved : (channel : ℕ) → IsFirstPart (w.saved.out channel) (w.now.out channel)

-- New numbers.

-- a number is in use in neither state, and each number below it is in use
pub record IsLeastFree (w : World) (id : ℕ) : Type 0 where
  pub in_range : id < OBJECTS
  pub now : w.now.objects id ≡ None
  pub saved : w.saved.objects id ≡ None
  pub least : (i : ℕ) → i < id → is_used_object w i ≡ true

-- a page is of no object of either state
pub record IsFreePage (w : World) (page : ℕ) : Type 0 where
  pub in_range : page < PAGES
  pub now : has_page w.now page ≡ false
  pub saved : has_page w.saved page ≡ false

pub record AreFreePages (w : World) : Type 0 where
  pub free : All (IsFreePage w) (free_pages w)
  pub rising : AllPairs (λ p q. p < q) (free_pages w)
  pub all : (page : ℕ) → page < PAGES → is_used_page w page ≡ false → Contains (free_pages w) page

-- no object has a number that none can have
abbrev pub AreInRange : State → Type 0
AreInRange s = (i : ℕ) → OBJECTS ≤ i → s.objects i ≡ None
