-- What may befall pages between two commits.
use Rattle.std.specs.Prelude.{◌≡◌, ◌≢◌, ℕ, zero, suc, ◌<◌, List, slice_index_or, Option, Some}
use Rattle.sls_base.specs.declared.limits.TheConstants.{CORES, FRAME_WORDS, PAGES, WORDS}
use Rattle.pmem_layout.specs.Owners.{owner, Pages}
use Rattle.page_store.specs.Shows.{Has, after_store}
use Rattle.page_store.specs.Stages.{state_of}
use Rattle.page_store.specs.declared.stage.PageState.TheVariants as state
use Rattle.page_store.specs.declared.store.PageStore.{PageStore}
use Rattle.cow_fault.specs.Faults.{MayFault}
use Rattle.cow_fault.specs.declared.history.Event.{Event}
use Rattle.cow_fault.specs.declared.history.Event.TheVariants.{Fault, Store, FlushPage, Flush, Fence, WriteBack, StoreElsewhere, Cut}

-- it names a core, a page and a word that there are
abbrev pub IsPossible : Event → Type 0
IsPossible (Fault core page) = (core < CORES) × (page < PAGES)
IsPossible (Store page at value) = (page < PAGES) × (at < FRAME_WORDS)
IsPossible (FlushPage page) = page < PAGES
IsPossible (Flush core at) = (core < CORES) × (at < WORDS)
IsPossible (Fence core) = core < CORES
IsPossible (WriteBack at) = at < WORDS
IsPossible (StoreElsewhere at value) = (at < WORDS) × (owner at ≢ Pages)
IsPossible (Cut steps) = Unit {0}

-- It may happen: a core may take a step of a fault, and a page that is stored to is writable.
abbrev pub MayHappen : PageStore → Event → Type 0
MayHappen s (Fault core page) = MayFault (state_of s page) core
MayHappen s (Store page at value) = state_of s page ≡ state.Writable
MayHappen s (FlushPage page) = Unit {0}
MayHappen s (Flush core at) = Unit {0}
MayHappen s (Fence core) = Unit {0}
MayHappen s (WriteBack at) = Unit {0}
MayHappen s (StoreElsewhere at value) = Unit {0}
MayHappen s (Cut steps) = Unit {0}

-- What the running pages are after an event: after a store those with its word, and after a cut the saved ones, where
-- there are any.
abbrev pub AfterEvent : Event → (ℕ → Option (ℕ → ℕ)) → (ℕ → Option (ℕ → ℕ)) → (ℕ → Option (ℕ → ℕ)) → Type 0
AfterEvent (Fault core page) saved now next = next ≡ now
AfterEvent (Store page at value) saved now next = next ≡ after_store now page at 1 (λ j. value)
AfterEvent (FlushPage page) saved now next = next ≡ now
AfterEvent (Flush core at) saved now next = next ≡ now
AfterEvent (Fence core) saved now next = next ≡ now
AfterEvent (WriteBack at) saved now next = next ≡ now
AfterEvent (StoreElsewhere at value) saved now next = next ≡ now
AfterEvent (Cut steps) saved now next =
    (page : ℕ) (content : ℕ → ℕ) → saved page ≡ Some content → Has (next page) content

-- the event at an index
abbrev pub event_at : List Event → ℕ → Event
event_at events index = slice_index_or events index (Fault 0 0)

-- what they are after the first events, as many as `count`
abbrev pub AfterEvents : List Event → ℕ → (ℕ → Option (ℕ → ℕ)) → (ℕ → Option (ℕ → ℕ)) → (ℕ → Option (ℕ → ℕ))
    → Type 0
AfterEvents events zero saved now next = next ≡ now
AfterEvents events (suc count) saved now next =
    (before : ℕ → Option (ℕ → ℕ)) × AfterEvents events count saved now before
    × AfterEvent (event_at events count) saved before next
