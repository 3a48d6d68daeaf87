-- What becomes of rooms where it is noted of pages that words are stored there.
use Rattle.std.specs.Prelude.{◌≡◌, ◌⊎◌, ℕ, ◌+◌, ◌-◌, ◌<◌, ◌≤◌, ◌==◌, ◌&&◌, ◌||◌, nat_le, nat_lt, Bool, true, false}
use Rattle.std.specs.Prelude.{if◌then◌else◌, List, [], ◌∷◌, ◌++◌, length, take, slice_index, Option}
use Rattle.std.specs.List.{list_any}
use Rattle.std.proofs.Common.{refl, ap, sym, subst, ◌∙◌, arith, inl, inr, take-suc, add-one}
use Rattle.std.proofs.lemmas.Bool.{cases_eq, cases_lt, eq-eqb, ne_eqb, le-ltb, lt-leb}
use Rattle.std.proofs.lemmas.List.Folds.{list_any-append}
use Rattle.sls_base.specs.declared.limits.TheConstants.{FRAME_WORDS}
use Rattle.pmem_model.specs.Words.{Word, is_within, stored as word_stored}
use Rattle.pmem_model.specs.Events.{IsBurst}
use Rattle.pmem_layout.specs.Places.{frame_at, runtime_frame}
use Rattle.object_root.specs.Room.{AllIdle}
use Rattle.page_store.specs.declared.stage.PageStage.{PageStage}
use Rattle.page_store.specs.declared.stage.PageStage.TheVariants.{Fresh, Protected, Preparing, Writable}
use Rattle.page_store.specs.declared.stage.Origin.{Origin}
use Rattle.page_store.specs.declared.stage.Origin.TheVariants.{Zeros, Copy}
use Rattle.page_store.specs.declared.stage.Writes.TheVariants.{Stored}
use Rattle.page_store.specs.declared.stage.PageState.TheVariants as states
use Rattle.page_store.specs.Known.{Open}
use Rattle.page_store.specs.Shows.{after_store}
use Rattle.page_store.specs.Stages.{state_at, stored}
use Rattle.page_store.specs.Stores.{IsStored}
use Rattle.durable_state.specs.Parts.{Parts}
use Rattle.version_rooms.specs.declared.rooms.Rooms.{Rooms}
use Rattle.version_rooms.specs.Rooms.{Contents, RoomsShow}
use Rattle.version_rooms.specs.Rest.{AreAtRest}
use Rattle.call_readings.specs.Need.{has_page}

-- The stage of a page of which it was noted, or not.

abbrev pub noted : Bool → PageStage → PageStage
noted b stage = if b then stored stage else stage

stored_state : (stage : PageStage) → state_at (stored stage) ≡ state_at stage
stored_state Fresh = refl
stored_state Protected = refl
stored_state (Preparing core next) = refl
stored_state (Writable origin writes) = refl

pub noted_state : (b : Bool) (stage : PageStage) → state_at (noted b stage) ≡ state_at stage
noted_state true stage = stored_state stage
noted_state false stage = refl

stored_fresh : (stage : PageStage) → stored stage ≡ Fresh → stage ≡ Fresh
stored_fresh Fresh is = refl
stored_fresh Protected is = absurd (cc)
stored_fresh (Preparing core next) is = absurd (cc)
stored_fresh (Writable origin writes) is = absurd (cc)

pub noted_fresh : (b : Bool) (stage : PageStage) → noted b stage ≡ Fresh → stage ≡ Fresh
noted_fresh true stage is = stored_fresh stage is
noted_fresh false stage is = is

pub fresh_noted : (b : Bool) (stage : PageStage) → stage ≡ Fresh → noted b stage ≡ Fresh
fresh_noted true stage is = ap stored is
fresh_noted false stage is = is

pub noted_stored : (b : Bool) (stage : PageStage) (origin : Origin) → noted b stage ≡ Writable origin Stored
    → (b ≡ true) ⊎ (stage ≡ Writable origin Stored)
noted_stored true stage origin is = inl refl
noted_stored false stage origin is = inr is

pub is_stored : (stage : PageStage) → state_at stage ≡ states.Writable → IsStored (stored stage)
is_stored Fresh is = absurd (cc)
is_stored Protected is = absurd (cc)
is_stored (Preparing core next) is = absurd (cc)
is_stored (Writable origin writes) is = tt

-- Page after page.

stored_twice : (stage : PageStage) → stored (stored stage) ≡ stored stage
stored_twice Fresh = refl
stored_twice Protected = refl
stored_twice (Preparing core next) = refl
stored_twice (Writable origin writes) = refl

noted_then : (b : Bool) (stage : PageStage) → stored (noted b stage) ≡ noted (b || true) stage
noted_then true stage = stored_twice stage
noted_then false stage = refl

or_none : (b : Bool) → (b || false) ≡ b
or_none true = refl
or_none false = refl

-- one more of the pages of a list
has_next : (pages : List ℕ) (i page : ℕ) → i < length pages
    → has_page (take (i + 1) pages) page ≡ (has_page (take i pages) page || (slice_index pages i == page))
has_next pages i page inside =
    ap (λ (l : List ℕ). has_page l page) (ap (λ (n : ℕ). take n pages) (add-one i) ∙ take-suc pages i 0 inside)
    ∙ list_any-append (λ other. other == page) (take i pages) (slice_index pages i ∷ [])
    ∙ ap (λ (b : Bool). has_page (take i pages) page || b) (or_none (slice_index pages i == page))

module _ (pages : List ℕ) (i : ℕ) (inside : i < length pages) (first old new : ℕ → PageStage)
    (here : new (slice_index pages i) ≡ stored (old (slice_index pages i)))
    (others : (page : ℕ) → (page ≡ slice_index pages i → ⊥) → new page ≡ old page)
    (before : (page : ℕ) → old page ≡ noted (has_page (take i pages) page) (first page)) where
  abbrev this : ℕ
  this = slice_index pages i

  at_this : new this ≡ noted (has_page (take (i + 1) pages) this) (first this)
  at_this =
      here ∙ ap stored (before this) ∙ noted_then (has_page (take i pages) this) (first this)
      ∙ ap (λ (b : Bool). noted (has_page (take i pages) this || b) (first this)) (sym (eq-eqb this this refl))
      ∙ ap (λ (b : Bool). noted b (first this)) (sym (has_next pages i this inside))

  at_other : (page : ℕ) → (page ≡ this → ⊥) → new page ≡ noted (has_page (take (i + 1) pages) page) (first page)
  at_other page apart =
      others page apart ∙ before page
      ∙ ap (λ (b : Bool). noted b (first page)) (sym (or_none (has_page (take i pages) page)))
      ∙ ap (λ (b : Bool). noted (has_page (take i pages) page || b) (first page)) (sym (ne_eqb this page (λ e. apart (sym e))))
      ∙ ap (λ (b : Bool). noted b (first page)) (sym (has_next pages i page inside))

  pub noted_next : (page : ℕ) → new page ≡ noted (has_page (take (i + 1) pages) page) (first page)
  noted_next page = elim (cases_eq page this) [
    | inl is ↦ subst (λ (n : ℕ). new n ≡ noted (has_page (take (i + 1) pages) n) (first n)) (sym is) at_this
    | inr apart ↦ at_other page apart
  ]

-- Rooms at rest.

within_none : (at i : ℕ) → is_within at 0 i ≡ false
within_none at i = elim (cases_lt i at) [
  | inl before ↦ ap (λ (b : Bool). b && nat_lt i (at + 0)) (lt-leb at i before)
  | inr from ↦ ap (λ (b : Bool). nat_le at i && b) (le-ltb i (at + 0) (omega (arith, from))) ∙ and_none (nat_le at i)
]
  where
    and_none : (b : Bool) → (b && false) ≡ false
    and_none true = refl
    and_none false = refl

none_stored : (f : ℕ → Word) (at : ℕ) (value : ℕ → ℕ) → IsBurst f f at 0 value
none_stored f at value = record {
  words = λ i. sym (ap (λ (b : Bool). if b then word_stored (value (i - at)) (f i) else f i) (within_none at i));
}

-- what noting of a page that words are stored there, as many as one likes, keeps of rooms
abbrev pub KeepsStored : Rooms → Rooms → ℕ → Type 0
KeepsStored old new page = (f g : ℕ → Word) (v : ℕ) (c : Contents) (at count : ℕ) (value : ℕ → ℕ)
    → at + count ≤ FRAME_WORDS → IsBurst f g (frame_at (runtime_frame page) + at) count value → RoomsShow old f v c Open
    → RoomsShow new g v (record c { pages = after_store c.pages page at count value }) Open

pub stays_at_rest : (old new : Rooms) (page : ℕ) → KeepsStored old new page → new ≡ record old { pages = new.pages }
    → (f : ℕ → Word) (v : ℕ) (saved : Parts) (now : ℕ → Option (ℕ → ℕ)) → AreAtRest old f v saved now
    → AreAtRest new f v saved (after_store now page 0 0 (λ j. 0))
stays_at_rest old new page law same f v saved now h =
    let value : ℕ → ℕ = λ j. 0 in record {
      shows = λ objects. law f f v (record { saved = saved; objects = objects; pages = now }) 0 0 value (omega arith)
          (none_stored f (frame_at (runtime_frame page) + 0) value) (h.shows objects);
      committer = ap (λ (r : Rooms). r.committer.version) same ∙ h.committer;
      records = ap (λ (r : Rooms). r.roots.phase) same ∙ h.records;
      idle = subst (λ (r : Rooms). AllIdle r.roots) (sym same) h.idle;
      log = ap (λ (r : Rooms). r.numbers.work.stage) same ∙ h.log;
    }
