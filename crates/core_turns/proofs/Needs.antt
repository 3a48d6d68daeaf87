-- The pages that a tick needs, by the rooms: which keep the core waiting, which it prepares first, and which are ready.
use Rattle.std.specs.Prelude.{◌≡◌, ◌≢◌, ℕ, ◌+◌, ◌<◌, ◌==◌, ◌&&◌, ◌||◌, not, Bool, true, false, List, [], ◌∷◌, map, All}
use Rattle.std.specs.Prelude.{AllPairs, Contains, Option, Some, None}
use Rattle.std.specs.List.{list_any}
use Rattle.std.proofs.Common.{refl, ap, sym, subst, ◌∙◌, arith, inl, inr}
use Rattle.std.proofs.lemmas.Bool.{cases_Bool, eqb-true, false≢true}
use Rattle.sls_base.specs.declared.limits.TheConstants.{PAGES}
use Rattle.sls_base.proofs.ListTests.{and_left, and_right, in_any, or_cases, or_left, or_right}
use Rattle.link_lists.specs.Lists.{list_at}
use Rattle.mem_space.specs.declared.memory.MemPage.{MemPage}
use Rattle.pmem_model.specs.Memory.{Memory, AllHome}
use Rattle.pmem_layout.specs.Places.{runtime_frame}
use Rattle.page_store.specs.declared.stage.PageStage.{PageStage}
use Rattle.page_store.specs.declared.stage.PageStage.TheVariants as stages
use Rattle.page_store.specs.declared.stage.PageState.{PageState}
use Rattle.page_store.specs.declared.stage.PageState.TheVariants.{Preparing, Writable}
use Rattle.page_store.specs.Stages.{state_at, stage_of, state_of}
use Rattle.cow_fault.specs.Faults.{MayFault}
use Rattle.plain_state.specs.Objects.{Page, every_object, page_numbers}
use Rattle.plain_state.specs.States.{State}
use Rattle.plain_state.specs.Worlds as worlds
use Rattle.plain_state.specs.Worlds.{World}
use Rattle.plain_state.specs.Ticks.{Chosen, chosen, must_store, stores_for, touches}
use Rattle.plain_laws.specs.Sound.{AreApart}
use Rattle.plain_laws.specs.Whole.{IsSound}
use Rattle.plain_laws.proofs.ApartImages.{AreDifferent, different_right, not_head}
use Rattle.plain_laws.proofs.Tracked.{tick_stores_there}
use Rattle.kobj_table.specs.declared.slot.Slot.{Slot}
use Rattle.kobj_table.specs.declared.objects.Objects.{Objects}
use Rattle.kobj_table.specs.Objects.{Rest, slot_at, state_of as state_of_objects}
use Rattle.kobj_table.specs.Slots.{object_of, page_of}
use Rattle.object_records.specs.Records.{record_at, record_of}
use Rattle.object_records.specs.Pages.{has_content_in, is_content}
use Rattle.call_readings.specs.Content.{is_page_home}
use Rattle.call_readings.specs.Need.{has_page, page_fetched, IsAtHome}
use Rattle.kernel_calls.specs.Kernel.{Holds}
use Rattle.kernel_calls.specs.Needed.{IsFreshPage, has_fresh}
use Rattle.kernel_calls.proofs.Needed.{all_told, each_told}
use Rattle.core_turns.specs.declared.running.Running.{Running}
use Rattle.core_turns.specs.Runs.{Runs, objects_of, prepared_by}
use Rattle.core_turns.specs.Turns.{Begins, IsAtHand, IsPreparedOf, IsUnwritableOf, IsWritable, Waits}
use Rattle.core_turns.proofs.Marking.{has_it}
use Rattle.core_turns.proofs.TickStores.{contains_number, has_number}

-- A page on which a record has content is fresh nowhere.

abbrev is_fresh : ℕ → MemPage → Bool
is_fresh page p = (p.page == page) && p.fresh

abbrev numbers_of : (ℕ → ℕ → ℕ) → List MemPage → List ℕ
numbers_of content items = map (λ (p : Page). p.number) (map (page_of content) items)

page_among : (content : ℕ → ℕ → ℕ) (page : ℕ) (passes : MemPage → Bool) (items : List MemPage)
    → list_any (λ p. (p.page == page) && passes p) items ≡ true → has_number page (numbers_of content items) ≡ true
page_among content page passes [] is = absurd (cc)
page_among content page passes (p ∷ items) is =
    let behind = has_number page (numbers_of content items) in
    elim (or_cases ((p.page == page) && passes p) (list_any (λ q. (q.page == page) && passes q) items) is) [
      | inl here ↦ or_left (p.page == page) behind (and_left (p.page == page) (passes p) here)
      | inr there ↦ or_right (p.page == page) behind (page_among content page passes items there)
    ]

fresh_and_not : (b : Bool) → b ≡ true → not b ≡ true → ⊥
fresh_and_not true is isnt = false≢true isnt
fresh_and_not false is isnt = false≢true is

-- the first of some pages isn't among the others
not_behind : (content : ℕ → ℕ → ℕ) (page : ℕ) (p : MemPage) (items : List MemPage)
    → AreDifferent (numbers_of content (p ∷ items)) → (p.page == page) ≡ true
    → has_number page (numbers_of content items) ≡ true → ⊥
not_behind content page p items once here there =
    let same : p.page ≡ page = eqb-true p.page page here in
    let numbers = numbers_of content items in
    not_head p.page numbers once (subst (Contains numbers) (sym same) (contains_number numbers page there))

one_mark : (content : ℕ → ℕ → ℕ) (page : ℕ) (items : List MemPage) → AreDifferent (numbers_of content items)
    → list_any (is_fresh page) items ≡ true → list_any (has_it page) items ≡ true → ⊥
one_mark content page [] once fresh has = false≢true fresh
one_mark content page (p ∷ items) once fresh has =
    let at = p.page == page in
    elim (or_cases (is_fresh page p) (list_any (is_fresh page) items) fresh) [
      | inl here ↦ elim (or_cases (has_it page p) (list_any (has_it page) items) has) [
        | inl too ↦ fresh_and_not p.fresh (and_right at p.fresh here) (and_right at (not p.fresh) too)
        | inr there ↦
            not_behind content page p items once (and_left at p.fresh here)
            (page_among content page (λ q. not q.fresh) items there)
      ]
      | inr there ↦ elim (or_cases (has_it page p) (list_any (has_it page) items) has) [
        | inl here ↦
            not_behind content page p items once (and_left at (not p.fresh) here)
            (page_among content page (λ q. q.fresh) items there)
        | inr too ↦ one_mark content page items (different_right (p.page ∷ []) (numbers_of content items) once) there too
      ]
    ]

module _ (content : ℕ → ℕ → ℕ) (page : ℕ) (threads : List ℕ) where
  fresh_among : (slot : Slot) → has_fresh slot page ≡ true → has_number page (page_numbers (object_of content slot threads)) ≡ true
  fresh_among Slot.Empty is = absurd (false≢true is)
  fresh_among (Slot.Group group) is = absurd (false≢true is)
  fresh_among (Slot.Thread thread) is = absurd (false≢true is)
  fresh_among (Slot.Space space) is = absurd (false≢true is)
  fresh_among (Slot.Memory memory) is = page_among content page (λ p. p.fresh) memory.pages.items is
  fresh_among (Slot.Connection c) is = absurd (false≢true is)
  fresh_among (Slot.Notification note) is = absurd (false≢true is)
  fresh_among (Slot.Ring ring) is = and_right ring.fresh _ is
  fresh_among (Slot.Scheduler cores) is = absurd (false≢true is)

  content_among : (slot : Slot) → has_content_in (record_of slot threads) page ≡ true
      → has_number page (page_numbers (object_of content slot threads)) ≡ true
  content_among Slot.Empty is = absurd (false≢true is)
  content_among (Slot.Group group) is = absurd (false≢true is)
  content_among (Slot.Thread thread) is = absurd (false≢true is)
  content_among (Slot.Space space) is = absurd (false≢true is)
  content_among (Slot.Memory memory) is = page_among content page (λ p. not p.fresh) memory.pages.items is
  content_among (Slot.Connection c) is = absurd (false≢true is)
  content_among (Slot.Notification note) is = absurd (false≢true is)
  content_among (Slot.Ring ring) is = and_right (not ring.fresh) _ is
  content_among (Slot.Scheduler cores) is = absurd (false≢true is)

  not_both : (slot : Slot) → AreDifferent (page_numbers (object_of content slot threads)) → has_fresh slot page ≡ true
      → has_content_in (record_of slot threads) page ≡ true → ⊥
  not_both Slot.Empty once fresh has = false≢true fresh
  not_both (Slot.Group group) once fresh has = false≢true fresh
  not_both (Slot.Thread thread) once fresh has = false≢true fresh
  not_both (Slot.Space space) once fresh has = false≢true fresh
  not_both (Slot.Memory memory) once fresh has = one_mark content page memory.pages.items once fresh has
  not_both (Slot.Connection c) once fresh has = false≢true fresh
  not_both (Slot.Notification note) once fresh has = false≢true fresh
  not_both (Slot.Ring ring) once fresh has = fresh_and_not ring.fresh (and_left ring.fresh _ fresh) (and_left (not ring.fresh) _ has)
  not_both (Slot.Scheduler cores) once fresh has = false≢true fresh

pub not_fresh : (o : Objects) (rest : Rest) (page : ℕ) → AreApart (state_of_objects o rest)
    → is_content (record_at o) page ≡ true → IsFreshPage o page → ⊥
unfolding is_content every_object state_of_objects
not_fresh o rest page apart is fresh =
    let found = in_any (λ i. has_content_in (record_at o i) page) every_object is in
    let i = fresh.0 in
    let j = found.0 in
    let numbers = λ (k : ℕ). page_numbers (object_of rest.content (slot_at o k) (list_at o.links k)) in
    let first = contains_number (numbers i) page (fresh_among rest.content page (list_at o.links i) (slot_at o i) fresh.1) in
    let second = contains_number (numbers j) page (content_among rest.content page (list_at o.links j) (slot_at o j) found.2) in
    let same : i ≡ j = apart.apart i j page first second in
    let here = subst (λ (k : ℕ). has_content_in (record_at o k) page ≡ true) (sym same) found.2 in
    not_both rest.content page (list_at o.links i) (slot_at o i) (apart.once i) fresh.1 here

-- What a core may prepare.

pub may_fault : (stage : PageStage) (core : ℕ) → (state_at stage ≡ Writable → ⊥)
    → ((other : ℕ) → state_at stage ≡ Preparing other → ⊥) → MayFault (state_at stage) core
may_fault stages.Fresh core not_yet free = tt
may_fault stages.Protected core not_yet free = tt
may_fault (stages.Preparing other next) core not_yet free = absurd (free other refl)
may_fault (stages.Writable origin writes) core not_yet free = absurd (not_yet refl)

pub goes_on_fault : (state : PageState) (core : ℕ) → state ≡ Preparing core → MayFault state core
goes_on_fault state core is = subst (λ (s : PageState). MayFault s core) (sym is) refl

-- What is told of a tick's needs.

pub record AreNeeds (w : World) (core : ℕ) (touched stored : List ℕ) : Type 0 where
  pub touches_are : (page : ℕ) → has_page touched page ≡ touches w core page
  pub stores_are : (page : ℕ) → has_page stored page ≡ must_store w core page
  pub in_range : All (λ page. page < PAGES) touched
  pub among : All (λ page. has_page touched page ≡ true) stored

-- the same pages are told by other lists
pub told_by : (w : World) (core : ℕ) (touched stored touched' stored' : List ℕ) → touched' ≡ touched → stored' ≡ stored
    → AreNeeds w core touched stored → AreNeeds w core touched' stored'
told_by w core touched stored touched' stored' same_touched same_stored need =
    subst (λ (pages : List ℕ). AreNeeds w core pages stored') (sym same_touched)
    (subst (λ (pages : List ℕ). AreNeeds w core touched pages) (sym same_stored) need)

page_home : (m : Memory) (page : ℕ) → AllHome m → page < PAGES → is_page_home m page ≡ true
page_home m page home below = home (1 + runtime_frame page) (omega arith)

module _ (k : Running) (accepted : List ℕ) (m : Memory) (w : World) (h : Runs k accepted m w) (core : ℕ) where
  pub all_home : (pages : List ℕ) → All (λ page. page < PAGES) pages → All (λ page. is_page_home m page ≡ true) pages
  all_home pages below = λ i d inside. page_home m _ h.home (below i d inside)

  pub fetched_home : IsAtHome m (page_fetched w.now core)
  fetched_home page is below = page_home m page h.home below

  pub needs : (touched stored : List ℕ)
      → ((world : World) (rest : Rest) (page : ℕ) → Holds k.calls accepted m rest world
      → IsAtHome m (page_fetched world.now core) → has_page touched page ≡ touches world core page)
      → ((world : World) (rest : Rest) (page : ℕ) → Holds k.calls accepted m rest world
      → IsAtHome m (page_fetched world.now core) → has_page stored page ≡ must_store world core page)
      → ((world : World) (rest : Rest) → Holds k.calls accepted m rest world → All (λ page. page < PAGES) touched)
      → ((world : World) (rest : Rest) → Holds k.calls accepted m rest world
      → All (λ page. has_page touched page ≡ true) stored)
      → AreNeeds w core touched stored
  needs touched stored touches_are stores_are in_range among = record {
    touches_are = λ page. touches_are w h.rest page h.holds fetched_home;
    stores_are = λ page. stores_are w h.rest page h.holds fetched_home;
    in_range = in_range w h.rest h.holds;
    among = among w h.rest h.holds;
  }

  module _ (touched stored : List ℕ) (need : AreNeeds w core touched stored) where
    pub told_below : (page : ℕ) → has_page touched page ≡ true → page < PAGES
    told_below page told = all_told (λ (p : ℕ). p < PAGES) page touched need.in_range told

    pub stored_told : (page : ℕ) → has_page stored page ≡ true → has_page touched page ≡ true
    stored_told page told = all_told (λ (p : ℕ). has_page touched p ≡ true) page stored need.among told

    pub stored_below : All (λ page. page < PAGES) stored
    stored_below = each_told (λ (p : ℕ). p < PAGES) stored (λ page told. told_below page (stored_told page told))

    pub waits : (page other : ℕ) → prepared_by k core ≡ None → IsPreparedOf k touched page other
        → Waits k m w core page other k m
    waits page other free is = record {
      free = free;
      touched = sym (need.touches_are page) ∙ is.among;
      prepares = (h.prepares other page (told_below page is.among)).1 is.in_hand;
      same = refl;
      memory = refl;
    }

    module _ (none : All (λ page. (other : ℕ) → state_of k.rooms.pages page ≢ Preparing other) touched) where
      at_hand : (page : ℕ) → has_page touched page ≡ true → IsAtHand k page
      at_hand page told other hand =
          all_told (λ (p : ℕ). (c : ℕ) → state_of k.rooms.pages p ≢ Preparing c) page touched none told other
          ((h.prepares other page (told_below page told)).0 hand)

      pub touched_at_hand : (page : ℕ) → touches w core page ≡ true → IsAtHand k page
      touched_at_hand page is = at_hand page (need.touches_are page ∙ is)

      pub first_may : (page : ℕ) → IsUnwritableOf k stored page → MayFault (state_of k.rooms.pages page) core
      first_may page is =
          may_fault (stage_of k.rooms.pages page) core is.not_yet
          (all_told (λ (p : ℕ). (c : ℕ) → state_of k.rooms.pages p ≢ Preparing c) page touched none (stored_told page is.among))

      stored_there : (page : ℕ) (c : Option Chosen) → chosen w.now core ≡ c → stores_for w c page ≡ true
          → worlds.has_page w.now page ≡ true
      stored_there page None is stores = absurd (false≢true stores)
      stored_there page (Some c) is stores =
          let sound = h.holds.sound in
          tick_stores_there w core c (record { placed = sound.placed.0; range = sound.in_range.0; forms = sound.forms.0; names = sound.names.0 })
          page stores

      pub begins : (page : ℕ) → prepared_by k core ≡ None → IsUnwritableOf k stored page → Begins k w core page
      begins page free is =
          let stores = sym (need.stores_are page) ∙ is.among in record {
            free = free;
            there = stored_there page (chosen w.now core) refl stores;
            stores = stores;
            not_yet = is.not_yet;
            at_hand = at_hand page (stored_told page is.among);
          }

    module _ (ready : All (λ page. IsWritable k page) stored) where
      pub stored_writable : (page : ℕ) → must_store w core page ≡ true → IsWritable k page
      stored_writable page is = all_told (λ (p : ℕ). IsWritable k p) page stored ready (need.stores_are page ∙ is)

      pub has_content : (page : ℕ) → page < PAGES → IsWritable k page → is_content (record_at (objects_of k)) page ≡ true
      has_content page below writable = elim (cases_Bool (is_content (record_at (objects_of k)) page)) [
        | inl has ↦ has
        | inr none ↦
            let fresh = ap state_at ((h.fresh page below).1 none) in
            let never : state_at stages.Fresh ≡ Writable = sym fresh ∙ writable in
            absurd (cc)
      ]

      apart_now : AreApart (state_of_objects (objects_of k) h.rest)
      apart_now = subst (λ (s : State). AreApart s) h.holds.now h.holds.sound.apart.0

      pub none_fresh : All (λ page. IsFreshPage (objects_of k) page → ⊥) stored
      none_fresh = each_told (λ (p : ℕ). IsFreshPage (objects_of k) p → ⊥) stored (λ page told.
          let writable = all_told (λ (p : ℕ). IsWritable k p) page stored ready told in
          not_fresh (objects_of k) h.rest page apart_now (has_content page (told_below page (stored_told page told)) writable))
