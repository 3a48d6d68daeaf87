-- Which pages come with an effect: those of a new memory object alone, which are free and zero.
use Rattle.std.specs.Prelude.{◌≡◌, ◌⊎◌, ℕ, ◌-◌, ◌==◌, Bool, true, false, if◌then◌else◌, List, [], ◌∷◌, map, take, Contains, Option, Some, None, option_map, slice_get, slice_index_or}
use Rattle.std.specs.List.{list_any}
use Rattle.std.proofs.Common.{refl, ap, sym, ◌∙◌, inl, inr, subst}
use Rattle.std.proofs.lemmas.List.Elements.{All-contains}
use Rattle.std.proofs.lemmas.Option.{slice_get-map, slice_get_within, get_or_from_slice_get}
use Rattle.sls_base.specs.declared.thread.Thread.{Thread as ThreadRecord}
use Rattle.plain_state.specs.declared.calls.Call.{Call}
use Rattle.plain_state.specs.declared.calls.Call.TheVariants.{Yield, Halt, Put, Get, MemNew, Map, Unmap, SpaceNew, GroupNew, CapCopy, CapDrop, ThreadNew, NoteNew, Signal, Wait, ConnNew, ConnCall, Serve, Checkpoint}
use Rattle.plain_state.specs.declared.effect.ByteStore.{ByteStore}
use Rattle.plain_state.specs.declared.effect.Place.{Place}
use Rattle.plain_model.specs.Objects.{Object, Thread, Memory, Page, pages_of, page_numbers, new_page, new_memory}
use Rattle.plain_model.specs.States.{thread_at, with_object}
use Rattle.plain_model.specs.Memory.{memory_with, page_with, no_page, page_at, with_store, with_stores}
use Rattle.plain_model.specs.Worlds.{World, has_page, free_pages}
use Rattle.plain_model.specs.Effects.{Effect, Change}
use Rattle.plain_model.specs.Calls.{arg, id_named, named}
use Rattle.plain_model.specs.CallRefusals.{pages_wanted}
use Rattle.plain_model.specs.CallEffects.{effect_of_call}
use Rattle.plain_model.specs.Instructions.{instruction}
use Rattle.plain_model.specs.Ticks.{Chosen, effect_for, world_of_effect, state_of_effect, with_changes, thread_after, at_slice_end, stores_to, puts_to_page}
use Rattle.plain_laws.specs.Kept.{page_of}
use Rattle.plain_laws.specs.Laws.{IsFreePage}
use Rattle.sls_base.proofs.ListTests.{or_false}
use Rattle.plain_laws.proofs.Free.{pages_are_free}
use Rattle.plain_laws.proofs.Apart.{AreBare, set_page, taken_in}
use Rattle.plain_laws.proofs.ApartCalls.{bare_signal, bare_wait, bare_call, bare_serve}
use Rattle.plain_laws.proofs.PlacedObjects.{of_each}
use Rattle.plain_laws.proofs.Pages.{has_no_pages, stores_keep}
use Rattle.plain_laws.proofs.Walk.{holds_of_instruction}

-- The objects that an effect makes or changes have no pages, or are a new memory object.

abbrev pub IsBareOrNew : World → Object → Type 0
IsBareOrNew w object = (page_numbers (Some object) ≡ []) ⊎ ((n : ℕ) × (object ≡ new_memory (take n (free_pages w))))

abbrev pub AreBareOrNew : World → List Change → Type 0
AreBareOrNew w [] = Unit {0}
AreBareOrNew w (change ∷ changes) = IsBareOrNew w change.object × AreBareOrNew w changes

pub bare_or_new : (w : World) (changes : List Change) → AreBare changes → AreBareOrNew w changes
bare_or_new w [] bare = tt
bare_or_new w (change ∷ changes) bare = (inl bare.0, bare_or_new w changes bare.1)

pub call_of_makes : (w : World) (id : ℕ) (thread : ThreadRecord) (call : Call) → AreBareOrNew w (effect_of_call w id thread call).changes
unfolding effect_of_call
call_of_makes w id thread Yield = tt
call_of_makes w id thread Halt = tt
call_of_makes w id thread Put = tt
call_of_makes w id thread Get = tt
call_of_makes w id thread MemNew = (inr (pages_wanted (arg thread 0), refl), (inl refl, tt))
call_of_makes w id thread Map = (inl refl, tt)
call_of_makes w id thread Unmap = (inl refl, tt)
call_of_makes w id thread SpaceNew = (inl refl, (inl refl, tt))
call_of_makes w id thread GroupNew = (inl refl, (inl refl, tt))
call_of_makes w id thread CapCopy = (inl refl, tt)
call_of_makes w id thread CapDrop = (inl refl, tt)
call_of_makes w id thread ThreadNew = (inl refl, (inl refl, tt))
call_of_makes w id thread NoteNew = (inl refl, (inl refl, tt))
call_of_makes w id thread Signal = bare_or_new w _ (bare_signal w.now thread (id_named w.now thread 0) (named w.now thread 0))
call_of_makes w id thread Wait = bare_or_new w _ (bare_wait id thread (id_named w.now thread 0) (named w.now thread 0))
call_of_makes w id thread ConnNew = (inl refl, (inl refl, tt))
call_of_makes w id thread ConnCall = bare_or_new w _ (bare_call w.now id thread (id_named w.now thread 0) (named w.now thread 0))
call_of_makes w id thread Serve = bare_or_new w _ (bare_serve w.now thread (id_named w.now thread 0) (named w.now thread 0))
call_of_makes w id thread Checkpoint = tt

pub instruction_makes : (w : World) (id : ℕ) (thread : ThreadRecord) → AreBareOrNew w (instruction w id thread).changes
instruction_makes w id thread = holds_of_instruction (λ (e : Effect). AreBareOrNew w e.changes) w id thread (record {
  unfetched = tt;
  fetches = λ e covered h. h;
  illegal = tt;
  sets = λ rd value pc does. tt;
  loads = λ op rd at does covered. tt;
  stores = λ op at value does covered. tt;
  stops_there = λ cause does. tt;
  refuses = λ refusal. tt;
  calls = λ call is unrefused. call_of_makes w id thread call;
})

-- New pages: the saved copy hasn't their numbers, and they are zero.

abbrev pub IsNew : World → Page → Type 0
IsNew w page = (has_page w.saved page.number ≡ false) × ((offset : ℕ) → page.byte offset ≡ 0)

pub new_page_is : (w : World) (n k : ℕ) (page : Page) (number : Option ℕ) → slice_get (take n (free_pages w)) k ≡ number → option_map new_page number ≡ Some page → IsNew w page
new_page_is w n k page None is e = absurd (cc)
new_page_is w n k page (Some number) is e =
    let numbers = take n (free_pages w) in
    let same : new_page number ≡ page = cc in
    let taken : Contains numbers number = (k, slice_get_within numbers k number is, get_or_from_slice_get numbers k number number is) in
    let free = All-contains (IsFreePage w) (free_pages w) number (pages_are_free w).free (taken_in n (free_pages w) number taken) in
    subst (IsNew w) same (free.saved, λ offset. refl)

pub made_page : (w : World) (object : Object) (k : ℕ) (page : Page) → IsBareOrNew w object → slice_get (pages_of (Some object)) k ≡ Some page → IsNew w page
made_page w object k page (inl none) e =
    let f : slice_get (pages_of (Some object)) k ≡ None = ap (λ (pages : List Page). slice_get pages k) (has_no_pages (Some object) none) in
    absurd (cc)
made_page w object k page (inr new) e =
    let numbers = take new.0 (free_pages w) in
    let here : slice_get (map new_page numbers) k ≡ Some page = ap (λ (o : Object). slice_get (pages_of (Some o)) k) (sym new.1) ∙ e in
    new_page_is w new.0 k page (slice_get numbers k) refl (sym (slice_get-map new_page numbers k) ∙ here)

-- a page after changes was there, or is new
pub changed_page : (w : World) (changes : List Change) (now : ℕ → Option Object) (i k : ℕ) (page : Page) → AreBareOrNew w changes → slice_get (pages_of (with_changes now changes i)) k ≡ Some page
    → (slice_get (pages_of (now i)) k ≡ Some page) ⊎ IsNew w page
changed_page w [] now i k page makes e = inl e
changed_page w (change ∷ changes) now i k page makes e =
    elim (changed_page w changes (with_object now change.id change.object) i k page makes.1 e) [
      | inl h ↦ of_each (λ j o. slice_get (pages_of o) k ≡ Some page → (slice_get (pages_of (now j)) k ≡ Some page) ⊎ IsNew w page) now change.id change.object
          (λ here. inr (made_page w change.object k page makes.0 here)) (λ j ne here. inl here) i h
      | inr h ↦ inr h
    ]

-- Stores keep numbers, and so each page to which nothing is stored.

abbrev pub numbers_of : Option Object → List ℕ
numbers_of o = map (λ (page : Page). page.number) (pages_of o)

pub stored_numbers : (o : Option Object) (place : Place) (value : ℕ) → numbers_of (memory_with o place value) ≡ numbers_of o
stored_numbers (Some (Memory pages)) place value = set_page pages place.page (page_with (slice_index_or pages place.page no_page) place.offset value) refl
stored_numbers o place value = refl

pub store_numbers : (o : Option Object) (store : ByteStore) (b : Bool) → numbers_of (if b then memory_with o store.place store.value else o) ≡ numbers_of o
store_numbers o store true = stored_numbers o store.place store.value
store_numbers o store false = refl

pub stores_numbers : (stores : List ByteStore) (objects : ℕ → Option Object) (i : ℕ) → numbers_of (with_stores objects stores i) ≡ numbers_of (objects i)
stores_numbers [] objects i = refl
stores_numbers (store ∷ stores) objects i = stores_numbers stores (with_store objects store) i ∙ store_numbers (objects i) store (i == store.place.memory)

pub page_before : (stores : List ByteStore) (objects : ℕ → Option Object) (i k : ℕ) (page : Page) (before : Option Page) → slice_get (pages_of (objects i)) k ≡ before
    → option_map (λ (p : Page). p.number) before ≡ Some page.number → slice_get (pages_of (with_stores objects stores i)) k ≡ Some page
    → list_any (λ store. (page_at objects store.place).number == page.number) stores ≡ false → slice_get (pages_of (objects i)) k ≡ Some page
page_before stores objects i k page None is number e other = absurd (cc)
page_before stores objects i k page (Some old) is number e other =
    let same : page.number ≡ old.number = cc in
    let unstored : list_any (λ store. (page_at objects store.place).number == old.number) stores ≡ false = rw same at other in
    sym (stores_keep stores objects objects i k old is unstored) ∙ e

pub stores_back : (stores : List ByteStore) (objects : ℕ → Option Object) (i k : ℕ) (page : Page) → slice_get (pages_of (with_stores objects stores i)) k ≡ Some page
    → list_any (λ store. (page_at objects store.place).number == page.number) stores ≡ false → slice_get (pages_of (objects i)) k ≡ Some page
stores_back stores objects i k page e other =
    let number : option_map (λ (p : Page). p.number) (slice_get (pages_of (objects i)) k) ≡ Some page.number =
    sym (slice_get-map (λ (p : Page). p.number) (pages_of (objects i)) k)
    ∙ ap (λ (numbers : List ℕ). slice_get numbers k) (sym (stores_numbers stores objects i))
    ∙ slice_get-map (λ (p : Page). p.number) (pages_of (with_stores objects stores i)) k
    ∙ ap (λ (o : Option Page). option_map (λ (p : Page). p.number) o) e in
    page_before stores objects i k page (slice_get (pages_of (objects i)) k) refl number e other

-- a page after a tick that it doesn't store to was there, or is new
pub effect_page : (w : World) (core : ℕ) (c : Chosen) (i k : ℕ) (page : Page) → page_of (world_of_effect w core c (effect_for w c)).now i k ≡ Some page
    → stores_to w.now (effect_for w c) page.number ≡ false → (page_of w.now i k ≡ Some page) ⊎ IsNew w page
unfolding state_of_effect
effect_page w core c i k page is other =
    let e = effect_for w c in
    let me = c.occupant.thread in
    let stored = with_stores w.now.objects e.stores in
    let done = with_changes stored e.changes in
    let thread = thread_after core (thread_at w.now me) (at_slice_end (c.occupant.slice - 1) e.goes) e in
    let parts = or_false (list_any (λ store. (page_at w.now.objects store.place).number == page.number) e.stores) (puts_to_page e.output page.number) other in
    let before : slice_get (pages_of (done i)) k ≡ Some page =
    of_each (λ j o. slice_get (pages_of o) k ≡ Some page → slice_get (pages_of (done j)) k ≡ Some page) done me (Thread thread)
    (λ none. absurd (cc)) (λ j ne here. here) i is in
    elim (changed_page w e.changes stored i k page (instruction_makes w me (thread_at w.now me)) before) [
      | inl h ↦ inl (stores_back e.stores w.now.objects i k page h parts.0)
      | inr h ↦ inr h
    ]
