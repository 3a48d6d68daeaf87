-- Pages of objects: what a change of objects does to them.
use Rattle.std.specs.Prelude.{◌≡◌, ◌≢◌, ◌⊎◌, ℕ, zero, suc, ◌<◌, ◌≤◌, ◌==◌, Bool, true, false, if◌then◌else◌, List, [], ◌∷◌, ◌++◌, length, map, take, AllPairs, Contains, Option, Some, slice_index_or, slice_set}
use Rattle.std.specs.List.{list_any}
use Rattle.std.proofs.Common.{refl, ap, sym, ◌∙◌, subst, arith, inl, inr}
use Rattle.std.proofs.lemmas.Bool.{cases_eq, cases_lt, eq-eqb}
use Rattle.std.proofs.lemmas.List.{get_or-take, length-take}
use Rattle.std.proofs.lemmas.List.Elements.{All-contains}
use Rattle.sls_base.specs.declared.limits.TheConstants.{OBJECTS, PAGES}
use Rattle.plain_state.specs.declared.effect.ByteStore.{ByteStore}
use Rattle.plain_state.specs.declared.effect.Place.{Place}
use Rattle.plain_model.specs.Objects.{Object, Memory, Page, page_numbers, new_memory, every_object}
use Rattle.plain_model.specs.States.{State, with_object}
use Rattle.plain_model.specs.Memory.{memory_with, with_store, with_stores, page_with, no_page}
use Rattle.plain_model.specs.Worlds.{World, free_objects, free_pages, has_page}
use Rattle.plain_model.specs.Effects.{Change}
use Rattle.plain_model.specs.Ticks.{with_changes}
use Rattle.plain_model.specs.CallEffects.{new_id}
use Rattle.plain_laws.specs.Laws.{IsFreePage}
use Rattle.plain_laws.specs.Sound.{AreApart}
use Rattle.sls_base.proofs.ListTests.{IsIn, any_in, in_range}
use Rattle.plain_laws.proofs.Free.{index_in, least_free, pages_are_free, pages_rise}
use Rattle.plain_laws.proofs.PlacedObjects.{of_each}

-- Objects whose pages are apart, and where no number out of range has pages.
pub record AreGood (objects : ℕ → Option Object) : Type 0 where
  pub in_range : (i page : ℕ) → Contains (page_numbers (objects i)) page → page < PAGES
  pub once : (i : ℕ) → AllPairs (λ p q. p ≢ q) (page_numbers (objects i))
  pub apart : (i j page : ℕ) → Contains (page_numbers (objects i)) page → Contains (page_numbers (objects j)) page → i ≡ j
  pub numbers : (i : ℕ) → OBJECTS ≤ i → page_numbers (objects i) ≡ []

pub good_apart : (s : State) → AreGood s.objects → AreApart s
good_apart s h = record { in_range = h.in_range; once = h.once; apart = h.apart }

-- An object keeps its pages or has none then.

abbrev pub HasSameOrNone : Option Object → Option Object → Type 0
HasSameOrNone old new = (page_numbers new ≡ page_numbers old) ⊎ (page_numbers new ≡ [])

abbrev pub HaveSameOrNone : (ℕ → Option Object) → (ℕ → Option Object) → Type 0
HaveSameOrNone old new = (i : ℕ) → HasSameOrNone (old i) (new i)

pub same_or_none_more : (a b c : Option Object) → HasSameOrNone a b → HasSameOrNone b c → HasSameOrNone a c
same_or_none_more a b c (inl e) (inl f) = inl (f ∙ e)
same_or_none_more a b c (inr e) (inl f) = inr (f ∙ e)
same_or_none_more a b c h (inr f) = inr f

pub have_more : (a b c : ℕ → Option Object) → HaveSameOrNone a b → HaveSameOrNone b c → HaveSameOrNone a c
have_more a b c h k = λ i. same_or_none_more (a i) (b i) (c i) (h i) (k i)

pub in_none : (page : ℕ) → Contains {X = ℕ} [] page → ⊥
in_none page h = (let l = h.1 in absurd (omega arith))

pub had : (old new : Option Object) (page : ℕ) → HasSameOrNone old new → Contains (page_numbers new) page → Contains (page_numbers old) page
had old new page (inl e) h = subst (λ (l : List ℕ). Contains l page) e h
had old new page (inr e) h = absurd (in_none page (subst (λ (l : List ℕ). Contains l page) e h))

pub none_twice : AllPairs (λ (p q : ℕ). p ≢ q) []
none_twice = λ i j d l m. absurd (omega arith)

pub still_once : (old new : Option Object) → HasSameOrNone old new → AllPairs (λ p q. p ≢ q) (page_numbers old) → AllPairs (λ p q. p ≢ q) (page_numbers new)
still_once old new (inl e) h = subst (λ (l : List ℕ). AllPairs (λ p q. p ≢ q) l) (sym e) h
still_once old new (inr e) h = subst (λ (l : List ℕ). AllPairs (λ p q. p ≢ q) l) (sym e) none_twice

pub still_none : (old new : Option Object) → HasSameOrNone old new → page_numbers old ≡ [] → page_numbers new ≡ []
still_none old new (inl e) h = e ∙ h
still_none old new (inr e) h = e

pub good_from : (old new : ℕ → Option Object) → HaveSameOrNone old new → AreGood old → AreGood new
good_from old new h good = record {
  in_range = λ i page c. good.in_range i page (had (old i) (new i) page (h i) c);
  once = λ i. still_once (old i) (new i) (h i) (good.once i);
  apart = λ i j page c d. good.apart i j page (had (old i) (new i) page (h i) c) (had (old j) (new j) page (h j) d);
  numbers = λ i out. still_none (old i) (new i) (h i) (good.numbers i out);
}

-- An object with no pages.

pub have_bare : (objects : ℕ → Option Object) (id : ℕ) (object : Object) → page_numbers (Some object) ≡ [] → HaveSameOrNone objects (with_object objects id object)
have_bare objects id object e = of_each (λ i o. HasSameOrNone (objects i) o) objects id object (inr e) (λ i ne. inl refl)

abbrev pub AreBare : List Change → Type 0
AreBare [] = Unit {0}
AreBare (change ∷ changes) = (page_numbers (Some change.object) ≡ []) × AreBare changes

pub bare_append : (changes more : List Change) → AreBare changes → AreBare more → AreBare (changes ++ more)
bare_append [] more h k = k
bare_append (change ∷ changes) more h k = (h.0, bare_append changes more h.1 k)

pub have_changed : (changes : List Change) (objects : ℕ → Option Object) → AreBare changes → HaveSameOrNone objects (with_changes objects changes)
have_changed [] objects h = λ i. inl refl
have_changed (change ∷ changes) objects h =
    have_more objects (with_object objects change.id change.object) (with_changes (with_object objects change.id change.object) changes)
    (have_bare objects change.id change.object h.0)
    (have_changed changes (with_object objects change.id change.object) h.1)

-- Stores.

pub set_page : (pages : List Page) (k : ℕ) (page : Page) → page.number ≡ (slice_index_or pages k no_page).number → map (λ (p : Page). p.number) (slice_set pages k page) ≡ map (λ (p : Page). p.number) pages
set_page [] k page e = refl
set_page (p ∷ pages) zero page e = ap (λ (n : ℕ). n ∷ map (λ (q : Page). q.number) pages) e
set_page (p ∷ pages) (suc k) page e = ap (λ (l : List ℕ). p.number ∷ l) (set_page pages k page e)

pub stored_same : (o : Option Object) (place : Place) (value : ℕ) → page_numbers (memory_with o place value) ≡ page_numbers o
stored_same (Some (Memory pages)) place value = set_page pages place.page (page_with (slice_index_or pages place.page no_page) place.offset value) refl
stored_same o place value = refl

pub store_at_same : (o : Option Object) (store : ByteStore) (b : Bool) → page_numbers (if b then memory_with o store.place store.value else o) ≡ page_numbers o
store_at_same o store true = stored_same o store.place store.value
store_at_same o store false = refl

pub have_stored : (stores : List ByteStore) (objects : ℕ → Option Object) → HaveSameOrNone objects (with_stores objects stores)
have_stored [] objects = λ i. inl refl
have_stored (store ∷ stores) objects =
    have_more objects (with_store objects store) (with_stores (with_store objects store) stores)
    (λ i. inl (store_at_same (objects i) store (i == store.place.memory)))
    (have_stored stores (with_store objects store))

-- A new memory object.

pub numbers_of_new : (numbers : List ℕ) → page_numbers (Some (new_memory numbers)) ≡ numbers
numbers_of_new [] = refl
numbers_of_new (n ∷ numbers) = ap (λ (l : List ℕ). n ∷ l) (numbers_of_new numbers)

pub first_in_range : (xs : List ℕ) → length xs ≡ 0 → slice_index_or xs 0 0 < OBJECTS
first_in_range [] e = omega arith
first_in_range (x ∷ xs) e = absurd (omega arith)

pub new_in_range : (w : World) → new_id w < OBJECTS
new_in_range w = elim (cases_eq (length (free_objects w)) 0) [
  | inl e ↦ first_in_range (free_objects w) e
  | inr ne ↦ (least_free w (omega arith)).in_range
]

pub taken_in : (n : ℕ) (xs : List ℕ) (x : ℕ) → Contains (take n xs) x → Contains xs x
taken_in n xs x h =
    let e = length-take n xs in
    let l = h.1 in
    (h.0, omega arith, sym (get_or-take n xs h.0 x (omega arith)) ∙ h.2)

pub taken_once : (n : ℕ) (xs : List ℕ) → AllPairs (λ p q. p < q) xs → AllPairs (λ p q. p ≢ q) (take n xs)
taken_once n xs h i j d l m =
    let e = length-take n xs in
    let rises = h i j d l (omega arith) in
    rw (get_or-take n xs i d (omega arith), get_or-take n xs j d (omega arith)) (λ same. (omega arith))

pub is_in : (xs : List ℕ) (x : ℕ) → Contains xs x → IsIn x xs
is_in xs x h = subst (λ (y : ℕ). IsIn y xs) h.2 (index_in xs h.0 x h.1)

pub in_no_object : (s : State) (page i : ℕ) → has_page s page ≡ false → i < OBJECTS → Contains (page_numbers (s.objects i)) page → ⊥
unfolding has_page every_object
in_no_object s page i e l h =
    let here : list_any (λ number. number == page) (page_numbers (s.objects i)) ≡ true =
    any_in (λ number. number == page) (page_numbers (s.objects i)) page (is_in (page_numbers (s.objects i)) page h) (eq-eqb page page refl) in
    let found : has_page s page ≡ true =
    any_in (λ j. list_any (λ number. number == page) (page_numbers (s.objects j))) every_object i (in_range 0 OBJECTS i (omega arith) (omega arith)) here in
    absurd (cc)

-- new pages are of no object
pub none_has_new : (w : World) (n page i : ℕ) → AreGood w.now.objects → Contains (take n (free_pages w)) page → Contains (page_numbers (w.now.objects i)) page → ⊥
none_has_new w n page i good new old =
    let free : IsFreePage w page = All-contains (IsFreePage w) (free_pages w) page (pages_are_free w).free (taken_in n (free_pages w) page new) in
    elim (cases_lt i OBJECTS) [
      | inl l ↦ in_no_object w.now page i free.now l old
      | inr l ↦ in_none page (subst (λ (xs : List ℕ). Contains xs page) (good.numbers i l) old)
    ]

-- where one number has new pages, all is as before elsewhere, and the new pages are of no other object
pub good_new : (w : World) (n : ℕ) → AreGood w.now.objects → AreGood (with_object w.now.objects (new_id w) (new_memory (take n (free_pages w))))
good_new w n good =
    let new = take n (free_pages w) in
    let object = new_memory new in
    let objects = w.now.objects in
    let is : page_numbers (Some object) ≡ new = numbers_of_new new in
    let of_new : (page : ℕ) → Contains (page_numbers (Some object)) page → Contains new page = λ page c. subst (λ (xs : List ℕ). Contains xs page) is c in
    record {
      in_range = of_each (λ i o. (page : ℕ) → Contains (page_numbers o) page → page < PAGES) objects (new_id w) object
          (λ page c. (All-contains (IsFreePage w) (free_pages w) page (pages_are_free w).free (taken_in n (free_pages w) page (of_new page c))).in_range)
          (λ i ne. good.in_range i);
      once = of_each (λ i o. AllPairs (λ p q. p ≢ q) (page_numbers o)) objects (new_id w) object
          (subst (λ (xs : List ℕ). AllPairs (λ p q. p ≢ q) xs) (sym is) (taken_once n (free_pages w) (pages_rise w)))
          (λ i ne. good.once i);
      apart = λ i j page. of_each (λ k o. Contains (page_numbers o) page → Contains (page_numbers (with_object objects (new_id w) object j)) page → k ≡ j) objects (new_id w) object
          (λ c. of_each (λ k o. Contains (page_numbers o) page → new_id w ≡ k) objects (new_id w) object
          (λ d. refl)
          (λ k ne d. absurd (none_has_new w n page k good (of_new page c) d)) j)
          (λ k ne c. of_each (λ m o. Contains (page_numbers o) page → k ≡ m) objects (new_id w) object
          (λ d. absurd (none_has_new w n page k good (of_new page d) c))
          (λ m other d. good.apart k m page c d) j)
          i;
      numbers = of_each (λ i o. OBJECTS ≤ i → page_numbers o ≡ []) objects (new_id w) object
          (λ l. (let k = new_in_range w in absurd (omega arith)))
          (λ i ne. good.numbers i);
    }
