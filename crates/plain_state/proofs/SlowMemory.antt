-- Places and stores, one after another.
use Rattle.std.specs.Prelude.{◌≡◌, ℕ, zero, suc, ◌+◌, ◌<◌, ◌==◌, Bool, true, false, List, [], ◌∷◌, ◌++◌, length, map, min, take, Option, Some, None, slice_set, slice_index_or}
use Rattle.std.specs.List.{range_with_len, filter_map}
use Rattle.std.proofs.Common.{refl, ap, arith, sym, ◌∙◌}
use Rattle.std.proofs.lemmas.Bool.{eqb-true, eqb-false}
use Rattle.std.proofs.lemmas.List.{map-set, get_or-map, length-map, get_or-set_other}
use Rattle.std.proofs.lemmas.List.Elements.{filter_map-append}
use Rattle.std.proofs.lemmas.Grind.{get_or-set_at}
use mathlib.Core.Path.{fun_ext}
use Rattle.plain_state.specs.declared.effect.Place.{Place}
use Rattle.plain_state.specs.declared.effect.ByteStore.{ByteStore}
use Rattle.plain_state.specs.declared.page.Page.{Page as SlowPage}
use Rattle.plain_state.specs.declared.object.Object.{Object as SlowObject}
use Rattle.plain_state.specs.Objects.{Page, Object}
use Rattle.plain_state.specs.Memory.{no_page, page_with, memory_with, with_store, stores_at}
use Rattle.plain_state.specs.Slow.{page_of, slot_of, objects_of}

-- Places.

pub one_longer : {X : Type 0} → (xs : List X) (x : X) → length (xs ++ x ∷ []) ≡ length xs + 1
one_longer [] x = refl
one_longer (y ∷ ys) x = let e = one_longer ys x in omega arith

nothing_more : {X : Type 0} → (xs : List X) → xs ++ [] ≡ xs
nothing_more [] = refl
nothing_more (x ∷ xs) = ap (λ l. x ∷ l) (nothing_more xs)

pub range_more : (a n : ℕ) → range_with_len a (suc n) ≡ range_with_len a n ++ (a + n) ∷ []
range_more a zero = let e : a + 0 ≡ a = omega arith in rw e refl
range_more a (suc n) = let e : a + suc n ≡ a + 1 + n = omega arith in rw e (ap (λ l. a ∷ l) (range_more (a + 1) n))

pub places_more : (h : ℕ → Option Place) (at n a m : ℕ) → at + n ≡ a → m ≡ suc n → filter_map h (range_with_len at m) ≡ filter_map h (range_with_len at n) ++ filter_map h (a ∷ [])
places_more h at n a m e f =
    ap (λ k. filter_map h (range_with_len at k)) f
    ∙ ap (filter_map h) (range_more at n)
    ∙ filter_map-append h (range_with_len at n) ((at + n) ∷ [])
    ∙ ap (λ k. filter_map h (range_with_len at n) ++ filter_map h (k ∷ [])) e

pub place_found : (h : ℕ → Option Place) (at n a m : ℕ) (before after : List Place) (place : Place) → at + n ≡ a → m ≡ suc n →
    before ≡ filter_map h (range_with_len at n) → h a ≡ Some place → after ≡ before ++ place ∷ [] → after ≡ filter_map h (range_with_len at m)
place_found h at n a m before after place e f was found now =
    now ∙ ap (λ l. l ++ place ∷ []) was ∙ sym (places_more h at n a m e f ∙ rw found refl)

pub place_missed : (h : ℕ → Option Place) (at n a m : ℕ) (before : List Place) → at + n ≡ a → m ≡ suc n →
    before ≡ filter_map h (range_with_len at n) → h a ≡ None → before ≡ filter_map h (range_with_len at m)
place_missed h at n a m before e f was missed =
    was ∙ sym (places_more h at n a m e f ∙ rw missed (nothing_more (filter_map h (range_with_len at n))))

-- Stores.

pub stores_next : (places : List Place) (values : List ℕ) (k : ℕ) (place : Place) (value : ℕ) → k < length places → k < length values →
    place ≡ slice_index_or places k place → value ≡ slice_index_or values k value →
    stores_at (take (suc k) places) (take (suc k) values) ≡ stores_at (take k places) (take k values) ++ (record { place = place; value = value }) ∷ []
stores_next [] values k place value l m e f = absurd (omega arith)
stores_next (p ∷ ps) [] k place value l m e f = absurd (omega arith)
stores_next (p ∷ ps) (v ∷ vs) zero place value l m e f = rw e (rw f refl)
stores_next (p ∷ ps) (v ∷ vs) (suc k) place value l m e f =
    ap (λ (l : List ByteStore). (record { place = p; value = v }) ∷ l) (stores_next ps vs k place value (omega arith) (omega arith) e f)

pub stores_all : (places : List Place) (values : List ℕ) (k : ℕ) → k ≡ min (length places) (length values) → stores_at (take k places) (take k values) ≡ stores_at places values
stores_all [] values zero e = refl
stores_all [] values (suc k) e = refl
stores_all (p ∷ ps) [] zero e = refl
stores_all (p ∷ ps) [] (suc k) e = absurd (omega arith)
stores_all (p ∷ ps) (v ∷ vs) zero e = absurd (omega arith)
stores_all (p ∷ ps) (v ∷ vs) (suc k) e = ap (λ (l : List ByteStore). (record { place = p; value = v }) ∷ l) (stores_all ps vs k (omega arith))

-- A byte that is stored.

pub memory_stored : (pages : List SlowPage) (at : ℕ) (page d : SlowPage) (offset value : ℕ) → at < length pages →
    page_of page ≡ page_with (page_of (slice_index_or pages at d)) offset value →
    map page_of (slice_set pages at page) ≡ slice_set (map page_of pages) at (page_with (slice_index_or (map page_of pages) at no_page) offset value)
memory_stored pages at page d offset value within e =
    map-set page_of pages at page
    ∙ ap (λ (p : Page). slice_set (map page_of pages) at p) (e ∙ ap (λ (p : Page). page_with p offset value) (sym (get_or-map page_of pages at d no_page within)))

pub stored_at : (objects : List (Option SlowObject)) (store : ByteStore) (o d : Option SlowObject) (i : ℕ) (b : Bool) → (i == store.place.memory) ≡ b →
    store.place.memory < length objects → slot_of o ≡ memory_with (slot_of (slice_index_or objects store.place.memory d)) store.place store.value →
    objects_of (slice_set objects store.place.memory o) i ≡ with_store (objects_of objects) store i
stored_at objects store o d i true same within e =
    let here : i ≡ store.place.memory = eqb-true i store.place.memory same in
    let inside : store.place.memory < length (map slot_of objects) = (let l = length-map objects slot_of in omega arith) in
    rw same (ap (λ (l : List (Option Object)). slice_index_or l i None) (map-set slot_of objects store.place.memory o)
    ∙ get_or-set_at (map slot_of objects) store.place.memory i (slot_of o) None here inside
    ∙ e
    ∙ sym (ap (λ (slot : Option Object). memory_with slot store.place store.value)
    (ap (λ k. slice_index_or (map slot_of objects) k None) here ∙ get_or-map slot_of objects store.place.memory d None within)))
stored_at objects store o d i false same within e =
    rw same (ap (λ (l : List (Option Object)). slice_index_or l i None) (map-set slot_of objects store.place.memory o)
    ∙ get_or-set_other (map slot_of objects) store.place.memory i (slot_of o) None (eqb-false i store.place.memory same))

pub stored : (objects : List (Option SlowObject)) (store : ByteStore) (o d : Option SlowObject) →
    store.place.memory < length objects → slot_of o ≡ memory_with (slot_of (slice_index_or objects store.place.memory d)) store.place store.value →
    objects_of (slice_set objects store.place.memory o) ≡ with_store (objects_of objects) store
stored objects store o d within e = fun_ext (λ i. stored_at objects store o d i (i == store.place.memory) refl within e)
