-- Bytes that are stored in two parts.
use Rattle.std.specs.Prelude.{◌≡◌, ℕ, suc, ◌+◌, ◌&&◌, Bool, true, false, List, [], ◌∷◌, ◌++◌, length, map, Contains, Option, Some, None, is_some}
use Rattle.std.proofs.Common.{refl, ap, subst, ◌∙◌, arith}
use Rattle.mem_space.specs.declared.memory.MemPage.{MemPage}
use Rattle.plain_state.specs.declared.objects.Region.{Region}
use Rattle.plain_state.specs.declared.effect.Place.{Place}
use Rattle.plain_state.specs.Objects.{Object, Page, page_numbers}
use Rattle.plain_state.specs.Memory.{is_covered, place_of, places_of, stores_at, with_store, with_stores}
use Rattle.plain_laws.specs.Sound.{AreApart}
use Rattle.link_lists.specs.Lists.{list_at}
use Rattle.kobj_table.specs.declared.objects.Objects.{Objects}
use Rattle.kobj_table.specs.declared.slot.Slot.{Slot}
use Rattle.kobj_table.specs.Slots.{object_of, page_of}
use Rattle.kobj_table.specs.Objects.{slot_at, Rest, state_of}

-- the first of some bytes is covered, and so are the others
record Covered (regions : List Region) (right at count : ℕ) : Type 0 where
  pub place : Place
  pub there : place_of regions right at ≡ Some place
  pub others : is_covered regions right (at + 1) count ≡ true

first_covered : (found : Option Place) (others : Bool) → (is_some found && others) ≡ true → (place : Place) × (found ≡ Some place) × (others ≡ true)
first_covered None others e = absurd (cc)
first_covered (Some place) true e = (place, refl, refl)
first_covered (Some place) false e = absurd (cc)

covered_first : (regions : List Region) (right at count : ℕ) → is_covered regions right at (suc count) ≡ true → Covered regions right at count
covered_first regions right at count all =
    let is = first_covered (place_of regions right at) (is_covered regions right (at + 1) count) all in
    record { place = is.0; there = is.1; others = is.2 }

pub in_parts : (objects : ℕ → Option Object) (regions : List Region) (right at : ℕ) (first behind : List ℕ) → is_covered regions right at (length first) ≡ true
    → with_stores objects (stores_at (places_of regions right at (length first + length behind)) (first ++ behind))
    ≡ with_stores (with_stores objects (stores_at (places_of regions right at (length first)) first)) (stores_at (places_of regions right (at + length first) (length behind)) behind)
in_parts objects regions right at [] behind all =
    let none : at ≡ at + 0 = omega arith in
    let count : 0 + length behind ≡ length behind = omega arith in
    ap (λ (n : ℕ). with_stores objects (stores_at (places_of regions right at n) behind)) count
    ∙ ap (λ (a : ℕ). with_stores objects (stores_at (places_of regions right a (length behind)) behind)) none
in_parts objects regions right at (value ∷ values) behind all =
    let c = covered_first regions right at (length values) all in
    let next = with_store objects (record { place = c.place; value = value }) in
    let rest = in_parts next regions right (at + 1) values behind c.others in
    let count : length (value ∷ values) + length behind ≡ suc (length values + length behind) = omega arith in
    let beyond : at + 1 + length values ≡ at + length (value ∷ values) = omega arith in
    ap (λ (n : ℕ). with_stores objects (stores_at (places_of regions right at n) ((value ∷ values) ++ behind))) count
    ∙ rw c.there (rest ∙ ap (λ (a : ℕ). with_stores (with_stores next (stores_at (places_of regions right (at + 1) (length values)) values))
    (stores_at (places_of regions right a (length behind)) behind)) beyond)

-- Which pages objects have doesn't hang on their content.

numbers_alike : (first second : ℕ → ℕ → ℕ) (pages : List MemPage) → map (λ (p : Page). p.number) (map (page_of first) pages) ≡ map (λ (p : Page). p.number) (map (page_of second) pages)
numbers_alike first second [] = refl
numbers_alike first second (p ∷ pages) = rw (numbers_alike first second pages) refl

slots_alike : (first second : ℕ → ℕ → ℕ) (slot : Slot) (listed : List ℕ) → page_numbers (object_of first slot listed) ≡ page_numbers (object_of second slot listed)
slots_alike first second Slot.Empty listed = refl
slots_alike first second (Slot.Group g) listed = refl
slots_alike first second (Slot.Thread t) listed = refl
slots_alike first second (Slot.Space s) listed = refl
slots_alike first second (Slot.Memory m) listed = numbers_alike first second m.pages.items
slots_alike first second (Slot.Connection c) listed = refl
slots_alike first second (Slot.Notification n) listed = refl
slots_alike first second (Slot.Ring r) listed = refl
slots_alike first second (Slot.Scheduler c) listed = refl

numbers_same : (o : Objects) (rest : Rest) (content : ℕ → ℕ → ℕ) (i : ℕ)
    → page_numbers ((state_of o (record rest { content = content })).objects i) ≡ page_numbers ((state_of o rest).objects i)
unfolding state_of
numbers_same o rest content i = slots_alike content rest.content (slot_at o i) (list_at o.links i)

pub still_apart : (o : Objects) (rest : Rest) (content : ℕ → ℕ → ℕ) → AreApart (state_of o rest) → AreApart (state_of o (record rest { content = content }))
still_apart o rest content apart =
    let has = λ (i page : ℕ) (there : Contains (page_numbers ((state_of o (record rest { content = content })).objects i)) page).
    subst (λ (l : List ℕ). Contains l page) (numbers_same o rest content i) there in
    record {
      in_range = λ i page there. apart.in_range i page (has i page there);
      once = λ i. rw (numbers_same o rest content i) (apart.once i);
      apart = λ i j page here there. apart.apart i j page (has i page here) (has j page there);
    }
