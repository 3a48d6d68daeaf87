-- The places of bytes, one by one.
use Rattle.std.specs.Prelude.{◌≡◌, ℕ, zero, suc, ◌+◌, ◌≤◌, ◌||◌, Bool, true, false, List, [], ◌∷◌, length, map, min, take, Option, Some, None}
use Rattle.std.specs.List.{list_any, range_with_len, cons_option}
use Rattle.std.proofs.Common.{refl, ap, arith, sym, ◌∙◌}
use Rattle.std.proofs.lemmas.List.{length-take-le}
use Rattle.std.proofs.Math.Nat.{min-le_left}
use Rattle.plain_state.specs.declared.effect.Place.{Place}
use Rattle.plain_state.specs.declared.effect.ByteStore.{ByteStore}
use Rattle.plain_state.specs.declared.objects.Region.{Region}
use Rattle.plain_state.specs.Memory.{place_of, places_of, stores_at}

or_none : (b c : Bool) → (b || c) ≡ ((b || false) || c)
or_none true c = refl
or_none false c = refl

any_more : (test : Place → Bool) (place : Option Place) (others : List Place) →
    list_any test (cons_option place others) ≡ (list_any test (cons_option place []) || list_any test others)
any_more test None others = refl
any_more test (Some place) others = or_none (test place) (list_any test others)

-- a test holds at a place of a range where it holds at the place of one of its addresses
pub any_place : (test : Place → Bool) (regions : List Region) (right at count : ℕ) →
    list_any (λ address. list_any test (places_of regions right address 1)) (range_with_len at count) ≡ list_any test (places_of regions right at count)
any_place test regions right at zero = refl
any_place test regions right at (suc count) =
    let more = any_more test (place_of regions right at) (places_of regions right (at + 1) count) in
    rw (more, any_place test regions right (at + 1) count) refl

-- Places of bytes that are stored.

one_place : (place : Option Place) (others : List Place) (n : ℕ) → length others ≤ n → length (cons_option place others) ≤ suc n
one_place None others n few = omega (arith, few)
one_place (Some place) others n few = omega (arith, few)

pub few_places : (regions : List Region) (right at count : ℕ) → length (places_of regions right at count) ≤ count
few_places regions right at zero = omega arith
few_places regions right at (suc count) = one_place (place_of regions right at) (places_of regions right (at + 1) count) count (few_places regions right (at + 1) count)

pub stored_places : (places : List Place) (values : List ℕ) → length places ≤ length values → map (λ (store : ByteStore). store.place) (stores_at places values) ≡ places
stored_places [] values few = refl
stored_places (place ∷ places) [] few = absurd (omega (arith, few))
stored_places (place ∷ places) (value ∷ values) few = ap (λ (l : List Place). place ∷ l) (stored_places places values (omega (arith, few)))

-- what a get stores
pub get_places : (regions : List Region) (right at at' room room' count : ℕ) (input input' : List ℕ) → at' ≡ at → room' ≡ room → input' ≡ input → count ≡ min (length input') room' →
    map (λ (store : ByteStore). store.place) (stores_at (places_of regions right at (min (length input) room)) (take (min (length input) room) input)) ≡ places_of regions right at' count
get_places regions right at at' room room' count input input' e f g h =
    let n = min (length input) room in
    let whole : length (take n input) ≡ n = length-take-le n input (min-le_left (length input) room) in
    let few : length (places_of regions right at n) ≤ length (take n input) = (let p = few_places regions right at n in omega (arith, whole, p)) in
    let same : count ≡ n = h ∙ ap (λ (xs : List ℕ). min (length xs) room') g ∙ ap (min (length input)) f in
    stored_places (places_of regions right at n) (take n input) few ∙ sym (ap (places_of regions right at') same ∙ ap (λ (a : ℕ). places_of regions right a n) e)
