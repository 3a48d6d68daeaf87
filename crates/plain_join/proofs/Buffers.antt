-- The memory that the thread sees: the one page, from address 0 on.
use Rattle.std.specs.Prelude.{◌≡◌, ℕ, zero, suc, ◌+◌, ◌-◌, ◌*◌, ◌/◌, ◌%◌, ◌^◌, ◌<◌, ◌≤◌, ◌==◌, ◌&&◌, nat_lt, nat_le, Bool, true, false, if◌then◌else◌, List, [], ◌∷◌, map, Option, Some, None}
use Rattle.std.specs.List.{range_with_len}
use Rattle.std.proofs.Common.{refl, ap, sym, ◌∙◌, arith, inl, inr}
use Rattle.std.proofs.lemmas.Bool.{cases_lt, cases_eq, eq-eqb, ne_eqb, lt-ltb, le-ltb}
use Rattle.std.proofs.lemmas.Bool.Decides.{nat_tests}
use Rattle.std.proofs.lemmas.Nat.{shr-shr}
use mathlib.Core.Path.{fun_ext}
use Rattle.sls_base.specs.declared.limits.TheConstants.{PAGE_BYTES}
use Rattle.sls_kernel.specs.Plain.{covers as is_in_page, number_at, bytes_at, stored_at}
use Rattle.plain_state.specs.declared.effect.Place.{Place}
use Rattle.plain_state.specs.declared.objects.Region.{Region}
use Rattle.plain_model.specs.Objects.{Object, includes}
use Rattle.plain_model.specs.Memory.{covers, place_of, is_covered, places_of, byte_at, with_store, with_stores, stores_at, number_of_bytes, bytes_of_number}
use Rattle.plain_join.specs.Joined.{memory_object}
use Rattle.plain_join.proofs.Canon.{code_region, code_objects, code_list, are_list, none_past}

abbrev pub code_regions : List Region
code_regions = code_region ∷ []

-- the region gives this right
abbrev pub IsGiven : ℕ → Type 0
IsGiven right = includes 7 right ≡ true

-- where the byte at an address of the page stands
abbrev pub page_place : ℕ → Place
page_place a = record { memory = 9; page = 0; offset = a }

region_covers : (right a : ℕ) → IsGiven right → covers right a code_region ≡ nat_lt a PAGE_BYTES
region_covers right a given = rw given (grind (arith, nat_tests))

place_within : (right a : ℕ) → IsGiven right → a < PAGE_BYTES → place_of code_regions right a ≡ Some (page_place a)
place_within right a given below =
    let test : covers right a code_region ≡ true = region_covers right a given ∙ lt-ltb a PAGE_BYTES below in
    let page : 0 + (a / PAGE_BYTES - 0) ≡ 0 = omega arith in
    let offset : a % PAGE_BYTES ≡ a = omega arith in
    rw test (rw (page, offset) refl)

place_past : (right a : ℕ) → IsGiven right → PAGE_BYTES ≤ a → place_of code_regions right a ≡ None
place_past right a given past =
    let test : covers right a code_region ≡ false = region_covers right a given ∙ le-ltb a PAGE_BYTES past in
    rw test refl

in_page_suc : (at n : ℕ) → at < PAGE_BYTES → is_in_page (at + 1) n ≡ is_in_page at (suc n)
in_page_suc at n below = grind (arith, nat_tests)

past_page_suc : (at n : ℕ) → PAGE_BYTES ≤ at → is_in_page at (suc n) ≡ false
past_page_suc at n past = grind (arith, nat_tests)

-- the thread may reach the same bytes
pub covered : (right at count : ℕ) → IsGiven right → is_covered code_regions right at count ≡ is_in_page at count
covered right at zero given = refl
covered right at (suc n) given = elim (cases_lt at PAGE_BYTES) [
  | inl below ↦
      let place = place_within right at given below in
      let rest = covered right (at + 1) n given in
      rw (place, rest) (in_page_suc at n below)
  | inr past ↦ (let place = place_past right at given past in rw place (sym (past_page_suc at n past)))
]

places_within : (right at count : ℕ) → IsGiven right → at + count ≤ PAGE_BYTES → places_of code_regions right at count ≡ map page_place (range_with_len at count)
places_within right at zero given fits = refl
places_within right at (suc n) given fits =
    let place = place_within right at given (omega arith) in
    let rest = places_within right (at + 1) n given (omega arith) in
    rw (place, rest) refl

fits_in_page : (at n : ℕ) → is_in_page at (suc n) ≡ true → at + suc n ≤ PAGE_BYTES
fits_in_page at n e = grind (arith, nat_tests)

pub places_are : (right at count : ℕ) → IsGiven right → is_in_page at count ≡ true
    → places_of code_regions right at count ≡ map page_place (range_with_len at count)
places_are right at zero given e = refl
places_are right at (suc n) given e = places_within right at (suc n) given (fits_in_page at n e)

-- What is read.
bytes_there : (byte : ℕ → ℕ) (thread : Object) (at count : ℕ)
    → map (byte_at (code_objects (memory_object byte) thread)) (map page_place (range_with_len at count)) ≡ bytes_at byte at count
bytes_there byte thread at zero = refl
bytes_there byte thread at (suc n) = ap (λ (bytes : List ℕ). byte at ∷ bytes) (bytes_there byte thread (at + 1) n)

pub bytes_read : (byte : ℕ → ℕ) (thread : Object) (right at count : ℕ) → IsGiven right → is_in_page at count ≡ true
    → map (byte_at (code_objects (memory_object byte) thread)) (places_of code_regions right at count) ≡ bytes_at byte at count
bytes_read byte thread right at count given e =
    ap (λ (places : List Place). map (byte_at (code_objects (memory_object byte) thread)) places) (places_are right at count given e)
    ∙ bytes_there byte thread at count

number_there : (byte : ℕ → ℕ) (at count : ℕ) → number_of_bytes (bytes_at byte at count) ≡ number_at byte at count
number_there byte at zero = refl
number_there byte at (suc n) = ap (λ (rest : ℕ). byte at + 2 ^ 8 * rest) (number_there byte (at + 1) n)

pub number_read : (byte : ℕ → ℕ) (thread : Object) (right at count : ℕ) → IsGiven right → is_in_page at count ≡ true
    → number_of_bytes (map (byte_at (code_objects (memory_object byte) thread)) (places_of code_regions right at count)) ≡ number_at byte at count
number_read byte thread right at count given e = ap number_of_bytes (bytes_read byte thread right at count given e) ∙ number_there byte at count

-- What is stored.

-- the page and the thread that stay
abbrev with_bytes : Object → (ℕ → ℕ) → ℕ → Option Object
with_bytes thread byte = code_objects (memory_object byte) thread

abbrev with_byte : (ℕ → ℕ) → ℕ → ℕ → ℕ → ℕ
with_byte byte at value a = if a == at then value else byte a

store_past : (byte : ℕ → ℕ) (thread : Object) (at value i : ℕ) → 11 ≤ i
    → with_store (with_bytes thread byte) (record { place = page_place at; value = value }) i ≡ None
store_past byte thread at value i past =
    let other : (i == 9) ≡ false = ne_eqb i 9 (λ e. absurd (omega arith)) in
    rw other (none_past (memory_object byte) thread i past)

store_at : (byte : ℕ → ℕ) (thread : Object) (at value : ℕ)
    → with_store (with_bytes thread byte) (record { place = page_place at; value = value }) ≡ with_bytes thread (with_byte byte at value)
store_at byte thread at value =
    are_list (with_store (with_bytes thread byte) (record { place = page_place at; value = value }))
    (code_list (memory_object (with_byte byte at value)) thread)
    (refl, (refl, (refl, (refl, (refl, (refl, (refl, (refl, (refl, (refl, (refl, tt)))))))))))
    (λ i past. store_past byte thread at value i past)

stored_if : (byte : ℕ → ℕ) (at value a : ℕ) (b : Bool) → (b ≡ true → at + 1 ≤ a)
    → (if b then value / 2 ^ 8 / 2 ^ (8 * (a - (at + 1))) % 2 ^ 8 else byte a) ≡ (if b then value / 2 ^ (8 * (a - at)) % 2 ^ 8 else byte a)
stored_if byte at value a true after =
    let later = after refl in
    let shift : 8 + 8 * (a - (at + 1)) ≡ 8 * (a - at) = omega arith in
    ap (λ (n : ℕ). n % 2 ^ 8) (shr-shr value 8 (8 * (a - (at + 1))) ∙ ap (λ (n : ℕ). value / 2 ^ n) shift)
stored_if byte at value a false after = refl

stored_none : (byte : ℕ → ℕ) (at value a : ℕ) → byte a ≡ stored_at byte at 0 value a
stored_none byte at value a =
    let none : (nat_le at a && nat_lt a (at + 0)) ≡ false = grind (arith, nat_tests) in
    rw none refl

later : (at n a : ℕ) → (a ≡ at → ⊥) → (nat_le at a && nat_lt a (at + suc n)) ≡ true → at + 1 ≤ a
later at n a other e = grind (arith, nat_tests)

-- a byte is stored first, and then those after it
stored_first : (byte : ℕ → ℕ) (at n value a : ℕ)
    → stored_at (with_byte byte at (value % 2 ^ 8)) (at + 1) n (value / 2 ^ 8) a ≡ stored_at byte at (suc n) value a
stored_first byte at n value a = elim (cases_eq a at) [
  | inl here ↦
      let low : (nat_le (at + 1) a && nat_lt a (at + 1 + n)) ≡ false = grind (arith, nat_tests) in
      let high : (nat_le at a && nat_lt a (at + suc n)) ≡ true = grind (arith, nat_tests) in
      let same : (a == at) ≡ true = eq-eqb a at here in
      let off : a - at ≡ 0 = omega arith in
      rw (low, high, same, off) (omega arith)
  | inr other ↦
      let tests : (nat_le (at + 1) a && nat_lt a (at + 1 + n)) ≡ (nat_le at a && nat_lt a (at + suc n)) = grind (arith, nat_tests) in
      let ne : (a == at) ≡ false = ne_eqb a at other in
      rw (tests, ne) (stored_if byte at value a (nat_le at a && nat_lt a (at + suc n)) (λ e. later at n a other e))
]

stores_there : (thread : Object) (count at value : ℕ) (byte : ℕ → ℕ)
    → with_stores (with_bytes thread byte) (stores_at (map page_place (range_with_len at count)) (bytes_of_number count value))
    ≡ with_bytes thread (stored_at byte at count value)
stores_there thread zero at value byte = ap (with_bytes thread) (fun_ext (λ a. stored_none byte at value a))
stores_there thread (suc n) at value byte =
    let first = store_at byte thread at (value % 2 ^ 8) in
    let later = stores_at (map page_place (range_with_len (at + 1) n)) (bytes_of_number n (value / 2 ^ 8)) in
    ap (λ (objects : ℕ → Option Object). with_stores objects later) first
    ∙ stores_there thread n (at + 1) (value / 2 ^ 8) (with_byte byte at (value % 2 ^ 8))
    ∙ ap (with_bytes thread) (fun_ext (stored_first byte at n value))

pub bytes_stored : (byte : ℕ → ℕ) (thread : Object) (right at count value : ℕ) → IsGiven right → is_in_page at count ≡ true
    → with_stores (with_bytes thread byte) (stores_at (places_of code_regions right at count) (bytes_of_number count value))
    ≡ with_bytes thread (stored_at byte at count value)
bytes_stored byte thread right at count value given e =
    ap (λ (places : List Place). with_stores (with_bytes thread byte) (stores_at places (bytes_of_number count value)))
    (places_are right at count given e)
    ∙ stores_there thread count at value byte
