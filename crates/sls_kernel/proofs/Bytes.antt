-- Numbers in the bytes of a word.
use Rattle.std.proofs.Common.{◌≡◌, ℕ, zero, suc, ◌+◌, ◌-◌, ◌*◌, ◌/◌, ◌%◌, ◌^◌, ◌<◌, ◌≤◌, ◌==◌, ◌&&◌, nat_le, nat_lt, true, false, if◌then◌else◌, List, length, slice_index, get_or, take, drop, ◌⊎◌, set, arith, refl, ap, sym, ◌∙◌, ⊎_elim}
use Rattle.std.proofs.lemmas.Bool.{cases_lt, cases_eq, eq-eqb, ne_eqb, le-leb, lt-ltb}
use Rattle.std.proofs.lemmas.List.{get_or-set_other, get_or-set_same, length-set, set_past, get_or-take, get_or-drop, get_or_past, length-take}
use Rattle.std.proofs.lemmas.Grind.{get_or-set_at}
use Rattle.std.proofs.lemmas.Bool.Decides.{nat_tests}
use Rattle.std.proofs.lemmas.Nat.{mod-pow-add, shr-shr, le_bytes_8}
use Rattle.sls_kernel.specs.Plain.{number_at, stored_at}
use Rattle.sls_kernel.specs.Words.{byte_of, IsPage}
use Rattle.sls_kernel.specs.Steps.{IsSize}
use Rattle.std.specs.Int.{w32, w64, to_le_bytes, from_le_bytes}

pub byte_is : (word k : ℕ) → k < 8 → byte_of word k ≡ word / 2 ^ (8 * k) % 2 ^ 8
byte_is word zero h = omega arith
byte_is word (suc zero) h = refl
byte_is word (suc (suc zero)) h = refl
byte_is word (suc (suc (suc zero))) h = refl
byte_is word (suc (suc (suc (suc zero)))) h = refl
byte_is word (suc (suc (suc (suc (suc zero))))) h = refl
byte_is word (suc (suc (suc (suc (suc (suc zero)))))) h = refl
byte_is word (suc (suc (suc (suc (suc (suc (suc zero))))))) h = refl
byte_is word (suc (suc (suc (suc (suc (suc (suc (suc k)))))))) h = absurd (omega arith)

-- a number is read alike where its bytes are alike
pub number_at-same : (f g : ℕ → ℕ) (a b n : ℕ) → ((j : ℕ) → j < n → f (a + j) ≡ g (b + j)) → number_at f a n ≡ number_at g b n
number_at-same f g a b zero same = refl
number_at-same f g a b (suc n) same =
    let first : f a ≡ g b = let e = same 0 (omega arith) in grind (arith, e) in
    let rest = number_at-same f g (a + 1) (b + 1) n (λ j h. let e = same (1 + j) (omega arith) in grind (arith, e)) in
    rw (first, rest) refl

-- the number in the bytes of a word
pub number_in-word : (word k n : ℕ) → k + n ≤ 8 → number_at (byte_of word) k n ≡ word / 2 ^ (8 * k) % 2 ^ (8 * n)
number_in-word word k zero h = omega arith
number_in-word word k (suc n) h =
    let rest = number_in-word word (k + 1) n (omega arith) in
    let first = byte_is word k (omega arith) in
    let up : word / 2 ^ (8 * (k + 1)) ≡ word / 2 ^ (8 * k) / 2 ^ 8 = ap (λ e. word / 2 ^ e) (omega arith) ∙ sym (shr-shr word (8 * k) 8) in
    let split : word / 2 ^ (8 * k) % 2 ^ (8 * suc n) ≡ (word / 2 ^ (8 * k) / 2 ^ 8 % 2 ^ (8 * n)) * 2 ^ 8 + word / 2 ^ (8 * k) % 2 ^ 8 =
    ap (λ e. word / 2 ^ (8 * k) % 2 ^ e) (omega arith) ∙ mod-pow-add (word / 2 ^ (8 * k)) (8 * n) 8 in
    rw (rest, first, up, split) (omega arith)

-- the bytes of the word that bytes make
pub byte_of-word : (bytes : List ℕ) (n : ℕ) → length bytes ≡ 8 → ((i : ℕ) → get_or bytes i 0 < 256) → n ≡ from_le_bytes w64 bytes → (j : ℕ) → byte_of n j ≡ slice_index bytes j
byte_of-word bytes n size small is j = ap (λ (l : List ℕ). slice_index l j) (le_bytes_8 bytes n size small is)

-- one more byte of a number is stored
stored_more : (f : ℕ → ℕ) (bytes : List ℕ) (k n value place byte : ℕ) → place ≡ k + n → place < length bytes → byte ≡ value / 2 ^ (8 * n) % 2 ^ 8 → ((j : ℕ) → slice_index bytes j ≡ stored_at f k n value j) → (j : ℕ) → slice_index (set bytes place byte) j ≡ stored_at f k (n + 1) value j
stored_more f bytes k n value place byte at room is same j =
    ⊎_elim
    (λ (here : j ≡ place).
    let e : j - k ≡ n = omega arith in
    let low : nat_le k j ≡ true = le-leb k j (omega arith) in
    let high : nat_lt j (k + (n + 1)) ≡ true = lt-ltb j (k + (n + 1)) (omega arith) in
    rw (low, high, e, ← is) (get_or-set_at bytes place j byte 0 here room))
    (λ (other : j ≡ place → ⊥).
    get_or-set_other bytes place j byte 0 other ∙ same j ∙ grind (arith, nat_tests))
    (cases_eq j place)

pub set_below : (x : List ℕ) (k value bound i : ℕ) → value < bound → slice_index x i < bound → slice_index (set x k value) i < bound
set_below x k value bound i fits was =
    ⊎_elim
    (λ (here : i ≡ k).
    ⊎_elim
    (λ (inside : k < length x). rw (here, get_or-set_same x k value 0 inside) fits)
    (λ (past : length x ≤ k). rw (set_past x k value past) was)
    (cases_lt k (length x)))
    (λ (other : i ≡ k → ⊥). rw (get_or-set_other x k i value 0 other) was)
    (cases_eq i k)

bytes_below : (word i : ℕ) → slice_index (to_le_bytes w64 word) i < 256
bytes_below word zero = omega arith
bytes_below word (suc zero) = omega arith
bytes_below word (suc (suc zero)) = omega arith
bytes_below word (suc (suc (suc zero))) = omega arith
bytes_below word (suc (suc (suc (suc zero)))) = omega arith
bytes_below word (suc (suc (suc (suc (suc zero))))) = omega arith
bytes_below word (suc (suc (suc (suc (suc (suc zero)))))) = omega arith
bytes_below word (suc (suc (suc (suc (suc (suc (suc zero))))))) = omega arith
bytes_below word (suc (suc (suc (suc (suc (suc (suc (suc i)))))))) = omega arith

bytes_below_4 : (word i : ℕ) → slice_index (to_le_bytes w32 word) i < 256
bytes_below_4 word zero = omega arith
bytes_below_4 word (suc zero) = omega arith
bytes_below_4 word (suc (suc zero)) = omega arith
bytes_below_4 word (suc (suc (suc zero))) = omega arith
bytes_below_4 word (suc (suc (suc (suc i)))) = omega arith

-- the bytes of a word after one, two and four bytes of a number were stored
module _ (word k value : ℕ) (bytes number : List ℕ) (is : bytes ≡ to_le_bytes w64 word) (of : number ≡ to_le_bytes w32 value) where
  bytes_length : length bytes ≡ 8
  bytes_length = ap length is

  pub stored_1 : k + 1 ≤ 8 → (j : ℕ) → slice_index (set bytes k (slice_index number 0)) j ≡ stored_at (byte_of word) k 1 value j
  stored_1 room =
      let size = bytes_length in
      let first : slice_index number 0 ≡ value / 2 ^ (8 * 0) % 2 ^ 8 = ap (λ (l : List ℕ). slice_index l 0) of ∙ omega arith in
      stored_more (byte_of word) bytes k 0 value k (slice_index number 0) (omega arith) (omega arith) first
      (λ j. ap (λ (l : List ℕ). slice_index l j) is ∙ grind (arith, nat_tests))

  pub stored_2 : k + 2 ≤ 8 → (j : ℕ) → slice_index (set (set bytes k (slice_index number 0)) (k + 1) (slice_index number 1)) j ≡ stored_at (byte_of word) k 2 value j
  stored_2 room =
      let size = bytes_length in
      let sized = length-set bytes k (slice_index number 0) in
      stored_more (byte_of word) (set bytes k (slice_index number 0)) k 1 value (k + 1) (slice_index number 1) refl (omega arith) (ap (λ (l : List ℕ). slice_index l 1) of)
      (stored_1 (omega arith))

  pub stored_4 : k + 4 ≤ 8 → (j : ℕ) → slice_index (set (set (set (set bytes k (slice_index number 0)) (k + 1) (slice_index number 1)) (k + 2) (slice_index number 2)) (k + 3) (slice_index number 3)) j ≡ stored_at (byte_of word) k 4 value j
  stored_4 room =
      let two = set (set bytes k (slice_index number 0)) (k + 1) (slice_index number 1) in
      let size = bytes_length in
      let sized = length-set bytes k (slice_index number 0) in
      let sized_2 = length-set (set bytes k (slice_index number 0)) (k + 1) (slice_index number 1) in
      let sized_3 = length-set two (k + 2) (slice_index number 2) in
      stored_more (byte_of word) (set two (k + 2) (slice_index number 2)) k 3 value (k + 3) (slice_index number 3) refl (omega arith) (ap (λ (l : List ℕ). slice_index l 3) of)
      (stored_more (byte_of word) two k 2 value (k + 2) (slice_index number 2) refl (omega arith) (ap (λ (l : List ℕ). slice_index l 2) of)
      (stored_2 (omega arith)))

  number_below : (i : ℕ) → slice_index number i < 256
  number_below i = rw of (bytes_below_4 value i)

  below_1 : (i : ℕ) → slice_index (set bytes k (slice_index number 0)) i < 256
  below_1 i = set_below bytes k (slice_index number 0) 256 i (number_below 0) (rw is (bytes_below word i))

  below_2 : (i : ℕ) → slice_index (set (set bytes k (slice_index number 0)) (k + 1) (slice_index number 1)) i < 256
  below_2 i = set_below (set bytes k (slice_index number 0)) (k + 1) (slice_index number 1) 256 i (number_below 1) (below_1 i)

  below_4 : (i : ℕ) → slice_index (set (set (set (set bytes k (slice_index number 0)) (k + 1) (slice_index number 1)) (k + 2) (slice_index number 2)) (k + 3) (slice_index number 3)) i < 256
  below_4 i =
      let two = set (set bytes k (slice_index number 0)) (k + 1) (slice_index number 1) in
      set_below (set two (k + 2) (slice_index number 2)) (k + 3) (slice_index number 3) 256 i (number_below 3)
      (set_below two (k + 2) (slice_index number 2) 256 i (number_below 2) (below_2 i))

  pub word_1 : (n : ℕ) → k + 1 ≤ 8 → n ≡ from_le_bytes w64 (set bytes k (slice_index number 0)) → (j : ℕ) → byte_of n j ≡ stored_at (byte_of word) k 1 value j
  word_1 n room made j = byte_of-word _ n (length-set _ _ _ ∙ bytes_length) below_1 made j ∙ stored_1 room j

  pub word_2 : (n : ℕ) → k + 2 ≤ 8 → n ≡ from_le_bytes w64 (set (set bytes k (slice_index number 0)) (k + 1) (slice_index number 1)) → (j : ℕ) → byte_of n j ≡ stored_at (byte_of word) k 2 value j
  word_2 n room made j = byte_of-word _ n (length-set _ _ _ ∙ length-set _ _ _ ∙ bytes_length) below_2 made j ∙ stored_2 room j

  pub word_4 : (n : ℕ) → k + 4 ≤ 8 → n ≡ from_le_bytes w64 (set (set (set (set bytes k (slice_index number 0)) (k + 1) (slice_index number 1)) (k + 2) (slice_index number 2)) (k + 3) (slice_index number 3)) → (j : ℕ) → byte_of n j ≡ stored_at (byte_of word) k 4 value j
  word_4 n room made j = byte_of-word _ n (length-set _ _ _ ∙ length-set _ _ _ ∙ length-set _ _ _ ∙ length-set _ _ _ ∙ bytes_length) below_4 made j ∙ stored_4 room j

-- a page after a number was stored within one of its words
pub IsPage-stored : (old new byte : ℕ → ℕ) (at size value word : ℕ) → at % 8 + size ≤ 8 → IsPage old byte → ((j : ℕ) → j < 8 → byte_of word j ≡ stored_at (byte_of (old (at / 8))) (at % 8) size value j) → ((i : ℕ) → new i ≡ (if i == at / 8 then word else old i)) → IsPage new (stored_at byte at size value)
IsPage-stored old new byte at size value word fits page stored each a h =
    ⊎_elim
    (λ (here : a / 8 ≡ at / 8).
    let is = each (a / 8) in
    let first : (a / 8 == at / 8) ≡ true = eq-eqb (a / 8) (at / 8) here in
    let new_is : new (a / 8) ≡ word = rw first at is in
    let was = page a h in
    let now = stored (a % 8) (omega arith) in
    let low : nat_le at a ≡ nat_le (at % 8) (a % 8) = grind (arith, nat_tests) in
    let high : nat_lt a (at + size) ≡ nat_lt (a % 8) (at % 8 + size) = grind (arith, nat_tests) in
    let off : a - at ≡ a % 8 - at % 8 = omega arith in
    rw (new_is, now, low, high, off, was, here) refl)
    (λ (other : a / 8 ≡ at / 8 → ⊥).
    let is = each (a / 8) in
    let first : (a / 8 == at / 8) ≡ false = ne_eqb (a / 8) (at / 8) other in
    let new_is : new (a / 8) ≡ old (a / 8) = rw first at is in
    let out : (nat_le at a && nat_lt a (at + size)) ≡ false = grind (arith, nat_tests) in
    rw (out, new_is) (page a h))
    (cases_eq (a / 8) (at / 8))

-- a byte within a word of a page
pub IsPage-within : (words byte : ℕ → ℕ) (at j : ℕ) → IsPage words byte → at + j < 4096 → at % 8 + j < 8 → byte (at + j) ≡ byte_of (words (at / 8)) (at % 8 + j)
IsPage-within words byte at j page h fits =
    let row : (at + j) / 8 ≡ at / 8 = omega arith in
    let column : (at + j) % 8 ≡ at % 8 + j = omega arith in
    page (at + j) h ∙ rw (row, column) refl

-- an aligned number is within a word
pub aligned_fits : (at size : ℕ) → IsSize size → at % size ≡ 0 → at % 8 + size ≤ 8
aligned_fits at size is aligned =
    ⊎_elim
    (λ (one : size ≡ 1). omega arith)
    (λ (more : (size ≡ 2) ⊎ (size ≡ 4)).
    ⊎_elim
    (λ (two : size ≡ 2). let e = rw two at aligned in omega arith)
    (λ (four : size ≡ 4). let e = rw four at aligned in omega arith)
    more)
    is

-- the elements of a part of a list
pub part_at : (xs : List ℕ) (start count j : ℕ) → j < count → slice_index (take count (drop start xs)) j ≡ slice_index xs (start + j)
part_at xs start count j h = get_or-take count (drop start xs) j 0 h ∙ get_or-drop start xs j 0

pub part_below : (xs : List ℕ) (start count bound i : ℕ) → 0 < bound → ((k : ℕ) → slice_index xs k < bound) → slice_index (take count (drop start xs)) i < bound
part_below xs start count bound i some each =
    ⊎_elim
    (λ (inside : i < count). rw (part_at xs start count i inside) (each (start + i)))
    (λ (past : count ≤ i). rw (get_or_past (take count (drop start xs)) i 0 (let e = length-take count (drop start xs) in omega arith)) some)
    (cases_lt i count)
