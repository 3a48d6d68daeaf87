-- The bytes of a word.
use Rattle.std.specs.Prelude.{◌≡◌, ℕ, zero, suc, ◌+◌, ◌/◌, ◌%◌, ◌^◌, ◌<◌, ◌≤◌, List, [], ◌∷◌, length, slice_index, slice_set, take}
use Rattle.std.specs.Int.{w32, w64, to_le_bytes, from_le_bytes}
use Rattle.std.proofs.Common.{refl, ap, sym, ◌∙◌, arith, inl, inr}
use Rattle.std.proofs.lemmas.Bool.{cases_eq}
use Rattle.std.proofs.lemmas.List.{get_or-set_same, get_or-set_other}
use Rattle.std.proofs.lemmas.Nat.{le_bytes_8, shr-shr}
use Rattle.plain_model.specs.Memory.{bytes_of_number}
use Rattle.call_readings.specs.Content.{byte_of}

-- the bytes of the word that bytes make
pub byte_of_word : (bytes : List ℕ) (n : ℕ) → length bytes ≡ 8 → ((i : ℕ) → slice_index bytes i < 256) → n ≡ from_le_bytes w64 bytes
    → (j : ℕ) → byte_of n j ≡ slice_index bytes j
byte_of_word bytes n size small is j = ap (λ (l : List ℕ). slice_index l j) (le_bytes_8 bytes n size small is)

-- each is a byte
pub byte_below : (word i : ℕ) → slice_index (to_le_bytes w64 word) i < 256
byte_below word zero = omega arith
byte_below word (suc zero) = omega arith
byte_below word (suc (suc zero)) = omega arith
byte_below word (suc (suc (suc zero))) = omega arith
byte_below word (suc (suc (suc (suc zero)))) = omega arith
byte_below word (suc (suc (suc (suc (suc zero))))) = omega arith
byte_below word (suc (suc (suc (suc (suc (suc zero)))))) = omega arith
byte_below word (suc (suc (suc (suc (suc (suc (suc zero))))))) = omega arith
byte_below word (suc (suc (suc (suc (suc (suc (suc (suc i)))))))) = omega arith

-- the lowest bytes of a number

third : (value : ℕ) → value / 2 ^ 16 ≡ value / 2 ^ 8 / 2 ^ 8
third value = sym (shr-shr value 8 8)

fourth : (value : ℕ) → value / 2 ^ 24 ≡ value / 2 ^ 8 / 2 ^ 8 / 2 ^ 8
fourth value = sym (shr-shr value 16 8) ∙ ap (λ (v : ℕ). v / 2 ^ 8) (third value)

pub bytes_taken : (value size : ℕ) → size ≤ 4 → take size (to_le_bytes w32 value) ≡ bytes_of_number size value
bytes_taken value zero h = refl
bytes_taken value (suc zero) h = refl
bytes_taken value (suc (suc zero)) h = refl
bytes_taken value (suc (suc (suc zero))) h =
    ap (λ (v : ℕ). value % 2 ^ 8 ∷ value / 2 ^ 8 % 2 ^ 8 ∷ v % 2 ^ 8 ∷ []) (third value)
bytes_taken value (suc (suc (suc (suc zero)))) h =
    ap (λ (v : ℕ). value % 2 ^ 8 ∷ value / 2 ^ 8 % 2 ^ 8 ∷ v % 2 ^ 8 ∷ value / 2 ^ 24 % 2 ^ 8 ∷ []) (third value)
    ∙ ap (λ (v : ℕ). value % 2 ^ 8 ∷ value / 2 ^ 8 % 2 ^ 8 ∷ value / 2 ^ 8 / 2 ^ 8 % 2 ^ 8 ∷ v % 2 ^ 8 ∷ []) (fourth value)
bytes_taken value (suc (suc (suc (suc (suc size))))) h = absurd (omega arith)

pub length_of_number : (size value : ℕ) → length (bytes_of_number size value) ≡ size
length_of_number zero value = refl
length_of_number (suc size) value = rw (length_of_number size (value / 2 ^ 8)) refl

-- what is so of the only word of a list
pub only_word : (word : ℕ) (P : ℕ → ℕ → Type 0) → P 0 word → (k : ℕ) → k < 1 → P k (slice_index (word ∷ []) k)
only_word word P is zero h = is
only_word word P is (suc k) h = absurd (omega arith)

-- what is so of the words before a place, and of what is put there
pub set_each : (P : ℕ → ℕ → Type 0) (words : List ℕ) (n word : ℕ) → n < length words → P n word
    → ((m : ℕ) → m < n → P m (slice_index words m)) → (m : ℕ) → m < n + 1 → P m (slice_index (slice_set words n word) m)
set_each P words n word inside is before m below = elim (cases_eq m n) [
  | inl here ↦ rw here (rw (get_or-set_same words n word 0 inside) is)
  | inr ne ↦ rw (get_or-set_other words n m word 0 ne) (before m (omega (arith, below, ne)))
]
