-- A number in bytes: what is read is what was written, and is written again.
use Rattle.std.proofs.Common.{◌≡◌, ℕ, zero, suc, ◌+◌, ◌^◌, ◌<◌, ◌≤◌, List, [], ◌∷◌, ◌++◌, length, get_or, drop, refl, ap, ◌∙◌, arith}
use Rattle.std.proofs.lemmas.List.{drop-drop, get_or-drop, length-drop}
use Rattle.std.proofs.lemmas.Nat.{le_bytes_4}
use Rattle.byteorder.specs.Numbers.{little_number-reads_back, little_from-lt}
use Rattle.boot_image.specs.Spelling.{word}
use Rattle.boot_image.specs.Values.{word_at}

-- each is a byte
abbrev pub IsBytes : List ℕ → Type 0
IsBytes bytes = (i : ℕ) → get_or bytes i 0 < 256

pub IsBytes-drop : (n : ℕ) (bytes : List ℕ) → IsBytes bytes → IsBytes (drop n bytes)
IsBytes-drop n bytes h i = rw get_or-drop (h (n + i))

-- the number at a place is the first of what stands from there on
pub word_at-drop : (k : ℕ) (bytes : List ℕ) → word_at 0 (drop k bytes) ≡ word_at k bytes
unfolding word_at
word_at-drop k bytes = refl

-- what was written is read
pub word_first : (n : ℕ) (rest : List ℕ) → n < 2 ^ 32 → word_at 0 (word n ++ rest) ≡ n
unfolding word_at word
word_first n rest lt = little_number-reads_back 4 n rest lt

pub length-word : (n : ℕ) → length (word n) ≡ 4
unfolding word
length-word n = refl

pub drop-word : (n : ℕ) (rest : List ℕ) → drop 4 (word n ++ rest) ≡ rest
unfolding word
drop-word n rest = refl

four_fit : (a b c d : ℕ) (rest : List ℕ) → IsBytes (a ∷ b ∷ c ∷ d ∷ rest) → IsBytes (a ∷ b ∷ c ∷ d ∷ [])
four_fit a b c d rest h zero = h 0
four_fit a b c d rest h (suc zero) = h 1
four_fit a b c d rest h (suc (suc zero)) = h 2
four_fit a b c d rest h (suc (suc (suc zero))) = h 3
four_fit a b c d rest h (suc (suc (suc (suc i)))) = omega arith

four : (a b c d : ℕ) (rest : List ℕ) → IsBytes (a ∷ b ∷ c ∷ d ∷ rest) → word (word_at 0 (a ∷ b ∷ c ∷ d ∷ rest)) ≡ a ∷ b ∷ c ∷ d ∷ []
unfolding word_at word
four a b c d rest h =
    le_bytes_4 (a ∷ b ∷ c ∷ d ∷ []) _ refl (four_fit a b c d rest h) (omega arith)

-- what is read is written again, before what follows it
pub word_again : (bytes : List ℕ) → IsBytes bytes → 4 ≤ length bytes → bytes ≡ word (word_at 0 bytes) ++ drop 4 bytes
word_again [] h le = absurd (omega arith)
word_again (a ∷ []) h le = absurd (omega arith)
word_again (a ∷ b ∷ []) h le = absurd (omega arith)
word_again (a ∷ b ∷ c ∷ []) h le = absurd (omega arith)
word_again (a ∷ b ∷ c ∷ d ∷ rest) h le = rw (four a b c d rest h) refl

pub word_below : (k : ℕ) (bytes : List ℕ) → IsBytes bytes → word_at k bytes < 2 ^ 32
unfolding word_at
word_below k bytes h = little_from-lt 0 4 (drop k bytes) (IsBytes-drop k bytes h)

-- Four numbers, as programs and regions begin.
pub record AreNumbers (a b c d : ℕ) : Type 0 where
  pub first : a < 2 ^ 32
  pub second : b < 2 ^ 32
  pub third : c < 2 ^ 32
  pub fourth : d < 2 ^ 32

abbrev pub four_words : ℕ → ℕ → ℕ → ℕ → List ℕ → List ℕ
four_words a b c d rest = word a ++ (word b ++ (word c ++ (word d ++ rest)))

pub record IsFour (a b c d : ℕ) (tail bytes : List ℕ) : Type 0 where
  pub first : word_at 0 bytes ≡ a
  pub second : word_at 4 bytes ≡ b
  pub third : word_at 8 bytes ≡ c
  pub fourth : word_at 12 bytes ≡ d
  pub rest : drop 16 bytes ≡ tail
  pub count : length bytes ≡ 16 + length tail

pub four_read : (a b c d : ℕ) (rest : List ℕ) → AreNumbers a b c d → IsFour a b c d rest (four_words a b c d rest)
unfolding word_at word
four_read a b c d rest h = record {
  first = little_number-reads_back 4 a (word b ++ (word c ++ (word d ++ rest))) h.first;
  second = little_number-reads_back 4 b (word c ++ (word d ++ rest)) h.second;
  third = little_number-reads_back 4 c (word d ++ rest) h.third;
  fourth = little_number-reads_back 4 d rest h.fourth;
  rest = refl;
  count = omega arith;
}

-- one field behind others
pub next_again : (k : ℕ) (bytes : List ℕ) → IsBytes bytes → k + 4 ≤ length bytes → drop k bytes ≡ word (word_at k bytes) ++ drop (k + 4) bytes
next_again k bytes h le =
    let e = word_again (drop k bytes) (IsBytes-drop k bytes h) (omega (arith, length-drop k bytes)) in
    rw (word_at-drop k bytes, drop-drop 4 k bytes) at e

pub four_again : (bytes : List ℕ) → IsBytes bytes → 16 ≤ length bytes
    → bytes ≡ four_words (word_at 0 bytes) (word_at 4 bytes) (word_at 8 bytes) (word_at 12 bytes) (drop 16 bytes)
four_again bytes h le =
    let e0 : bytes ≡ word (word_at 0 bytes) ++ drop 4 bytes = next_again 0 bytes h (omega arith) in
    let e1 : drop 4 bytes ≡ word (word_at 4 bytes) ++ drop 8 bytes = next_again 4 bytes h (omega arith) in
    let e2 : drop 8 bytes ≡ word (word_at 8 bytes) ++ drop 12 bytes = next_again 8 bytes h (omega arith) in
    let e3 : drop 12 bytes ≡ word (word_at 12 bytes) ++ drop 16 bytes = next_again 12 bytes h (omega arith) in
    e0 ∙ ap (λ (x : List ℕ). word (word_at 0 bytes) ++ x) (e1 ∙ ap (λ (x : List ℕ). word (word_at 4 bytes) ++ x) (e2 ∙ ap (λ (x : List ℕ). word (word_at 8 bytes) ++ x) e3))
