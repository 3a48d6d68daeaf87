-- An event on words inside one bank is the same event on the memory.
use Rattle.std.proofs.Common.{◌≡◌, ◌≢◌, ℕ, ◌+◌, ◌-◌, ◌<◌, ◌≤◌, true, false, cond, lit≤, arith, refl, List, length, get_or, Option, Some, None, get_or-set_same, get_or-set_other, ⊎_elim}
use Rattle.std.proofs.Math.Nat.{sub-zero}
use Rattle.std.proofs.Math.ListN.{set}
use Rattle.std.proofs.lemmas.Bool.{cases_eq, cases_lt}
use Rattle.std.proofs.lemmas.Bool.Decides.{nat_tests}
use Rattle.pmem_model.specs.Marks.{zero_has}
use Rattle.pmem_model.specs.Words.{fenced, stored, bursts, is_within, Word, BankWords, word_in}
use Rattle.pmem_model.specs.Places.{bank_start, bank_of, offset_of, bank_size, word_among, word_of, bank_at}
use Rattle.pmem_model.proofs.PlaceLemmas.{frame_size, frame_start, frame_offset, place_sum, offset_of_lt, bank_back, offset_back, within_same, minus_same, within_other}

pub event_lifts : (banks : List (Option BankWords)) (at n : ℕ) (b b' : BankWords) (f : ℕ → Word → Word)
    → bank_of at < length banks
    → bank_at banks (bank_of at) ≡ Some b
    → offset_of at + n ≤ bank_size (bank_of at)
    → ((o : ℕ) → word_in b' o ≡ cond (is_within (offset_of at) n o) (f (o - offset_of at) (word_in b o)) (word_in b o))
    → (i : ℕ) → word_among (set banks (bank_of at) (Some b')) i ≡ cond (is_within at n i) (f (i - at) (word_among banks i)) (word_among banks i)
event_lifts banks at n b b' f lt is inside each i =
    ⊎_elim
    (λ (same : bank_of i ≡ bank_of at).
    rw (same, get_or-set_same banks (bank_of at) (Some b') None lt, is)
    (let e = each (offset_of i) in rw (within_same at n i same, minus_same at i same) at e))
    (λ (other : bank_of i ≢ bank_of at).
    rw (get_or-set_other banks (bank_of at) (bank_of i) (Some b') None other, within_other at n i inside other) refl)
    (cases_eq (bank_of i) (bank_of at))

-- a fence on words of a bank that is away
pub fence_away : (banks : List (Option BankWords)) (core at n : ℕ)
    → offset_of at + n ≤ bank_size (bank_of at)
    → bank_at banks (bank_of at) ≡ None
    → (i : ℕ) → word_among banks i ≡ cond (is_within at n i) (fenced core (word_among banks i)) (word_among banks i)
fence_away banks core at n inside away i =
    ⊎_elim
    (λ (same : bank_of i ≡ bank_of at). rw (same, away, zero_has core) (grind (arith, nat_tests)))
    (λ (other : bank_of i ≢ bank_of at). rw (within_other at n i inside other) refl)
    (cases_eq (bank_of i) (bank_of at))

-- a word of a frame at home
pub frame_word : (banks : List (Option BankWords)) (frame o : ℕ) (b : BankWords) → bank_at banks (1 + frame) ≡ Some b → o < 512
    → word_among banks (bank_start (1 + frame) + o) ≡ word_in b o
frame_word banks frame o b is lt =
    let inside : o < bank_size (1 + frame) = omega (arith, frame_size frame) in
    rw (bank_back (1 + frame) o inside, offset_back (1 + frame) o inside, is) refl

-- a copy of one frame's words into another
pub copy_lifts : (banks : List (Option BankWords)) (from to : ℕ) (source b b' : BankWords)
    → 1 + to < length banks
    → bank_at banks (1 + from) ≡ Some source
    → bank_at banks (1 + to) ≡ Some b
    → length source.cached ≡ 512
    → ((o : ℕ) → word_in b' o ≡ cond (is_within 0 (length source.cached) o) (stored (get_or source.cached (o - 0) 0) (word_in b o)) (word_in b o))
    → (i : ℕ) → word_among (set banks (1 + to) (Some b')) i ≡ bursts (bank_start (1 + to)) 512 (λ k. (word_among banks (bank_start (1 + from) + k)).cached) (word_among banks) i
copy_lifts banks from to source b b' lt is_source is_b len each i =
    let at = bank_start (1 + to) in
    let same = frame_start to in
    let zero = frame_offset to in
    let lift = event_lifts banks at 512 b b' (λ k w. stored (word_among banks (bank_start (1 + from) + k)).cached w)
    (rw same lt) (rw same is_b) (rw (same, zero) (omega (arith, frame_size to)))
    (λ o. rw zero (⊎_elim
    (λ (low : o < 512). let w = frame_word banks from o source is_source low in let e = rw len at (each o) in rw sub-zero (rw w (rw sub-zero at e)))
    (λ (high : 512 ≤ o). let e = rw len at (each o) in let out : is_within 0 512 o ≡ false = grind (arith, nat_tests) in rw out (rw out at e))
    (cases_lt o 512)))
    i in
    rw same at lift

-- a frame's bank is put in, or taken out
pub words_set : (banks : List (Option BankWords)) (frame : ℕ) (b : Option BankWords) → 1 + frame < length banks
    → (i : ℕ) → word_among (set banks (1 + frame) b) i ≡ cond (is_within (bank_start (1 + frame)) 512 i) (word_of b (i - bank_start (1 + frame))) (word_among banks i)
words_set banks frame b lt i =
    ⊎_elim
    (λ (same : bank_of i ≡ 1 + frame).
    let sum = rw same at (place_sum i) in let less = rw (same, frame_size frame) at (offset_of_lt i) in
    let inside : is_within (bank_start (1 + frame)) 512 i ≡ true = grind (arith, nat_tests) in
    let place : i - bank_start (1 + frame) ≡ offset_of i = omega arith in
    rw (same, get_or-set_same banks (1 + frame) b None lt, inside, place) refl)
    (λ (other : bank_of i ≢ 1 + frame).
    let start = frame_start frame in let zero = frame_offset frame in
    let outside = within_other (bank_start (1 + frame)) 512 i (rw (start, zero, frame_size frame) (lit≤ tt)) (rw start other) in
    rw (get_or-set_other banks (1 + frame) (bank_of i) b None other, outside) refl)
    (cases_eq (bank_of i) (1 + frame))
