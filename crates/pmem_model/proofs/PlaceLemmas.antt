-- A word is where its bank begins, and its place there; and the banks stand one behind another.
use Rattle.std.proofs.Common.{◌≡◌, ◌≢◌, ℕ, ◌+◌, ◌-◌, ◌<◌, ◌≤◌, nat_lt, true, false, ◌||◌, IsTrue, List, Option, is_some, cond, arith, sym, ◌==◌, ⊎_elim, add-zero}
use Rattle.std.proofs.lemmas.Bool.{cases_eq, cases_Bool}
use Rattle.std.proofs.lemmas.Bool.Decides.{nat_tests}
use Rattle.sls_base.specs.declared.limits.TheConstants.{TABLE_WORDS, FRAME_WORDS, FRAMES, WORDS}
use Rattle.pmem_model.specs.Words.{BankWords, is_within}
use Rattle.pmem_model.specs.Places.{bank_of, offset_of, bank_size, bank_start, bank_at}

pub place_sum : (i : ℕ) → bank_start (bank_of i) + offset_of i ≡ i
unfolding bank_of offset_of bank_start
place_sum i = grind (arith, nat_tests)

pub offset_of_lt : (i : ℕ) → offset_of i < bank_size (bank_of i)
unfolding bank_of offset_of bank_size
offset_of_lt i = grind (arith, nat_tests)

pub bank_of_lt : (i : ℕ) → i < WORDS → bank_of i < 1 + FRAMES
unfolding bank_of
bank_of_lt i h = grind (arith, nat_tests)

pub banks_apart : (j k : ℕ) → j < k → bank_start j + bank_size j ≤ bank_start k
unfolding bank_start bank_size
banks_apart j k h = grind (arith, nat_tests)

-- in one bank, places in the bank are as words in the memory
pub within_same : (at n i : ℕ) → bank_of i ≡ bank_of at → is_within (offset_of at) n (offset_of i) ≡ is_within at n i
within_same at n i same = let a = place_sum at in let b = place_sum i in grind (arith, nat_tests)

pub minus_same : (at i : ℕ) → bank_of i ≡ bank_of at → offset_of i - offset_of at ≡ i - at
minus_same at i same = let a = place_sum at in let b = place_sum i in grind arith

-- words inside one bank are in no other
pub within_other : (at n i : ℕ) → offset_of at + n ≤ bank_size (bank_of at) → bank_of i ≢ bank_of at → is_within at n i ≡ false
within_other at n i inside other =
    let a = place_sum at in let b = place_sum i in let c = offset_of_lt i in
    let d = banks_apart (bank_of i) (bank_of at) in let e = banks_apart (bank_of at) (bank_of i) in grind (arith, nat_tests)

pub empty_place : offset_of 0 + 0 ≤ bank_size (bank_of 0)
unfolding bank_of offset_of bank_size
empty_place = omega arith

pub size_most : (k : ℕ) → bank_size k ≤ 17920
unfolding bank_size
size_most k = grind (arith, nat_tests)

pub lines_fit : (at n : ℕ) → offset_of at + n ≤ bank_size (bank_of at) → n ≤ 17920
unfolding bank_size
lines_fit at n h = grind (arith, nat_tests)

pub bank_order : (i j : ℕ) → i ≤ j → bank_of i ≤ bank_of j
bank_order i j h =
    let a = place_sum i in let b = place_sum j in let e = offset_of_lt j in
    let d = banks_apart (bank_of j) (bank_of i) in grind arith

pub offset_order : (i j : ℕ) → bank_of i ≡ bank_of j → i ≤ j → offset_of i ≤ offset_of j
offset_order i j same h = let a = place_sum i in let b = place_sum j in grind arith

pub bank_end : (k : ℕ) → k < 1 + FRAMES → bank_start k + bank_size k ≤ WORDS
unfolding bank_start bank_size
bank_end k h = grind (arith, nat_tests)

-- a place in a bank is that of its word
pub bank_back : (k o : ℕ) → o < bank_size k → bank_of (bank_start k + o) ≡ k
unfolding bank_start bank_size bank_of
bank_back k o h = grind (arith, nat_tests)

pub offset_back : (k o : ℕ) → o < bank_size k → offset_of (bank_start k + o) ≡ o
offset_back k o h = let a = place_sum (bank_start k + o) in let b = bank_back k o h in grind arith

pub ruleset places = (bank_of_lt, offset_of_lt, within_same, minus_same, within_other)

pub ruleset walks = (bank_of_lt, offset_of_lt, place_sum, banks_apart, bank_order, offset_order, bank_end, bank_back, offset_back)

-- a place from the first one on is of a word from `at` on
pub at_le : (at k p : ℕ) → bank_of at ≤ k → cond (k == bank_of at) (offset_of at) 0 ≤ p → at ≤ bank_start k + p
at_le at k p le from =
    let a = place_sum at in let b = offset_of_lt at in let d = banks_apart (bank_of at) k in
    ⊎_elim (λ (same : k ≡ bank_of at). grind (arith, nat_tests)) (λ (ne : k ≢ bank_of at). grind (arith, nat_tests)) (cases_eq k (bank_of at))

-- and the other way round
pub from_le : (at i : ℕ) → at ≤ i → cond (bank_of i == bank_of at) (offset_of at) 0 ≤ offset_of i
from_le at i le =
    ⊎_elim (λ (same : bank_of i ≡ bank_of at). let h = offset_order at i (sym same) le in grind (arith, nat_tests)) (λ (ne : bank_of i ≢ bank_of at). grind (arith, nat_tests)) (cases_eq (bank_of i) (bank_of at))

pub frame_size : (frame : ℕ) → bank_size (1 + frame) ≡ FRAME_WORDS
unfolding bank_size
frame_size frame = grind (arith, nat_tests)

pub frame_start : (frame : ℕ) → bank_of (bank_start (1 + frame)) ≡ 1 + frame
frame_start frame = let e = bank_back (1 + frame) 0 (omega (arith, frame_size frame)) in rw add-zero at e

pub frame_offset : (frame : ℕ) → offset_of (bank_start (1 + frame)) ≡ 0
frame_offset frame = let e = offset_back (1 + frame) 0 (omega (arith, frame_size frame)) in rw add-zero at e

pub ruleset frames = (frame_size, frame_start, frame_offset, bank_end)

pub bank_of_ge : (i : ℕ) → WORDS ≤ i → 1 + FRAMES ≤ bank_of i
unfolding bank_of
bank_of_ge i h = grind (arith, nat_tests)

pub ruleset parts = (bank_of_lt, bank_of_ge, offset_of_lt, place_sum, bank_end)

-- a word of the table, or of a frame at home, is in a bank at home, where the table is
pub home_bank : (banks : List (Option BankWords)) (at : ℕ) → is_some (bank_at banks 0) ≡ true
    → IsTrue (nat_lt at TABLE_WORDS || is_some (bank_at banks (bank_of at)))
    → IsTrue (is_some (bank_at banks (bank_of at)))
unfolding bank_of
home_bank banks at table home =
    ⊎_elim
    (λ (low : nat_lt at TABLE_WORDS ≡ true). rw low table)
    (λ (high : nat_lt at TABLE_WORDS ≡ false). let h = rw high at home in rw high h)
    (cases_Bool (nat_lt at TABLE_WORDS))
