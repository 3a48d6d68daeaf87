-- The parts of a bank, and sets of them.
use Rattle.std.proofs.Common.{◌≡◌, ◌≢◌, ℕ, ◌+◌, ◌-◌, ◌*◌, ◌/◌, ◌%◌, ◌^◌, ◌<◌, ◌≤◌, true, false, ◌&&◌, ◌||◌, leb, ◌==◌, arith, refl, ◌∙◌, ⊎_elim}
use Rattle.std.proofs.lemmas.Bool.{cases_eq, cases_lt}
use Rattle.std.proofs.lemmas.Bool.Decides.{nat_tests}
use Rattle.std.proofs.lemmas.Nat.Bits.{ones_shr, ones_shl, bit_at_and, bit_at_or, bit_at-lt, bit_at_mask_inside, bit_at_mask_below, bit_at_ones, bit_at_ones_above, bit_at-zero}
use Rattle.std.specs.Prelude.{bit_and, bit_or}
use Rattle.std.specs.Int.{bit_at}
use Rattle.pmem_model.specs.Kept.{is_between}
use Rattle.pmem_model.specs.Places.{bank_size}
use Rattle.pmem_model.specs.Parts.{part_of, part_start, has_part, is_touched}

-- a place stands in its part
pub part_low : (len i : ℕ) → part_start len (part_of len i) ≤ i
unfolding part_of part_start
part_low len i = grind (arith, nat_tests)

pub part_high : (len i : ℕ) → i < part_start len (part_of len i + 1)
unfolding part_of part_start
part_high len i = grind (arith, nat_tests)

-- and in no other
pub part_is : (len part i : ℕ) → part_start len part ≤ i → i < part_start len (part + 1) → part_of len i ≡ part
unfolding part_of part_start
part_is len part i low high = grind (arith, nat_tests)

pub part_order : (len i j : ℕ) → i ≤ j → part_of len i ≤ part_of len j
unfolding part_of
part_order len i j le = grind (arith, nat_tests)

pub start_order : (len p q : ℕ) → p ≤ q → part_start len p ≤ part_start len q
unfolding part_start
start_order len p q le = grind (arith, nat_tests)

-- a bank has no more than 64 parts
pub part_lt : (len i : ℕ) → part_start len 64 ≡ len → i < len → part_of len i < 64
unfolding part_of part_start
part_lt len i whole lt = grind (arith, nat_tests)

pub part_most : (len i : ℕ) → part_start len 64 ≡ len → i ≤ len → part_of len i ≤ 64
unfolding part_of part_start
part_most len i whole le = grind (arith, nat_tests)

-- the parts of a bank are its words
pub parts_whole : (k : ℕ) → part_start (bank_size k) 64 ≡ bank_size k
unfolding part_start bank_size
parts_whole k = grind (arith, nat_tests)

-- the places of a part
pub between_part : (len part i : ℕ) → is_between (part_start len part) (part_start len (part + 1)) i ≡ (part_of len i == part)
unfolding part_of part_start
between_part len part i = grind (arith, nat_tests)

pub ruleset parts = (part_low, part_high, part_is, part_order, start_order, part_lt, part_most)

-- the parts from `first` up to `last`, as bits
mask_inside : (first last part : ℕ) → last < 64 → first ≤ part → part ≤ last → bit_at (bit_and (2 ^ 64 - 2 ^ first) (2 ^ (last + 1) - 1)) part ≡ 1
mask_inside first last part lt low high =
    rw (bit_at_and (2 ^ 64 - 2 ^ first) (2 ^ (last + 1) - 1) part, bit_at_mask_inside first 64 part low (omega arith), bit_at_ones (last + 1) part (omega arith)) refl

mask_below : (first last part : ℕ) → part < first → bit_at (bit_and (2 ^ 64 - 2 ^ first) (2 ^ (last + 1) - 1)) part ≡ 0
mask_below first last part lt =
    rw (bit_at_and (2 ^ 64 - 2 ^ first) (2 ^ (last + 1) - 1) part, bit_at_mask_below first 64 part lt) (omega arith)

mask_above : (first last part : ℕ) → last < part → bit_at (bit_and (2 ^ 64 - 2 ^ first) (2 ^ (last + 1) - 1)) part ≡ 0
mask_above first last part lt =
    rw (bit_at_and (2 ^ 64 - 2 ^ first) (2 ^ (last + 1) - 1) part, bit_at_ones_above (last + 1) part (omega arith)) (omega arith)

-- the set with them
pub has-with_parts : (set first last part : ℕ) → first ≤ last → last < 64
    → has_part (bit_or set (bit_and ((2 ^ 64 - 1) * 2 ^ first % 2 ^ 64) ((2 ^ 64 - 1) / 2 ^ (63 - last)))) part ≡ (has_part set part || (leb first part && leb part last))
has-with_parts set first last part order range =
    let high : 64 - (63 - last) ≡ last + 1 = omega arith in
    let small = bit_at-lt set part in
    rw (ones_shl 64 first (omega arith), ones_shr 64 (63 - last) (omega arith), high, bit_at_or set (bit_and (2 ^ 64 - 2 ^ first) (2 ^ (last + 1) - 1)) part)
    (⊎_elim
    (λ (below : part < first). rw (mask_below first last part below) (grind (arith, nat_tests)))
    (λ (from : first ≤ part).
    ⊎_elim
    (λ (above : last < part). rw (mask_above first last part above) (grind (arith, nat_tests)))
    (λ (upto : part ≤ last). rw (mask_inside first last part range from upto) (grind (arith, nat_tests)))
    (cases_lt last part))
    (cases_lt part first))

-- the empty set has no part
pub none_touched : (len i : ℕ) → is_touched len 0 i ≡ true → ⊥
none_touched len i e = (let none = bit_at-zero (part_of len i) in let f : has_part 0 (part_of len i) ≡ false = rw none refl in absurd (cc))

here_or_rest : (rest part p : ℕ) → (p ≢ part → has_part rest p ≡ true) → ((p == part) || has_part rest p) ≡ true
here_or_rest rest part p h = ⊎_elim
    (λ (same : p ≡ part). grind (arith, nat_tests))
    (λ (ne : p ≢ part). let there = h ne in grind (arith, nat_tests))
    (cases_eq p part)

-- a place in a part of a set is in one of its parts, or in the others
pub still_in_rest : (len set rest part i : ℕ) → ((other : ℕ) → other ≢ part → has_part rest other ≡ has_part set other) → is_touched len set i ≡ true
    → (is_between (part_start len part) (part_start len (part + 1)) i || is_touched len rest i) ≡ true
still_in_rest len set rest part i others e =
    rw (between_part len part i) (here_or_rest rest part (part_of len i) (λ ne. others (part_of len i) ne ∙ e))
