-- The thread and the counts that are read of the words of a record.
use Rattle.std.proofs.Common.{◌≡◌, ◌≢◌, ℕ, ◌+◌, ◌-◌, ◌*◌, ◌/◌, ◌%◌, ◌^◌, ◌<◌, List, length, slice_index, slice_set, bit_and, arith, ap, sym, inl, inr, ◌⊎◌, ◌∙◌, refl, length-set, get_or-set_other, zero, suc}
use Rattle.std.proofs.lemmas.Bool.Decides.{nat_tests}
use Rattle.std.proofs.lemmas.Grind.{common_steps, same_number_lists}
use Rattle.sls_kernel.specs.declared.thread.Status.{Status}
use Rattle.sls_kernel.specs.declared.thread.RunThread.{RunThread}
use Rattle.sls_kernel.specs.Words.{IsThread, half_of, record_word}

-- half j of some words
abbrev pub half_in : (ℕ → ℕ) → ℕ → ℕ
half_in words j = words (j / 2) / 2 ^ (32 * (j % 2)) % 2 ^ 32

pub low_half : (word j : ℕ) → j % 2 ≡ 0 → bit_and word 4294967295 ≡ word / 2 ^ (32 * (j % 2)) % 2 ^ 32
low_half word j e = rw e (grind (arith, common_steps))

-- words that say a thread and counts
pub record SaysRecord (words : ℕ → ℕ) (t : RunThread) (put : ℕ → ℕ) : Type 0 where
  pub thread : IsThread t
  pub word : (i : ℕ) → i < 21 → words i ≡ record_word t put i

half_fits : (t : RunThread) (j : ℕ) → IsThread t → half_of t j < 2 ^ 32
half_fits t j is = grind (arith, nat_tests, is.pc, is.in_range j)

pair_word : (t : RunThread) (put : ℕ → ℕ) (k : ℕ) → k < 16 → record_word t put k ≡ half_of t (2 * k) + 2 ^ 32 * half_of t (2 * k + 1)
pair_word t put k h = grind (arith, nat_tests)

of_pair : (a b : ℕ) → a < 2 ^ 32 → b < 2 ^ 32 → ((a + 2 ^ 32 * b) / 2 ^ (32 * 0) % 2 ^ 32 ≡ a) × ((a + 2 ^ 32 * b) / 2 ^ (32 * 1) % 2 ^ 32 ≡ b)
of_pair a b p q = (omega arith, omega arith)

halves_said : (words : ℕ → ℕ) (t : RunThread) (put : ℕ → ℕ) (k : ℕ) → SaysRecord words t put → k < 16 → (words k / 2 ^ (32 * 0) % 2 ^ 32 ≡ half_of t (2 * k)) × (words k / 2 ^ (32 * 1) % 2 ^ 32 ≡ half_of t (2 * k + 1))
halves_said words t put k says h =
    let pair : words k ≡ half_of t (2 * k) + 2 ^ 32 * half_of t (2 * k + 1) = says.word k (omega arith) ∙ pair_word t put k h in
    rw pair (of_pair _ _ (half_fits t (2 * k) says.thread) (half_fits t (2 * k + 1) says.thread))

pub half_said : (words : ℕ → ℕ) (t : RunThread) (put : ℕ → ℕ) (j : ℕ) → SaysRecord words t put → j < 32 → half_in words j ≡ half_of t j
half_said words t put j says h =
    let halves = halves_said words t put (j / 2) says (omega arith) in
    let which : (j % 2 ≡ 0) ⊎ (j % 2 ≡ 1) = grind arith in
    elim which [ inl e ↦ let even : 2 * (j / 2) ≡ j = omega arith in rw e (halves.0 ∙ ap (half_of t) even) | inr e ↦ let odd : 2 * (j / 2) + 1 ≡ j = omega arith in rw e (halves.1 ∙ ap (half_of t) odd) ]

pub put_said : (words : ℕ → ℕ) (t : RunThread) (put : ℕ → ℕ) (channel : ℕ) → SaysRecord words t put → channel < 4 → words (17 + channel) ≡ put channel
put_said words t put channel says h =
    let same : 17 + channel - 17 ≡ channel = omega arith in
    grind (arith, nat_tests, says.word (17 + channel), ap put same)

-- halves that say a thread's, with the pc taken out
same_register : (h : List ℕ) (t : RunThread) (j : ℕ) → IsThread t → length h ≡ 32 → j < 32 → slice_index h j ≡ half_of t j → slice_index (slice_set h 0 0) j ≡ slice_index t.regs.x j
same_register h t zero is size low e = grind (arith, common_steps, is.zero_register)
same_register h t (suc j) is size low e = let other : suc j ≢ 0 = omega arith in rw get_or-set_other (grind (arith, nat_tests))

same_registers : (h : List ℕ) (t : RunThread) → IsThread t → length h ≡ 32 → ((j : ℕ) → j < 32 → slice_index h j ≡ half_of t j) → slice_set h 0 0 ≡ t.regs.x
same_registers h t is size each =
    let kept : length (slice_set h 0 0) ≡ 32 = length-set h 0 0 ∙ size in
    same_number_lists _ _ (kept ∙ sym is.registers) (λ j low. let within : j < 32 = omega arith in same_register h t j is size within (each j within))

pub same_thread : (t : RunThread) (status : Status) (h : List ℕ) → IsThread t → length h ≡ 32 → ((j : ℕ) → j < 32 → slice_index h j ≡ half_of t j) → status ≡ t.status → ◌≡◌ {A = RunThread} (record { status = status; regs = record { pc = slice_index h 0; x = slice_set h 0 0 } }) t
same_thread t status h is size each s =
    let x : slice_set h 0 0 ≡ t.regs.x = same_registers h t is size each in
    let pc : slice_index h 0 ≡ t.regs.pc = each 0 (omega arith) in
    rw (s, pc, x) refl
