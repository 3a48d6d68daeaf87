-- Registers of threads: they stay words, of which the first is 0, where one is set.
use Rattle.std.specs.Prelude.{◌≡◌, ℕ, suc, ◌+◌, ◌*◌, ◌%◌, ◌^◌, ◌<◌, ◌≤◌, ◌==◌, Bool, true, false, if◌then◌else◌, List, [], ◌∷◌, length, map, is_none, unwrap_or, Option, Some, None, slice_index, slice_set}
use Rattle.std.proofs.Common.{refl, ap, ◌∙◌, arith, inl, inr}
use Rattle.std.proofs.lemmas.Bool.{cases_eq, cases_lt, cond_both, eqb-false}
use Rattle.std.proofs.lemmas.List.{length-set, length-map, length-replicate, get_or-replicate, get_or-set_same, get_or-set_other, get_or_past, set_past}
use Rattle.std.proofs.lemmas.List.Elements.{All-head, All-tail}
use Rattle.std.proofs.lemmas.List.Quantifiers.{position-Some}
use Rattle.std.proofs.lemmas.Nat.{pow-add}
use Rattle.rv_table.specs.Table.{IsOneOf, load_ops}
use Rattle.rv_core.specs.declared.registers.Regs.{Regs}
use Rattle.rv_core.specs.Effect.{size_of, extended, with_register}
use Rattle.rv_core.specs.Ranges.{AreRegs}
use Rattle.sls_base.specs.declared.limits.TheConstants.{GROUP_SLOTS, INSTRUCTION_BYTES, REGISTERS}
use Rattle.sls_base.specs.declared.thread.Thread.{Thread as ThreadRecord}
use Rattle.plain_state.specs.declared.calls.TheConstants.{ANSWER}
use Rattle.plain_state.specs.declared.effect.Place.{Place}
use Rattle.plain_state.specs.declared.objects.Capability.{Capability}
use Rattle.plain_model.specs.States.{State, zero_registers}
use Rattle.plain_model.specs.Memory.{byte_at, number_of_bytes}
use Rattle.plain_model.specs.Effects.{next_pc}
use Rattle.plain_model.specs.Calls.{free_slot}
use Rattle.plain_model.specs.CallEffects.{handed}
use Rattle.plain_model.specs.Instructions.{value_at}
use Rattle.plain_laws.specs.Bounds.{AreBytes, HasPages}
use Rattle.plain_laws.proofs.PageBytes.{IsByte, read_are_bytes}

-- a word of 32 bits
abbrev pub IsWord : ℕ → Type 0
IsWord value = value < 2 ^ 32

-- the registers of a thread
pub record AreRegisters (x : List ℕ) : Type 0 where
  pub count : length x ≡ REGISTERS
  pub each : (i : ℕ) → IsWord (slice_index x i)
  pub zero : slice_index x 0 ≡ 0

-- and its pc
pub record AreInForm (regs : Regs) : Type 0 where
  pub pc : IsWord regs.pc
  pub aligned : regs.pc % INSTRUCTION_BYTES ≡ 0
  pub registers : AreRegisters regs.x

pub are_regs : (regs : Regs) → AreInForm regs → AreRegs regs
are_regs regs h = record { counter = h.pc; count = h.registers.count; each = h.registers.each }

-- the instruction after an aligned one
pub next_in_form : (thread : ThreadRecord) (x : List ℕ) → thread.pc % INSTRUCTION_BYTES ≡ 0 → AreRegisters x → AreInForm (record { pc = next_pc thread; x = x })
next_in_form thread x aligned h = record { pc = omega arith; aligned = omega arith; registers = h }

-- Registers that are set.

set_word_at : (x : List ℕ) (k value : ℕ) → IsWord value → IsWord (slice_index x k) → IsWord (slice_index (slice_set x k value) k)
set_word_at x k value new old = elim (cases_lt k (length x)) [
  | inl l ↦ rw (get_or-set_same x k value 0 l) new
  | inr l ↦ rw (set_past x k value l) old
]

set_word : (x : List ℕ) (k value : ℕ) → IsWord value → ((i : ℕ) → IsWord (slice_index x i)) → (i : ℕ) → IsWord (slice_index (slice_set x k value) i)
set_word x k value new old i = elim (cases_eq i k) [
  | inl e ↦ rw e (set_word_at x k value new (old k))
  | inr ne ↦ rw (get_or-set_other x k i value 0 ne) (old i)
]

pub set_register : (x : List ℕ) (k value : ℕ) → 0 < k → IsWord value → AreRegisters x → AreRegisters (slice_set x k value)
set_register x k value other new h = record {
  count = length-set x k value ∙ h.count;
  each = set_word x k value new h.each;
  zero = get_or-set_other x k 0 value 0 (λ e. absurd (omega arith)) ∙ h.zero;
}

with_register_if : (x : List ℕ) (rd value : ℕ) (b : Bool) → (rd == 0) ≡ b → IsWord value → AreRegisters x → AreRegisters (if b then x else slice_set x rd value)
with_register_if x rd value true e new h = h
with_register_if x rd value false e new h = (let ne = eqb-false rd 0 e in set_register x rd value (omega arith) new h)

pub write_register : (x : List ℕ) (rd value : ℕ) → IsWord value → AreRegisters x → AreRegisters (with_register x rd value)
write_register x rd value new h = with_register_if x rd value (rd == 0) refl new h

pub answered_registers : (x : List ℕ) (answer : ℕ) → IsWord answer → AreRegisters x → AreRegisters (slice_set x ANSWER answer)
answered_registers x answer new h = set_register x ANSWER answer (omega arith) new h

pub handed_registers : (x : List ℕ) (a b : ℕ) → IsWord a → IsWord b → AreRegisters x → AreRegisters (handed x a b)
handed_registers x a b a_fits b_fits h =
    let first = answered_registers x 0 (omega arith) h in
    let second = set_register (slice_set x ANSWER 0) (ANSWER + 1) a (omega arith) a_fits first in
    set_register (slice_set (slice_set x ANSWER 0) (ANSWER + 1) a) (ANSWER + 2) b (omega arith) b_fits second

zero_at : (i : ℕ) → slice_index zero_registers i ≡ 0
unfolding zero_registers
zero_at i = elim (cases_lt i REGISTERS) [
  | inl l ↦ get_or-replicate REGISTERS i 0 0 l
  | inr l ↦ get_or_past zero_registers i 0 (let count = length-replicate {A = ℕ} REGISTERS 0 in omega arith)
]

pub zeros_are_registers : AreRegisters zero_registers
unfolding zero_registers
zeros_are_registers = record { count = length-replicate {A = ℕ} REGISTERS 0; each = λ i. (let e = zero_at i in omega arith); zero = zero_at 0 }

-- Values that registers get.

-- so many bytes as a number
number_below : (bytes : List ℕ) → AreBytes bytes → number_of_bytes bytes < 2 ^ (8 * length bytes)
number_below [] h = omega arith
number_below (byte ∷ bytes) h =
    let first = All-head IsByte byte bytes h in
    let rest = number_below bytes (All-tail IsByte byte bytes h) in
    let places : 8 * suc (length bytes) ≡ 8 + 8 * length bytes = omega arith in
    let power : 2 ^ (8 * suc (length bytes)) ≡ 2 ^ 8 * 2 ^ (8 * length bytes) = ap (λ (n : ℕ). 2 ^ n) places ∙ pow-add 2 8 (8 * length bytes) in
    omega arith

pub value_below : (s : State) (places : List Place) → HasPages s → value_at s places < 2 ^ (8 * length places)
value_below s places h =
    let count = length-map places (byte_at s.objects) in
    let below = number_below (map (byte_at s.objects) places) (read_are_bytes s places h) in
    rw count at below

-- the bytes of a load are no more than a word's
load_in_word : (op : ℕ) → IsOneOf op load_ops → 2 ^ (8 * size_of op) ≤ 2 ^ 32
load_in_word op (inl e) = rw e (omega arith)
load_in_word op (inr (inl e)) = rw e (omega arith)
load_in_word op (inr (inr (inl e))) = rw e (omega arith)
load_in_word op (inr (inr (inr (inl e)))) = rw e (omega arith)
load_in_word op (inr (inr (inr (inr (inl e))))) = rw e (omega arith)
load_in_word op (inr (inr (inr (inr (inr h))))) = absurd h

extended_word : (op raw : ℕ) → IsWord raw → IsWord (extended op raw)
extended_word op raw h =
    cond_both (op == 0) _ _ IsWord (λ _. omega arith)
    (λ _. cond_both (op == 1) _ _ IsWord (λ _. omega arith)
    (λ _. cond_both (op == 4) _ _ IsWord (λ _. omega arith)
    (λ _. cond_both (op == 5) _ _ IsWord (λ _. omega arith) (λ _. h))))

pub loaded_word : (s : State) (op : ℕ) (places : List Place) → HasPages s → IsOneOf op load_ops → length places ≡ size_of op → IsWord (extended op (value_at s places))
loaded_word s op places h one count =
    let below = value_below s places h in
    let most = load_in_word op one in
    let power = ap (λ (n : ℕ). 2 ^ (8 * n)) count in
    extended_word op (value_at s places) (omega arith)

-- the lowest free slot
slot_word_of : (slots : List (Option Capability)) (slot : Option ℕ) → free_slot slots ≡ slot → length slots ≤ GROUP_SLOTS → IsWord (unwrap_or slot 0)
slot_word_of slots None e l = omega arith
slot_word_of slots (Some slot) e l = (let place = position-Some is_none slots slot None e in let below = place.0 in omega arith)

pub slot_word : (slots : List (Option Capability)) → length slots ≤ GROUP_SLOTS → IsWord (unwrap_or (free_slot slots) 0)
slot_word slots l = slot_word_of slots (free_slot slots) refl l
