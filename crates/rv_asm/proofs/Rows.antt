-- A row of the table has one word, but for FENCE.
use Rattle.std.proofs.Common.{◌≡◌, ℕ, ◌+◌, ◌*◌, ◌^◌, ◌<◌, inl, inr, Bool, sym, ◌∙◌, refl, arith}
use Rattle.std.proofs.lemmas.Bool.{both_ways}
use Rattle.rv_table.specs.declared.Instr.{Instr}
use Rattle.rv_table.specs.declared.Instr.TheVariants.{Lui, Auipc, Jal, Jalr, Branch, Load, Store, OpImm, Op, Fence, Ecall, Ebreak}
use Rattle.rv_table.specs.Word.{bits, opcode, rd, funct3, rs1, rs2, funct7, sign_extended, immediate_i, immediate_s, immediate_b, immediate_u, immediate_j}
use Rattle.rv_table.specs.Table.{IsOneOf, plain_ops, shift_ops, IsRow}
use Rattle.rv_asm.specs.Program.{IsWordOf}

-- words whose fields are equal
same_fields : (w v : ℕ) → w < 2 ^ 32 → v < 2 ^ 32 → opcode w ≡ opcode v → rd w ≡ rd v → funct3 w ≡ funct3 v → rs1 w ≡ rs1 v → rs2 w ≡ rs2 v → funct7 w ≡ funct7 v → w ≡ v
same_fields w v low_w low_v a b c d e f = omega arith

-- the same with the upper 12 or 20 bits as one field
same_upper_12 : (w v : ℕ) → w < 2 ^ 32 → v < 2 ^ 32 → opcode w ≡ opcode v → rd w ≡ rd v → funct3 w ≡ funct3 v → rs1 w ≡ rs1 v → bits 31 20 w ≡ bits 31 20 v → w ≡ v
same_upper_12 w v low_w low_v a b c d e = omega arith

same_upper_20 : (w v : ℕ) → w < 2 ^ 32 → v < 2 ^ 32 → opcode w ≡ opcode v → rd w ≡ rd v → bits 31 12 w ≡ bits 31 12 v → w ≡ v
same_upper_20 w v low_w low_v a b c = omega arith

extended_12 : (m n : ℕ) → m < 2 ^ 12 → n < 2 ^ 12 → sign_extended 12 m ≡ sign_extended 12 n → m ≡ n
extended_12 m n low_m low_n e = omega arith

extended_13 : (m n : ℕ) → m < 2 ^ 13 → n < 2 ^ 13 → sign_extended 13 m ≡ sign_extended 13 n → m ≡ n
extended_13 m n low_m low_n e = omega arith

extended_21 : (m n : ℕ) → m < 2 ^ 21 → n < 2 ^ 21 → sign_extended 21 m ≡ sign_extended 21 n → m ≡ n
extended_21 m n low_m low_n e = omega arith

same_i : (w v : ℕ) → immediate_i w ≡ immediate_i v → bits 31 20 w ≡ bits 31 20 v
same_i w v e = extended_12 (bits 31 20 w) (bits 31 20 v) (omega arith) (omega arith) e

same_s : (w v : ℕ) → immediate_s w ≡ immediate_s v → (rd w ≡ rd v) × (funct7 w ≡ funct7 v)
same_s w v e =
    let sum = extended_12 (2 ^ 5 * bits 31 25 w + bits 11 7 w) (2 ^ 5 * bits 31 25 v + bits 11 7 v) (omega arith) (omega arith) e in
    (omega arith, omega arith)

same_b : (w v : ℕ) → immediate_b w ≡ immediate_b v → (rd w ≡ rd v) × (funct7 w ≡ funct7 v)
same_b w v e =
    let sum = extended_13 (2 ^ 12 * bits 31 31 w + 2 ^ 11 * bits 7 7 w + 2 ^ 5 * bits 30 25 w + 2 * bits 11 8 w) (2 ^ 12 * bits 31 31 v + 2 ^ 11 * bits 7 7 v + 2 ^ 5 * bits 30 25 v + 2 * bits 11 8 v) (omega arith) (omega arith) e in
    let top : bits 31 31 w ≡ bits 31 31 v = omega arith in
    let seven : bits 7 7 w ≡ bits 7 7 v = omega arith in
    let middle : bits 30 25 w ≡ bits 30 25 v = omega arith in
    let low : bits 11 8 w ≡ bits 11 8 v = omega arith in
    (omega arith, omega arith)

same_j : (w v : ℕ) → immediate_j w ≡ immediate_j v → bits 31 12 w ≡ bits 31 12 v
same_j w v e =
    let sum = extended_21 (2 ^ 20 * bits 31 31 w + 2 ^ 12 * bits 19 12 w + 2 ^ 11 * bits 20 20 w + 2 * bits 30 21 w) (2 ^ 20 * bits 31 31 v + 2 ^ 12 * bits 19 12 v + 2 ^ 11 * bits 20 20 v + 2 * bits 30 21 v) (omega arith) (omega arith) e in
    let top : bits 31 31 w ≡ bits 31 31 v = omega arith in
    let low : bits 19 12 w ≡ bits 19 12 v = omega arith in
    let eleven : bits 20 20 w ≡ bits 20 20 v = omega arith in
    let middle : bits 30 21 w ≡ bits 30 21 v = omega arith in
    omega arith

same_u : (w v : ℕ) → immediate_u w ≡ immediate_u v → bits 31 12 w ≡ bits 31 12 v
same_u w v e = omega arith

plain_not_shift : (op : ℕ) → IsOneOf op plain_ops → IsOneOf op shift_ops → ⊥
plain_not_shift op h k = grind arith

one_immediate : (op : ℕ) (alt : Bool) (d a imm w v : ℕ) → w < 2 ^ 32 → v < 2 ^ 32 → IsRow w (OpImm op alt d a imm) → IsRow v (OpImm op alt d a imm) → w ≡ v
one_immediate op alt d a imm w v low_w low_v (h0, h1, h2, h3, inl h) (k0, k1, k2, k3, inl k) =
    same_upper_12 w v low_w low_v (h0 ∙ sym k0) (sym h2 ∙ k2) (sym h1 ∙ k1) (sym h3 ∙ k3) (same_i w v (sym h.2 ∙ k.2))
one_immediate op alt d a imm w v low_w low_v (h0, h1, h2, h3, inr (inl h)) (k0, k1, k2, k3, inr (inl k)) =
    same_fields w v low_w low_v (h0 ∙ sym k0) (sym h2 ∙ k2) (sym h1 ∙ k1) (sym h3 ∙ k3) (sym h.3 ∙ k.3) (h.2 ∙ sym k.2)
one_immediate op alt d a imm w v low_w low_v (h0, h1, h2, h3, inr (inr h)) (k0, k1, k2, k3, inr (inr k)) =
    same_fields w v low_w low_v (h0 ∙ sym k0) (sym h2 ∙ k2) (sym h1 ∙ k1) (sym h3 ∙ k3) (sym h.3 ∙ k.3) (h.2 ∙ sym k.2)
one_immediate op alt d a imm w v low_w low_v (h0, h1, h2, h3, inl h) (k0, k1, k2, k3, inr (inl k)) = absurd (plain_not_shift op h.0 k.0)
one_immediate op alt d a imm w v low_w low_v (h0, h1, h2, h3, inr (inl h)) (k0, k1, k2, k3, inl k) = absurd (plain_not_shift op k.0 h.0)
one_immediate op alt d a imm w v low_w low_v (h0, h1, h2, h3, inl h) (k0, k1, k2, k3, inr (inr k)) = absurd (both_ways alt h.1 k.1)
one_immediate op alt d a imm w v low_w low_v (h0, h1, h2, h3, inr (inr h)) (k0, k1, k2, k3, inl k) = absurd (both_ways alt k.1 h.1)
one_immediate op alt d a imm w v low_w low_v (h0, h1, h2, h3, inr (inl h)) (k0, k1, k2, k3, inr (inr k)) = absurd (both_ways alt h.1 k.1)
one_immediate op alt d a imm w v low_w low_v (h0, h1, h2, h3, inr (inr h)) (k0, k1, k2, k3, inr (inl k)) = absurd (both_ways alt k.1 h.1)

one_register : (op : ℕ) (alt : Bool) (d a b w v : ℕ) → w < 2 ^ 32 → v < 2 ^ 32 → IsRow w (Op op alt d a b) → IsRow v (Op op alt d a b) → w ≡ v
one_register op alt d a b w v low_w low_v (h0, h1, h2, h3, h4, inl h) (k0, k1, k2, k3, k4, inl k) =
    same_fields w v low_w low_v (h0 ∙ sym k0) (sym h2 ∙ k2) (sym h1 ∙ k1) (sym h3 ∙ k3) (sym h4 ∙ k4) (h.1 ∙ sym k.1)
one_register op alt d a b w v low_w low_v (h0, h1, h2, h3, h4, inr h) (k0, k1, k2, k3, k4, inr k) =
    same_fields w v low_w low_v (h0 ∙ sym k0) (sym h2 ∙ k2) (sym h1 ∙ k1) (sym h3 ∙ k3) (sym h4 ∙ k4) (h.1 ∙ sym k.1)
one_register op alt d a b w v low_w low_v (h0, h1, h2, h3, h4, inl h) (k0, k1, k2, k3, k4, inr k) = absurd (both_ways alt h.0 k.0)
one_register op alt d a b w v low_w low_v (h0, h1, h2, h3, h4, inr h) (k0, k1, k2, k3, k4, inl k) = absurd (both_ways alt k.0 h.0)

-- an instruction has one word
pub one_word : (i : Instr) (w v : ℕ) → IsWordOf i w → IsWordOf i v → w ≡ v
one_word (Lui d imm) w v (h, low_w, _) (k, low_v, _) = same_upper_20 w v low_w low_v (h.0 ∙ sym k.0) (sym h.1 ∙ k.1) (same_u w v (sym h.2 ∙ k.2))
one_word (Auipc d imm) w v (h, low_w, _) (k, low_v, _) = same_upper_20 w v low_w low_v (h.0 ∙ sym k.0) (sym h.1 ∙ k.1) (same_u w v (sym h.2 ∙ k.2))
one_word (Jal d imm) w v (h, low_w, _) (k, low_v, _) = same_upper_20 w v low_w low_v (h.0 ∙ sym k.0) (sym h.1 ∙ k.1) (same_j w v (sym h.2 ∙ k.2))
one_word (Jalr d a imm) w v (h, low_w, _) (k, low_v, _) = same_upper_12 w v low_w low_v (h.0 ∙ sym k.0) (sym h.2 ∙ k.2) (h.1 ∙ sym k.1) (sym h.3 ∙ k.3) (same_i w v (sym h.4 ∙ k.4))
one_word (Branch op a b imm) w v (h, low_w, _) (k, low_v, _) =
    let parts = same_b w v (sym h.5 ∙ k.5) in
    same_fields w v low_w low_v (h.0 ∙ sym k.0) parts.0 (sym h.1 ∙ k.1) (sym h.3 ∙ k.3) (sym h.4 ∙ k.4) parts.1
one_word (Load op d a imm) w v (h, low_w, _) (k, low_v, _) = same_upper_12 w v low_w low_v (h.0 ∙ sym k.0) (sym h.3 ∙ k.3) (sym h.1 ∙ k.1) (sym h.4 ∙ k.4) (same_i w v (sym h.5 ∙ k.5))
one_word (Store op a b imm) w v (h, low_w, _) (k, low_v, _) =
    let parts = same_s w v (sym h.5 ∙ k.5) in
    same_fields w v low_w low_v (h.0 ∙ sym k.0) parts.0 (sym h.1 ∙ k.1) (sym h.3 ∙ k.3) (sym h.4 ∙ k.4) parts.1
one_word (OpImm op alt d a imm) w v (h, low_w, _) (k, low_v, _) = one_immediate op alt d a imm w v low_w low_v h k
one_word (Op op alt d a b) w v (h, low_w, _) (k, low_v, _) = one_register op alt d a b w v low_w low_v h k
one_word Fence w v (h, low_w, fence_w) (k, low_v, fence_v) = fence_w refl ∙ sym (fence_v refl)
one_word Ecall w v (h, _, _) (k, _, _) = h ∙ sym k
one_word Ebreak w v (h, _, _) (k, _, _) = h ∙ sym k
