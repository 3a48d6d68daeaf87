-- The table as a function and as a relation are one.
use Rattle.std.proofs.Common.{◌≡◌, ℕ, ◌<◌, ◌==◌, Bool, true, false, ◌&&◌, Option, Some, None, IfSome, cond, List, [], ◌∷◌, sym, ◌∙◌, ap, subst, inl, inr, ⊎_elim, refl, arith}
use Rattle.std.proofs.lemmas.Bool.{or_cases, or_left, or_right, eqb-true, eq-eqb, and_parts, and_from, cond_both, cond-true, cond-false}
use Rattle.std.proofs.lemmas.Bool.Decides.{nat_tests}
use Rattle.rv_table.specs.declared.opcodes.TheConstants.{LUI, AUIPC, JAL, JALR, BRANCH, LOAD, STORE, OP_IMM, OP, MISC_MEM, SYSTEM, BASE, ALT, ECALL_WORD}
use Rattle.rv_table.specs.declared.funct3.TheConstants.{SRA}
use Rattle.rv_table.specs.declared.Instr.{Instr}
use Rattle.rv_table.specs.declared.Instr.TheVariants.{Lui, Auipc, Jal, Jalr, Branch, Load, Store, OpImm, Op, Fence, Ecall, Ebreak}
use Rattle.rv_table.specs.Word.{opcode, funct3, funct7}
use Rattle.rv_table.specs.Table.{IsOneOf, branch_ops, load_ops, store_ops, plain_ops, shift_ops, alt_ops, IsRow, IsInstr}
use Rattle.rv_table.specs.Decoded.{is_one_of, when, immediate_row, register_row, system_row, rows, entry_of, decoded}

one_of_true : (n : ℕ) (ns : List ℕ) → IsOneOf n ns → is_one_of n ns ≡ true
one_of_true n [] h = absurd h
one_of_true n (x ∷ xs) (inl e) = or_left _ _ (eq-eqb n x e)
one_of_true n (x ∷ xs) (inr h) = or_right _ _ (one_of_true n xs h)

true_one_of : (n : ℕ) (ns : List ℕ) → is_one_of n ns ≡ true → IsOneOf n ns
true_one_of n [] h = cc
true_one_of n (x ∷ xs) h = ⊎_elim (λ e. inl (eqb-true n x e)) (λ t. inr (true_one_of n xs t)) (or_cases _ _ h)

when_true : (test : Bool) (i : Instr) → test ≡ true → when test i ≡ Some i
when_true test i h = rw h

-- what stands behind a test
when_found : (P : Instr → Type 0) (test : Bool) (i : Instr) → (test ≡ true → P i) → IfSome (when test i) P
when_found P test i h = cond_both test _ _ (λ r. IfSome r P) h (λ _. tt)

-- the operations on immediates that aren't shifts have no op of a shift
plain_no_shift : (op : ℕ) → IsOneOf op shift_ops → is_one_of op plain_ops ≡ false
plain_no_shift op (inl e) = rw e
plain_no_shift op (inr (inl e)) = rw e
plain_no_shift op (inr (inr h)) = elim h [ ]

pub decoded-row : (w : ℕ) (i : Instr) → IsRow w i → decoded w ≡ Some i
unfolding decoded
decoded-row w (Lui d imm) h = ap (entry_of None (rows w)) h.0 ∙ cc
decoded-row w (Auipc d imm) h = ap (entry_of None (rows w)) h.0 ∙ cc
decoded-row w (Jal d imm) h = ap (entry_of None (rows w)) h.0 ∙ cc
decoded-row w (Jalr d a imm) h = ap (entry_of None (rows w)) h.0 ∙ when_true _ _ (eq-eqb _ _ h.1) ∙ cc
decoded-row w (Branch op a b imm) h =
    let test = one_of_true op branch_ops h.2 in
    ap (entry_of None (rows w)) h.0 ∙ when_true _ _ (ap (λ n. is_one_of n branch_ops) (sym h.1) ∙ test) ∙ cc
decoded-row w (Load op d a imm) h =
    let test = one_of_true op load_ops h.2 in
    ap (entry_of None (rows w)) h.0 ∙ when_true _ _ (ap (λ n. is_one_of n load_ops) (sym h.1) ∙ test) ∙ cc
decoded-row w (Store op a b imm) h =
    let test = one_of_true op store_ops h.2 in
    ap (entry_of None (rows w)) h.0 ∙ when_true _ _ (ap (λ n. is_one_of n store_ops) (sym h.1) ∙ test) ∙ cc
decoded-row w (OpImm op alt d a imm) (code, op_is, d_is, a_is, inl h) =
    let test = one_of_true op plain_ops h.0 in
    ap (entry_of None (rows w)) code ∙ cond-true _ _ _ (ap (λ n. is_one_of n plain_ops) (sym op_is) ∙ test) ∙ cc
decoded-row w (OpImm op alt d a imm) (code, op_is, d_is, a_is, inr (inl h)) =
    let test = plain_no_shift op h.0 in
    ap (entry_of None (rows w)) code ∙ cond-false _ _ _ (ap (λ n. is_one_of n plain_ops) (sym op_is) ∙ test) ∙ cond-true _ _ _ (eq-eqb _ _ h.2) ∙ cc
decoded-row w (OpImm op alt d a imm) (code, op_is, d_is, a_is, inr (inr h)) =
    let test = plain_no_shift op (inr (inl h.0)) in
    let no : (funct7 w == BASE) ≡ false = rw h.2 in
    let yes : ((funct7 w == ALT) && (funct3 w == SRA)) ≡ true = and_from _ _ (eq-eqb _ _ h.2) (eq-eqb _ _ (sym op_is ∙ h.0)) in
    ap (entry_of None (rows w)) code ∙ cond-false _ _ _ (ap (λ n. is_one_of n plain_ops) (sym op_is) ∙ test) ∙ cond-false _ _ _ no ∙ when_true _ _ yes ∙ cc
decoded-row w (Op op alt d a b) (code, op_is, d_is, a_is, b_is, inl h) =
    ap (entry_of None (rows w)) code ∙ cond-true _ _ _ (eq-eqb _ _ h.1) ∙ cc
decoded-row w (Op op alt d a b) (code, op_is, d_is, a_is, b_is, inr h) =
    let no : (funct7 w == BASE) ≡ false = rw h.1 in
    let yes : ((funct7 w == ALT) && is_one_of (funct3 w) alt_ops) ≡ true =
    and_from _ _ (eq-eqb _ _ h.1) (ap (λ n. is_one_of n alt_ops) (sym op_is) ∙ one_of_true op alt_ops h.2) in
    ap (entry_of None (rows w)) code ∙ cond-false _ _ _ no ∙ when_true _ _ yes ∙ cc
decoded-row w Fence h = ap (entry_of None (rows w)) h.0 ∙ when_true _ _ (eq-eqb _ _ h.1)
decoded-row w Ecall h = ap decoded h
decoded-row w Ebreak h = ap decoded h

-- a test on the opcode, and the rest of them
behind : (P : Instr → Type 0) (code other : ℕ) (x y : Option Instr) → (code ≡ other → IfSome x P) → IfSome y P → IfSome (cond (code == other) x y) P
behind P code other x y here there =
    cond_both (code == other) x y (λ r. IfSome r P) (λ e. here (eqb-true code other e)) (λ _. there)

below_eight : (w : ℕ) → funct3 w < 8
below_eight w = omega arith

-- an op is a shift's where it isn't one of the others
shift_not_plain : (op : ℕ) → op < 8 → is_one_of op plain_ops ≡ false → IsOneOf op shift_ops
shift_not_plain op low h = grind (arith, nat_tests)

system_found : (w : ℕ) → IfSome (system_row w) (IsRow w)
system_found w =
    cond_both (w == ECALL_WORD) _ _ (λ r. IfSome r (IsRow w)) (λ t. eqb-true _ _ t) (λ _. when_found (IsRow w) _ _ (λ t. eqb-true _ _ t))

immediate_found : (w : ℕ) → opcode w ≡ OP_IMM → IfSome (immediate_row w) (IsRow w)
immediate_found w code =
    let P : Option Instr → Type 0 = λ r. IfSome r (IsRow w) in
    cond_both (is_one_of (funct3 w) plain_ops) _ _ P (λ t. (code, refl, refl, refl, inl (true_one_of (funct3 w) plain_ops t, refl, refl))) (λ f. cond_both (funct7 w == BASE) _ _ P (λ z. (code, refl, refl, refl, inr (inl (shift_not_plain (funct3 w) (below_eight w) f, refl, eqb-true _ _ z, refl)))) (λ _. when_found (IsRow w) _ _ (λ t. (code, refl, refl, refl, inr (inr (eqb-true _ _ (and_parts _ _ t).1, refl, eqb-true _ _ (and_parts _ _ t).0, refl))))))

register_found : (w : ℕ) → opcode w ≡ OP → IfSome (register_row w) (IsRow w)
register_found w code =
    cond_both (funct7 w == BASE) _ _ (λ r. IfSome r (IsRow w)) (λ z. (code, refl, refl, refl, refl, inl (refl, eqb-true _ _ z))) (λ _. when_found (IsRow w) _ _ (λ t. (code, refl, refl, refl, refl, inr (refl, eqb-true _ _ (and_parts _ _ t).0, true_one_of _ alt_ops (and_parts _ _ t).1))))

row_found : (w code : ℕ) → opcode w ≡ code → IfSome (entry_of None (rows w) code) (IsRow w)
row_found w code is =
    let P = IsRow w in
    behind P code LUI _ _ (λ e. (is ∙ e, refl, refl)) (behind P code AUIPC _ _ (λ e. (is ∙ e, refl, refl)) (behind P code JAL _ _ (λ e. (is ∙ e, refl, refl)) (behind P code JALR _ _ (λ e. when_found P _ _ (λ t. (is ∙ e, eqb-true _ _ t, refl, refl, refl))) (behind P code BRANCH _ _ (λ e. when_found P _ _ (λ t. (is ∙ e, refl, true_one_of _ branch_ops t, refl, refl, refl))) (behind P code LOAD _ _ (λ e. when_found P _ _ (λ t. (is ∙ e, refl, true_one_of _ load_ops t, refl, refl, refl))) (behind P code STORE _ _ (λ e. when_found P _ _ (λ t. (is ∙ e, refl, true_one_of _ store_ops t, refl, refl, refl))) (behind P code OP_IMM _ _ (λ e. immediate_found w (is ∙ e)) (behind P code OP _ _ (λ e. register_found w (is ∙ e)) (behind P code MISC_MEM _ _ (λ e. when_found P _ _ (λ t. (is ∙ e, eqb-true _ _ t))) (behind P code SYSTEM _ _ (λ e. system_found w) tt))))))))))

pub decoded-found : (w : ℕ) (i : Instr) → decoded w ≡ Some i → IsRow w i
unfolding decoded
decoded-found w i h =
    let P : Option Instr → Type 0 = λ r. IfSome r (IsRow w) in subst P h (row_found w (opcode w) refl)

-- the fields of a row are in range
pub in_range : (w : ℕ) (i : Instr) → IsRow w i → IsInstr i
in_range w (Lui d imm) h = (omega arith, omega arith, omega arith)
in_range w (Auipc d imm) h = (omega arith, omega arith, omega arith)
in_range w (Jal d imm) h = (omega arith, grind arith, omega arith)
in_range w (Jalr d a imm) h = (omega arith, omega arith, grind arith)
in_range w (Branch op a b imm) h = (h.2, omega arith, omega arith, grind arith, omega arith)
in_range w (Load op d a imm) h = (h.2, omega arith, omega arith, grind arith)
in_range w (Store op a b imm) h = (h.2, omega arith, omega arith, grind arith)
in_range w (OpImm op alt d a imm) (code, op_is, d_is, a_is, inl h) = (omega arith, omega arith, inl (h.0, h.1, grind arith))
in_range w (OpImm op alt d a imm) (code, op_is, d_is, a_is, inr (inl h)) = (omega arith, omega arith, inr (inl (h.0, h.1, omega arith)))
in_range w (OpImm op alt d a imm) (code, op_is, d_is, a_is, inr (inr h)) = (omega arith, omega arith, inr (inr (h.0, h.1, omega arith)))
in_range w (Op op alt d a b) (code, op_is, d_is, a_is, b_is, inl h) = (omega arith, omega arith, omega arith, omega arith, inl h.0)
in_range w (Op op alt d a b) (code, op_is, d_is, a_is, b_is, inr h) = (omega arith, omega arith, omega arith, omega arith, inr (h.0, h.2))
in_range w Fence h = tt
in_range w Ecall h = tt
in_range w Ebreak h = tt

-- what is found of a word, and the only thing that can be, is what the table has
pub exact : (w : ℕ) (r : Option Instr) → IfSome r (λ i. IsRow w i × IsInstr i) → ((i : Instr) → IsRow w i → r ≡ Some i) → r ≡ decoded w
exact w (Some i) found only = sym (decoded-row w i found.0)
exact w None found only =
    elim (decoded w) as (λ d. ((i : Instr) → d ≡ Some i → IsRow w i) → None ≡ d) [ Some i ↦ (λ back. only i (back i refl)) | None ↦ (λ back. refl) ] (decoded-found w)
