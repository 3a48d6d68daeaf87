-- The names that are printed are mnemonics, and a printed line is read as its mnemonic with its operands.
use Rattle.std.proofs.Common.{◌≡◌, ℕ, zero, suc, ◌<◌, ◌≤◌, nat_lt, nat_le, Bool, true, false, ◌&&◌, if◌then◌else◌, inl, inr, Option, Some, None, Result, Ok, List, [], ◌∷◌, ◌++◌, length, length-append, codes, sym, ◌∙◌, ap, subst, refl, arith}
use Rattle.std.proofs.lemmas.Bool.{and_parts, cond-false, ne_eqb, leb-true, ltb-true}
use Rattle.std.specs.List.{list_all}
use Rattle.std.specs.Option.{ok_or}
use Rattle.rv_table.specs.Table.{IsOneOf, branch_ops, load_ops, store_ops, plain_ops, shift_ops, alt_ops}
use Rattle.rv_asm.specs.declared.error.AsmCause.{AsmCause}
use Rattle.rv_asm.specs.declared.error.AsmCause.TheVariants as cause
use Rattle.rv_asm.specs.declared.mnemonic.Mnemonic.{Mnemonic}
use Rattle.rv_asm.specs.declared.mnemonic.Mnemonic.TheVariants.{Jal, Branch, Plain, Word}
use Rattle.rv_asm.specs.declared.mnemonic.PlainMnemonic.TheVariants.{Lui, Auipc, Jalr, Load, Store, Immediate, Shift, Register}
use Rattle.rv_asm.specs.Bytes.{is_either}
use Rattle.rv_asm.specs.Text.{front, rest, is_blank, is_nothing, trim, trim_start, trim_end, without_last}
use Rattle.rv_asm.specs.Names.{mnemonic_of}
use Rattle.rv_asm.specs.Printed.{name_at, branch_names, load_names, store_names, immediate_names, register_names, register_name}
use Rattle.rv_asm.specs.Statement.{Statement, Blank, content, label_or_instruction, instruction, statement_of, ◌>>=◌}
use Rattle.rv_asm.proofs.Tokens.{front_token, rest_token, front_all}
use Rattle.rv_asm.proofs.Bytes.{is_operand_byte, is_line_byte, operand_in_line, all_weaker, all-append, no_blank, no_comment, trim_start-append, trim_end-append, IsOperands}

-- a name of a mnemonic
pub record IsName (name : List ℕ) (m : Mnemonic) : Type 0 where
  pub some : 0 < length name
  pub bytes : list_all is_operand_byte name ≡ true
  pub short : length name ≤ 6
  pub no_colon : without_last 58 name ≡ None
  pub is : mnemonic_of name ≡ Some m

-- the same by tests, for a name that is written out
abbrev fits : List ℕ → Bool
fits name = nat_lt 0 (length name) && (nat_le (length name) 6 && list_all is_operand_byte name)

named : (name : List ℕ) (m : Mnemonic) → fits name ≡ true → without_last 58 name ≡ None → mnemonic_of name ≡ Some m → IsName name m
named name m h no_colon is =
    let first = and_parts _ _ h in
    let second = and_parts _ _ first.1 in
    record { some = ltb-true 0 (length name) first.0; bytes = second.1; short = leb-true (length name) 6 second.0; no_colon = no_colon; is = is }

pub lui_named : IsName (codes "lui") (Plain Lui)
unfolding mnemonic_of
lui_named = named (codes "lui") (Plain Lui) refl refl refl

pub auipc_named : IsName (codes "auipc") (Plain Auipc)
unfolding mnemonic_of
auipc_named = named (codes "auipc") (Plain Auipc) refl refl refl

pub jal_named : IsName (codes "jal") Jal
unfolding mnemonic_of
jal_named = named (codes "jal") Jal refl refl refl

pub jalr_named : IsName (codes "jalr") (Plain Jalr)
unfolding mnemonic_of
jalr_named = named (codes "jalr") (Plain Jalr) refl refl refl

pub word_named : IsName (codes ".word") Word
unfolding mnemonic_of
word_named = named (codes ".word") Word refl refl refl

pub srai_named : IsName (codes "srai") (Plain (Shift 5 true))
unfolding mnemonic_of
srai_named = named (codes "srai") (Plain (Shift 5 true)) refl refl refl

pub branch_named : (op : ℕ) → IsOneOf op branch_ops → IsName (name_at branch_names op) (Branch op)
unfolding mnemonic_of
branch_named op h =
    let P : ℕ → Type 0 = λ o. IsName (name_at branch_names o) (Branch o) in
    elim h [
      | inl e ↦ subst P (sym e) (named (codes "beq") (Branch 0) refl refl refl)
      | inr (inl e) ↦ subst P (sym e) (named (codes "bne") (Branch 1) refl refl refl)
      | inr (inr (inl e)) ↦ subst P (sym e) (named (codes "blt") (Branch 4) refl refl refl)
      | inr (inr (inr (inl e))) ↦ subst P (sym e) (named (codes "bge") (Branch 5) refl refl refl)
      | inr (inr (inr (inr (inl e)))) ↦ subst P (sym e) (named (codes "bltu") (Branch 6) refl refl refl)
      | inr (inr (inr (inr (inr (inl e))))) ↦ subst P (sym e) (named (codes "bgeu") (Branch 7) refl refl refl)
      | inr (inr (inr (inr (inr (inr none))))) ↦ absurd none
    ]

pub load_named : (op : ℕ) → IsOneOf op load_ops → IsName (name_at load_names op) (Plain (Load op))
unfolding mnemonic_of
load_named op h =
    let P : ℕ → Type 0 = λ o. IsName (name_at load_names o) (Plain (Load o)) in
    elim h [
      | inl e ↦ subst P (sym e) (named (codes "lb") (Plain (Load 0)) refl refl refl)
      | inr (inl e) ↦ subst P (sym e) (named (codes "lh") (Plain (Load 1)) refl refl refl)
      | inr (inr (inl e)) ↦ subst P (sym e) (named (codes "lw") (Plain (Load 2)) refl refl refl)
      | inr (inr (inr (inl e))) ↦ subst P (sym e) (named (codes "lbu") (Plain (Load 4)) refl refl refl)
      | inr (inr (inr (inr (inl e)))) ↦ subst P (sym e) (named (codes "lhu") (Plain (Load 5)) refl refl refl)
      | inr (inr (inr (inr (inr none)))) ↦ absurd none
    ]

pub store_named : (op : ℕ) → IsOneOf op store_ops → IsName (name_at store_names op) (Plain (Store op))
unfolding mnemonic_of
store_named op h =
    let P : ℕ → Type 0 = λ o. IsName (name_at store_names o) (Plain (Store o)) in
    elim h [
      | inl e ↦ subst P (sym e) (named (codes "sb") (Plain (Store 0)) refl refl refl)
      | inr (inl e) ↦ subst P (sym e) (named (codes "sh") (Plain (Store 1)) refl refl refl)
      | inr (inr (inl e)) ↦ subst P (sym e) (named (codes "sw") (Plain (Store 2)) refl refl refl)
      | inr (inr (inr none)) ↦ absurd none
    ]

pub plain_named : (op : ℕ) → IsOneOf op plain_ops → IsName (name_at immediate_names op) (Plain (Immediate op))
unfolding mnemonic_of
plain_named op h =
    let P : ℕ → Type 0 = λ o. IsName (name_at immediate_names o) (Plain (Immediate o)) in
    elim h [
      | inl e ↦ subst P (sym e) (named (codes "addi") (Plain (Immediate 0)) refl refl refl)
      | inr (inl e) ↦ subst P (sym e) (named (codes "slti") (Plain (Immediate 2)) refl refl refl)
      | inr (inr (inl e)) ↦ subst P (sym e) (named (codes "sltiu") (Plain (Immediate 3)) refl refl refl)
      | inr (inr (inr (inl e))) ↦ subst P (sym e) (named (codes "xori") (Plain (Immediate 4)) refl refl refl)
      | inr (inr (inr (inr (inl e)))) ↦ subst P (sym e) (named (codes "ori") (Plain (Immediate 6)) refl refl refl)
      | inr (inr (inr (inr (inr (inl e))))) ↦ subst P (sym e) (named (codes "andi") (Plain (Immediate 7)) refl refl refl)
      | inr (inr (inr (inr (inr (inr none))))) ↦ absurd none
    ]

pub shift_named : (op : ℕ) → IsOneOf op shift_ops → IsName (name_at immediate_names op) (Plain (Shift op false))
unfolding mnemonic_of
shift_named op h =
    let P : ℕ → Type 0 = λ o. IsName (name_at immediate_names o) (Plain (Shift o false)) in
    elim h [
      | inl e ↦ subst P (sym e) (named (codes "slli") (Plain (Shift 1 false)) refl refl refl)
      | inr (inl e) ↦ subst P (sym e) (named (codes "srli") (Plain (Shift 5 false)) refl refl refl)
      | inr (inr none) ↦ absurd none
    ]

pub alt_named : (op : ℕ) → IsOneOf op alt_ops → IsName (register_name op true) (Plain (Register op true))
unfolding mnemonic_of
alt_named op h =
    let P : ℕ → Type 0 = λ o. IsName (register_name o true) (Plain (Register o true)) in
    elim h [
      | inl e ↦ subst P (sym e) (named (codes "sub") (Plain (Register 0 true)) refl refl refl)
      | inr (inl e) ↦ subst P (sym e) (named (codes "sra") (Plain (Register 5 true)) refl refl refl)
      | inr (inr none) ↦ absurd none
    ]

pub register_named : (op : ℕ) → op < 8 → IsName (name_at register_names op) (Plain (Register op false))
unfolding mnemonic_of
register_named zero h = named (codes "add") (Plain (Register 0 false)) refl refl refl
register_named (suc zero) h = named (codes "sll") (Plain (Register 1 false)) refl refl refl
register_named (suc (suc zero)) h = named (codes "slt") (Plain (Register 2 false)) refl refl refl
register_named (suc (suc (suc zero))) h = named (codes "sltu") (Plain (Register 3 false)) refl refl refl
register_named (suc (suc (suc (suc zero)))) h = named (codes "xor") (Plain (Register 4 false)) refl refl refl
register_named (suc (suc (suc (suc (suc zero))))) h = named (codes "srl") (Plain (Register 5 false)) refl refl refl
register_named (suc (suc (suc (suc (suc (suc zero)))))) h = named (codes "or") (Plain (Register 6 false)) refl refl refl
register_named (suc (suc (suc (suc (suc (suc (suc zero))))))) h = named (codes "and") (Plain (Register 7 false)) refl refl refl
register_named (suc (suc (suc (suc (suc (suc (suc (suc n)))))))) h = absurd (omega arith)

-- a line without LF, comment or CR, of at most 63 bytes
pub record IsLine (t : List ℕ) : Type 0 where
  pub bytes : list_all is_line_byte t ≡ true
  pub short : length t ≤ 63

pub named_line : (name ops : List ℕ) (m : Mnemonic) → IsName name m → IsOperands 56 ops → IsLine (name ++ 32 ∷ ops)
named_line name ops m h k = record {
  bytes = all-append is_line_byte name (32 ∷ ops) (all_weaker is_operand_byte is_line_byte name operand_in_line h.bytes) k.bytes;
  short = simp length-append (omega arith);
}

whole_content : (name ops : List ℕ) (m : Mnemonic) → IsName name m → IsOperands 56 ops → content (name ++ 32 ∷ ops) ≡ name ++ 32 ∷ ops
whole_content name ops m h k =
    ap trim (front_all (is_either 35 35) (name ++ 32 ∷ ops) (no_comment (name ++ 32 ∷ ops) (named_line name ops m h k).bytes)) ∙ ap trim_end (trim_start-append name (32 ∷ ops) h.some h.bytes) ∙ trim_end-append name (32 ∷ ops) (omega arith) (trim_end-append (32 ∷ []) ops k.some k.at_end)

-- what a line says whose content is known
abbrev said : List ℕ → Result Statement AsmCause
said text =
    let word = front is_blank text in
    if is_nothing text then Ok Blank else label_or_instruction word (trim_start (rest is_blank text)) (without_last 58 word)

pub named_read : (name ops : List ℕ) (m : Mnemonic) → IsName name m → IsOperands 56 ops → statement_of (name ++ 32 ∷ ops) ≡ instruction m ops
unfolding statement_of
named_read name ops m h k =
    let line = name ++ 32 ∷ ops in
    let some : 0 < length line = simp length-append (omega arith) in
    let word : front is_blank line ≡ name = front_token is_blank name ops 32 (no_blank name h.bytes) refl in
    let behind : rest is_blank line ≡ 32 ∷ ops = rest_token is_blank name ops 32 (no_blank name h.bytes) refl in
    ap said (whole_content name ops m h k) ∙ cond-false _ _ _ (ne_eqb (length line) 0 (λ e. omega arith)) ∙ ap (λ w. label_or_instruction w (trim_start (rest is_blank line)) (without_last 58 w)) word ∙ ap (λ r. label_or_instruction name (trim_start r) (without_last 58 name)) behind ∙ ap (λ o. label_or_instruction name o (without_last 58 name)) k.at_start ∙ ap (label_or_instruction name ops) h.no_colon ∙ ap (λ (o : Option Mnemonic). ok_or o cause.Op >>= λ found. instruction found ops) h.is
