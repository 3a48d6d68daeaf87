-- What is read of a printed word.
use Rattle.std.proofs.Common.{◌≡◌, ℕ, ◌+◌, ◌-◌, ◌*◌, ◌/◌, ◌%◌, ◌^◌, ◌<◌, ◌≤◌, nat_le, ◌⊎◌, inl, inr, Bool, true, false, Option, Some, Result, Ok, List, [], ◌∷◌, ◌++◌, length, codes, sym, ◌∙◌, ap, subst, refl, arith}
use Rattle.std.proofs.lemmas.Bool.{cond-true, le-leb, leb-true, eq-eqb}
use Rattle.std.specs.List.{list_all}
use Rattle.std.specs.Option.{option_map, ok_or}
use Rattle.std.specs.Str.Parse.{digits_value}
use Rattle.rv_table.specs.declared.Instr.{Instr}
use Rattle.rv_table.specs.declared.Instr.TheVariants as instr
use Rattle.rv_table.specs.Table.{IsInstr, IsSigned, IsOneOf, branch_ops}
use Rattle.rv_asm.specs.declared.error.AsmCause.{AsmCause}
use Rattle.rv_asm.specs.declared.error.AsmCause.TheVariants as cause
use Rattle.rv_asm.specs.declared.mnemonic.Mnemonic.{Mnemonic}
use Rattle.rv_asm.specs.declared.mnemonic.Mnemonic.TheVariants.{Jal, Branch, Plain, Word}
use Rattle.rv_asm.specs.declared.mnemonic.PlainMnemonic.TheVariants.{Lui, Auipc, Jalr, Load, Store, Immediate, Shift, Register}
use Rattle.rv_asm.specs.declared.number.Number.{Number}
use Rattle.rv_asm.specs.Operand.{number_of, within, even_within}
use Rattle.rv_asm.specs.Names.{mnemonic_of}
use Rattle.rv_asm.specs.Statement.{Statement, Data, Does, Target, Offset, upper, access, immediate, registers, reach, with_offset, aimed, plain, instruction, statement_of, ◌>>=◌}
use Rattle.rv_asm.specs.Printed.{register_text, signed_text, upper_text, memory_text, written, instruction_text, data_text, hex_digits, name_at, branch_names, load_names, store_names, immediate_names, register_names, register_name}
use Rattle.rv_asm.proofs.Operands.{two_tokens, three_tokens, one_alone}
use Rattle.rv_asm.proofs.Numbers.{register_read, number_read, magnitude_read}
use Rattle.rv_asm.proofs.Bytes.{is_line_byte, IsOperand, IsOperands, operand_token, first_operand, last_operand}
use Rattle.rv_asm.proofs.Named.{IsName, IsLine, named_line, named_read, lui_named, auipc_named, jal_named, jalr_named, word_named, srai_named, branch_named, load_named, store_named, plain_named, shift_named, alt_named, register_named}
use Rattle.rv_asm.proofs.Shapes.{upper_read, access_read, immediate_read, registers_read, data_read, jump_read, branch_read}
use Rattle.rv_asm.proofs.Spelled.{register_operand, upper_operand, signed_operand, memory_operand, IsRead, signed_read, signed_no_name, memory_read, hex_spelled}

-- an instruction that is all that a line says
abbrev does : Result Instr AsmCause → Result Statement AsmCause
does read = read >>= λ i. Ok (Does i)

-- a line that says this
pub record Says (text : List ℕ) (statement : Statement) : Type 0 where
  pub line : IsLine text
  pub said : statement_of text ≡ Ok statement

widened : (n : ℕ) (t : List ℕ) → IsOperands n t → n ≤ 56 → IsOperands 56 t
widened n t h few =
    record { some = h.some; bytes = h.bytes; at_start = h.at_start; at_end = h.at_end; short = omega (arith, h.short) }

two : (m n : ℕ) (a b : List ℕ) → IsOperand m a → IsOperand n b → m + 2 + n ≤ 56 → IsOperands 56 (a ++ 44 ∷ 32 ∷ b)
two m n a b h k few = widened (m + 2 + n) _ (first_operand a b h (last_operand b k)) few

three : (l m n : ℕ) (a b c : List ℕ) → IsOperand l a → IsOperand m b → IsOperand n c → l + 2 + (m + 2 + n) ≤ 56 → IsOperands 56 (a ++ 44 ∷ 32 ∷ (b ++ 44 ∷ 32 ∷ c))
three l m n a b c h k j few =
    widened (l + 2 + (m + 2 + n)) _ (first_operand a (b ++ 44 ∷ 32 ∷ c) h (first_operand b c k (last_operand c j))) few

-- a name and its operands, where they are read as this
says : (name ops : List ℕ) (m : Mnemonic) (s : Statement) → IsName name m → IsOperands 56 ops → instruction m ops ≡ Ok s → Says (name ++ 32 ∷ ops) s
says name ops m s h k read = record { line = named_line name ops m h k; said = named_read name ops m h k ∙ read }

upper_said : (name : List ℕ) (m : Mnemonic) (make : ℕ → ℕ → Instr) → IsName name m → ((text : List ℕ) → instruction m text ≡ does (upper text >>= λ p. Ok (make p.0 p.1))) → (d imm : ℕ) → d < 32 → imm < 2 ^ 32 → imm % 2 ^ 12 ≡ 0 → Says (written name (register_text d ∷ upper_text imm ∷ [])) (Does (make d imm))
upper_said name m make named is d imm low fits even =
    let a = register_text d in
    let b = upper_text imm in
    let h = register_operand d low in
    let k = upper_operand imm fits in
    let ops = a ++ 44 ∷ 32 ∷ b in
    let high = imm / 2 ^ 12 in
    let number : Number = record { negative = false; magnitude = imm / 2 ^ 12 } in
    let parts = two_tokens a b (operand_token a h) (operand_token b k) in
    let in_range : within 0 1048575 number ≡ Some high = cond-true (nat_le high 1048575) _ _ (le-leb high 1048575 (omega arith)) in
    let read = upper_read ops a b number d high parts (number_read high (omega arith)) (register_read d low) in_range in
    let whole : 2 ^ 12 * (imm / 2 ^ 12) ≡ imm = omega arith in
    says name ops m (Does (make d imm)) named (two 3 7 a b h k (omega arith)) (is ops ∙ ap (λ (r : Result (ℕ × ℕ) AsmCause). does (r >>= λ p. Ok (make p.0 p.1))) read ∙ ap (λ v. Ok (Does (make d v))) whole)

signed_12 : (imm : ℕ) → IsSigned 12 imm → (imm < 2 ^ 32) × ((imm ≤ 2047) ⊎ (2 ^ 32 - 2048 ≤ imm))
signed_12 imm (inl h) = (omega arith, inl (omega arith))
signed_12 imm (inr h) = (h.1, inr (omega arith))

access_said : (name : List ℕ) (m : Mnemonic) (make : ℕ → ℕ → ℕ → Instr) → IsName name m → ((text : List ℕ) → instruction m text ≡ does (access text >>= λ p. Ok (make p.0 p.1 p.2))) → (r base imm : ℕ) → r < 32 → base < 32 → IsSigned 12 imm → Says (written name (register_text r ∷ memory_text imm base ∷ [])) (Does (make r base imm))
access_said name m make named is r base imm low low_base signed =
    let fits = signed_12 imm signed in
    let a = register_text r in
    let b = memory_text imm base in
    let h = register_operand r low in
    let k = memory_operand imm base fits.0 low_base in
    let ops = a ++ 44 ∷ 32 ∷ b in
    let n = signed_read imm fits.0 in
    let parts = two_tokens a b (operand_token a h) (operand_token b k) in
    let read = access_read ops a b (signed_text imm) (register_text base) n.number r base imm parts (memory_read imm base fits.0) n.spelled (register_read r low) (register_read base low_base) (n.in_range 2048 2047 (omega arith) (omega arith) fits.1) in
    says name ops m (Does (make r base imm)) named (two 3 16 a b h k (omega arith)) (is ops ∙ ap (λ (r : Result (ℕ × ℕ × ℕ) AsmCause). does (r >>= λ p. Ok (make p.0 p.1 p.2))) read)

immediate_said : (below above : ℕ) (name : List ℕ) (m : Mnemonic) (make : ℕ → ℕ → ℕ → Instr) → IsName name m → ((text : List ℕ) → instruction m text ≡ does (immediate below above text >>= λ p. Ok (make p.0 p.1 p.2))) → (d a imm : ℕ) → d < 32 → a < 32 → imm < 2 ^ 32 → below ≤ 2 ^ 31 → above < 2 ^ 31 → (imm ≤ above) ⊎ (2 ^ 32 - below ≤ imm) → Says (written name (register_text d ∷ register_text a ∷ signed_text imm ∷ [])) (Does (make d a imm))
immediate_said below above name m make named is d a imm low_d low_a fits small_below small_above range =
    let s = register_text d in
    let t = register_text a in
    let u = signed_text imm in
    let h = register_operand d low_d in
    let k = register_operand a low_a in
    let j = signed_operand imm fits in
    let ops = s ++ 44 ∷ 32 ∷ (t ++ 44 ∷ 32 ∷ u) in
    let n = signed_read imm fits in
    let parts = three_tokens s t u (operand_token s h) (operand_token t k) (operand_token u j) in
    let read = immediate_read below above ops s t u n.number d a imm parts n.spelled (register_read d low_d) (register_read a low_a) (n.in_range below above small_below small_above range) in
    says name ops m (Does (make d a imm)) named (three 3 3 11 s t u h k j (omega arith)) (is ops ∙ ap (λ (r : Result (ℕ × ℕ × ℕ) AsmCause). does (r >>= λ p. Ok (make p.0 p.1 p.2))) read)

registers_said : (name : List ℕ) (m : Mnemonic) (make : ℕ → ℕ → ℕ → Instr) → IsName name m → ((text : List ℕ) → instruction m text ≡ does (registers text >>= λ p. Ok (make p.0 p.1 p.2))) → (d a b : ℕ) → d < 32 → a < 32 → b < 32 → Says (written name (register_text d ∷ register_text a ∷ register_text b ∷ [])) (Does (make d a b))
registers_said name m make named is d a b low_d low_a low_b =
    let s = register_text d in
    let t = register_text a in
    let u = register_text b in
    let h = register_operand d low_d in
    let k = register_operand a low_a in
    let j = register_operand b low_b in
    let ops = s ++ 44 ∷ 32 ∷ (t ++ 44 ∷ 32 ∷ u) in
    let parts = three_tokens s t u (operand_token s h) (operand_token t k) (operand_token u j) in
    let read = registers_read ops s t u d a b parts (register_read d low_d) (register_read a low_a) (register_read b low_b) in
    says name ops m (Does (make d a b)) named (three 3 3 3 s t u h k j (omega arith)) (is ops ∙ ap (λ (r : Result (ℕ × ℕ × ℕ) AsmCause). does (r >>= λ p. Ok (make p.0 p.1 p.2))) read)

-- an offset in reach goes into the instruction
aimed_read : (i : Instr) (imm : ℕ) (n : IsRead imm) → imm % 2 ≡ 0 → reach i ≤ 2 ^ 31 → (imm ≤ reach i - 2) ⊎ (2 ^ 32 - reach i ≤ imm) → aimed i (Offset n.number) ≡ Ok (Does (with_offset i imm))
aimed_read i imm n even few range =
    let found : even_within (reach i) (reach i - 2) n.number ≡ Some imm = cond-true _ _ _ (eq-eqb (n.number.magnitude % 2) 0 (n.even even)) ∙ n.in_range (reach i) (reach i - 2) few (omega arith) range in
    ap (λ (o : Option ℕ). ok_or (option_map (λ v. Does (with_offset i v)) o) cause.Number) found

signed_13 : (imm : ℕ) → IsSigned 13 imm → imm % 2 ≡ 0 → (imm < 2 ^ 32) × ((imm ≤ 4094) ⊎ (2 ^ 32 - 4096 ≤ imm))
signed_13 imm (inl h) even = (omega arith, inl (omega arith))
signed_13 imm (inr h) even = (h.1, inr (omega arith))

signed_21 : (imm : ℕ) → IsSigned 21 imm → imm % 2 ≡ 0 → (imm < 2 ^ 32) × ((imm ≤ 1048574) ⊎ (2 ^ 32 - 1048576 ≤ imm))
signed_21 imm (inl h) even = (omega arith, inl (omega arith))
signed_21 imm (inr h) even = (h.1, inr (omega arith))

jump_said : (d imm : ℕ) → d < 32 → IsSigned 21 imm → imm % 2 ≡ 0 → Says (written (codes "jal") (register_text d ∷ signed_text imm ∷ [])) (Does (instr.Jal d imm))
unfolding instruction
jump_said d imm low signed even =
    let fits = signed_21 imm signed even in
    let a = register_text d in
    let b = signed_text imm in
    let h = register_operand d low in
    let k = signed_operand imm fits.0 in
    let ops = a ++ 44 ∷ 32 ∷ b in
    let n = signed_read imm fits.0 in
    let parts = two_tokens a b (operand_token a h) (operand_token b k) in
    let read = jump_read ops a b n.number d parts (signed_no_name imm fits.0) n.spelled (register_read d low) in
    says (codes "jal") ops Jal (Does (instr.Jal d imm)) jal_named (two 3 11 a b h k (omega arith)) (ap (λ (r : Result (ℕ × Target) AsmCause). r >>= λ p. aimed (instr.Jal p.0 0) p.1) read ∙ aimed_read (instr.Jal d 0) imm n even (omega arith) fits.1)

branch_said : (op a b imm : ℕ) → IsOneOf op branch_ops → a < 32 → b < 32 → IsSigned 13 imm → imm % 2 ≡ 0 → Says (written (name_at branch_names op) (register_text a ∷ register_text b ∷ signed_text imm ∷ [])) (Does (instr.Branch op a b imm))
unfolding instruction
branch_said op a b imm known low_a low_b signed even =
    let fits = signed_13 imm signed even in
    let s = register_text a in
    let t = register_text b in
    let u = signed_text imm in
    let h = register_operand a low_a in
    let k = register_operand b low_b in
    let j = signed_operand imm fits.0 in
    let ops = s ++ 44 ∷ 32 ∷ (t ++ 44 ∷ 32 ∷ u) in
    let n = signed_read imm fits.0 in
    let parts = three_tokens s t u (operand_token s h) (operand_token t k) (operand_token u j) in
    let read = branch_read ops s t u n.number a b parts (signed_no_name imm fits.0) n.spelled (register_read a low_a) (register_read b low_b) in
    says (name_at branch_names op) ops (Branch op) (Does (instr.Branch op a b imm)) (branch_named op known) (three 3 3 11 s t u h k j (omega arith)) (ap (λ (r : Result (ℕ × ℕ × Target) AsmCause). r >>= λ p. aimed (instr.Branch op p.0 p.1 0) p.2) read ∙ aimed_read (instr.Branch op a b 0) imm n even (omega arith) fits.1)

-- what has no operands
bare_line : (text : List ℕ) → list_all is_line_byte text ≡ true → nat_le (length text) 63 ≡ true → IsLine text
bare_line text bytes short = record { bytes = bytes; short = leb-true (length text) 63 short }

pub instruction_said : (i : Instr) → IsInstr i → Says (instruction_text i) (Does i)
unfolding instruction_text plain instruction statement_of mnemonic_of
instruction_said (instr.Lui d imm) h = upper_said (codes "lui") (Plain Lui) (λ r v. instr.Lui r v) lui_named (λ text. refl) d imm h.0 h.1 h.2
instruction_said (instr.Auipc d imm) h = upper_said (codes "auipc") (Plain Auipc) (λ r v. instr.Auipc r v) auipc_named (λ text. refl) d imm h.0 h.1 h.2
instruction_said (instr.Jal d imm) h = jump_said d imm h.0 h.1 h.2
instruction_said (instr.Jalr d a imm) h = access_said (codes "jalr") (Plain Jalr) (λ r b v. instr.Jalr r b v) jalr_named (λ text. refl) d a imm h.0 h.1 h.2
instruction_said (instr.Branch op a b imm) h = branch_said op a b imm h.0 h.1 h.2 h.3 h.4
instruction_said (instr.Load op d a imm) h = access_said (name_at load_names op) (Plain (Load op)) (λ r b v. instr.Load op r b v) (load_named op h.0) (λ text. refl) d a imm h.1 h.2 h.3
instruction_said (instr.Store op a b imm) h = access_said (name_at store_names op) (Plain (Store op)) (λ r s v. instr.Store op s r v) (store_named op h.0) (λ text. refl) b a imm h.2 h.1 h.3
instruction_said (instr.OpImm op alt d a imm) (low_d, low_a, inl h) =
    let fits = signed_12 imm h.2 in
    let P : Bool → Type 0 = λ x. Says (instruction_text (instr.OpImm op x d a imm)) (Does (instr.OpImm op x d a imm)) in
    subst P (sym h.1) (immediate_said 2048 2047 (name_at immediate_names op) (Plain (Immediate op)) (λ r b v. instr.OpImm op false r b v) (plain_named op h.0) (λ text. refl) d a imm low_d low_a fits.0 (omega arith) (omega arith) fits.1)
instruction_said (instr.OpImm op alt d a imm) (low_d, low_a, inr (inl h)) =
    let P : Bool → Type 0 = λ x. Says (instruction_text (instr.OpImm op x d a imm)) (Does (instr.OpImm op x d a imm)) in
    subst P (sym h.1) (immediate_said 0 31 (name_at immediate_names op) (Plain (Shift op false)) (λ r b v. instr.OpImm op false r b v) (shift_named op h.0) (λ text. refl) d a imm low_d low_a (omega arith) (omega arith) (omega arith) (inl (omega arith)))
instruction_said (instr.OpImm op alt d a imm) (low_d, low_a, inr (inr h)) =
    let P : ℕ → Bool → Type 0 = λ o x. Says (instruction_text (instr.OpImm o x d a imm)) (Does (instr.OpImm o x d a imm)) in
    let fives : P 5 true = immediate_said 0 31 (codes "srai") (Plain (Shift 5 true)) (λ r b v. instr.OpImm 5 true r b v) srai_named (λ text. refl) d a imm low_d low_a (omega arith) (omega arith) (omega arith) (inl (omega arith)) in
    let Q : ℕ → Type 0 = λ o. P o alt in
    let R : Bool → Type 0 = λ x. P 5 x in subst Q (sym h.0) (subst R (sym h.1) fives)
instruction_said (instr.Op op alt d a b) (low_op, low_d, low_a, low_b, inl h) =
    let P : Bool → Type 0 = λ x. Says (instruction_text (instr.Op op x d a b)) (Does (instr.Op op x d a b)) in
    subst P (sym h) (registers_said (name_at register_names op) (Plain (Register op false)) (λ r s t. instr.Op op false r s t) (register_named op low_op) (λ text. refl) d a b low_d low_a low_b)
instruction_said (instr.Op op alt d a b) (low_op, low_d, low_a, low_b, inr h) =
    let P : Bool → Type 0 = λ x. Says (instruction_text (instr.Op op x d a b)) (Does (instr.Op op x d a b)) in
    subst P (sym h.0) (registers_said (register_name op true) (Plain (Register op true)) (λ r s t. instr.Op op true r s t) (alt_named op h.1) (λ text. refl) d a b low_d low_a low_b)
instruction_said instr.Fence h = record { line = bare_line (codes "fence") refl refl; said = refl }
instruction_said instr.Ecall h = record { line = bare_line (codes "ecall") refl refl; said = refl }
instruction_said instr.Ebreak h = record { line = bare_line (codes "ebreak") refl refl; said = refl }

-- a word that is printed as a number
pub data_said : (w : ℕ) → w < 2 ^ 32 → Says (data_text w) (Data w)
unfolding data_text instruction number_of
data_said w low =
    let hex = hex_digits 8 w in
    let h = hex_spelled 8 w (omega arith) in
    let ops = 48 ∷ 120 ∷ hex in
    let operand : IsOperand 10 ops = record { some = omega arith; bytes = h.bytes; short = omega (arith, h.size) } in
    let number : Number = record { negative = false; magnitude = digits_value 16 hex } in
    let read : number_of ops ≡ Some number = magnitude_read 16 false hex (omega (arith, h.size)) h.digits (omega (arith, h.value)) in
    let in_range : within 0 4294967295 number ≡ Some w = cond-true (nat_le (digits_value 16 hex) 4294967295) _ _ (le-leb (digits_value 16 hex) 4294967295 (omega (arith, h.value))) ∙ ap Some h.value in
    says (codes ".word") ops Word (Data w) word_named (widened 10 ops (last_operand ops operand) (omega arith)) (ap (λ (r : Result ℕ AsmCause). r >>= λ n. Ok (Data n)) (data_read ops ops number w (one_alone ops (operand_token ops operand)) read in_range))
