-- Operands as they are printed: which bytes they have, and what is read of them.
use Rattle.std.proofs.Common.{◌≡◌, ℕ, zero, suc, ◌+◌, ◌-◌, ◌*◌, ◌/◌, ◌%◌, ◌^◌, ◌<◌, ◌≤◌, ◌==◌, nat_lt, nat_le, ◌⊎◌, Bool, true, false, not, ◌&&◌, Some, List, [], ◌∷◌, ◌++◌, length, length-append, take, slice_index, sym, ◌∙◌, ap, subst, refl, ⊎_elim, arith}
use Rattle.std.proofs.lemmas.Bool.{cond-true, cond-false, cases_lt, lt-ltb, le-ltb, le-leb, lt-leb, eq-eqb, ne_eqb, and_from, and_left, and_right, or_from}
use Rattle.std.proofs.lemmas.Bool.Decides.{nat_tests}
use Rattle.std.proofs.lemmas.Fmt.{decimal_is_IsNumeral, length-decimal-le}
use Rattle.std.proofs.lemmas.Int.{to_z_pos}
use Rattle.std.proofs.lemmas.List.{take_at, get_or_at}
use Rattle.std.specs.Char.{digit_value}
use Rattle.std.specs.Fmt.{decimal, signed_decimal, digit_glyph}
use Rattle.std.specs.Int.{w32}
use Rattle.std.specs.List.{list_all}
use Rattle.std.specs.Str.Parse.{digits_value, digits_value_after, AllDigits}
use Rattle.rv_asm.specs.declared.number.Number.{Number}
use Rattle.rv_asm.specs.Bytes.{is_either}
use Rattle.rv_asm.specs.Text.{front, rest, is_nothing, without_last}
use Rattle.rv_asm.specs.Operand.{number_of, within, is_letter, is_name_byte, is_name, memory_of}
use Rattle.rv_asm.specs.Printed.{register_text, signed_text, upper_text, memory_text, hex_digits}
use Rattle.rv_asm.proofs.Tokens.{passes_none, front_token, rest_token}
use Rattle.rv_asm.proofs.Bytes.{is_operand_byte, operand_from, all-append, IsOperand, operand-append}
use Rattle.rv_asm.proofs.Numbers.{number_read, negative_read, digit_range}

-- decimal digits
digit_byte : (c : ℕ) → digit_value c < 10 → is_operand_byte c ≡ true
digit_byte c low = let range = digit_range c low in operand_from c (omega arith) (λ e. omega arith)

digits_bytes : (ds : List ℕ) → AllDigits 10 ds → list_all is_operand_byte ds ≡ true
digits_bytes [] h = refl
digits_bytes (c ∷ cs) h = and_from _ _ (digit_byte c h.0) (digits_bytes cs h.1)

pub decimal_operand : (k n : ℕ) → 0 < k → n < 10 ^ k → n < 2 ^ 64 → IsOperand k (decimal n)
decimal_operand k n some fits low =
    let spelled = decimal_is_IsNumeral n low in
    record { some = spelled.0.0; bytes = digits_bytes (decimal n) spelled.0.1; short = length-decimal-le k n some fits low }

one_byte : (c : ℕ) → is_operand_byte c ≡ true → IsOperand 1 (c ∷ [])
one_byte c h = record { some = omega arith; bytes = and_from _ _ h refl; short = omega arith }

pub register_operand : (r : ℕ) → r < 32 → IsOperand 3 (register_text r)
register_operand r low =
    operand-append (120 ∷ []) (decimal r) (one_byte 120 refl) (decimal_operand 2 r (omega arith) (omega arith) (omega arith))

pub upper_operand : (w : ℕ) → w < 2 ^ 32 → IsOperand 7 (upper_text w)
upper_operand w low = decimal_operand 7 (w / 2 ^ 12) (omega arith) (omega arith) (omega arith)

-- a word without and with its highest bit
low_text : (w : ℕ) → w < 2 ^ 31 → signed_text w ≡ decimal w
low_text w low = ap signed_decimal (to_z_pos w32 w low)

high_text : (w : ℕ) → 2 ^ 31 ≤ w → w < 2 ^ 32 → signed_text w ≡ 45 ∷ decimal (2 ^ 32 - w)
high_text w high low =
    let test : nat_lt w (2 ^ 31) ≡ false = le-ltb w (2 ^ 31) high in
    let next : suc (2 ^ 32 - suc w) ≡ 2 ^ 32 - w = omega arith in rw test (ap (λ n. 45 ∷ decimal n) next)

pub signed_operand : (w : ℕ) → w < 2 ^ 32 → IsOperand 11 (signed_text w)
signed_operand w low =
    let P : List ℕ → Type 0 = λ t. IsOperand 11 t in
    ⊎_elim
    (λ small.
    let d = decimal_operand 10 w (omega arith) (omega arith) (omega arith) in
    subst P (sym (low_text w small)) (record { some = d.some; bytes = d.bytes; short = omega (arith, d.short) }))
    (λ large. subst P (sym (high_text w large low)) (operand-append (45 ∷ []) (decimal (2 ^ 32 - w)) (one_byte 45 refl) (decimal_operand 10 (2 ^ 32 - w) (omega arith) (omega arith) (omega arith))))
    (cases_lt w (2 ^ 31))

-- what is read of such a text
pub record IsRead (w : ℕ) : Type 0 where
  pub number : Number
  pub spelled : number_of (signed_text w) ≡ Some number
  pub even : w % 2 ≡ 0 → number.magnitude % 2 ≡ 0
  pub in_range : (below above : ℕ) → below ≤ 2 ^ 31 → above < 2 ^ 31 → (w ≤ above) ⊎ (2 ^ 32 - below ≤ w) → within below above number ≡ Some w

low_read : (w : ℕ) → w < 2 ^ 31 → IsRead w
low_read w low = record {
  number = record { negative = false; magnitude = w };
  spelled = ap number_of (low_text w low) ∙ number_read w (omega arith);
  even = λ e. e;
  in_range = λ below above b a h. let fits : w ≤ above = ⊎_elim (λ x. x) (λ x. absurd (omega arith)) h in cond-true (nat_le w above) _ _ (le-leb w above fits);
}

high_read : (w : ℕ) → 2 ^ 31 ≤ w → w < 2 ^ 32 → IsRead w
high_read w high low =
    let m : ℕ = 2 ^ 32 - w in
    record {
      number = record { negative = true; magnitude = 2 ^ 32 - w };
      spelled = ap number_of (high_text w high low) ∙ negative_read (2 ^ 32 - w) (omega arith);
      even = λ e. omega arith;
      in_range = λ below above b a h.
          let fits : 2 ^ 32 - w ≤ below = ⊎_elim (λ x. absurd (omega arith)) (λ x. omega arith) h in
          let back : (2 ^ 32 - (2 ^ 32 - w)) % 2 ^ 32 ≡ w = omega arith in
          cond-true (nat_le (2 ^ 32 - w) below) _ _ (le-leb (2 ^ 32 - w) below fits) ∙ ap Some back;
    }

pub signed_read : (w : ℕ) → w < 2 ^ 32 → IsRead w
signed_read w low = ⊎_elim (λ small. low_read w small) (λ large. high_read w large low) (cases_lt w (2 ^ 31))

-- a number is no name of a label
starts_as_number : (c : ℕ) (cs : List ℕ) → is_letter c ≡ false → is_name (c ∷ cs) ≡ false
unfolding is_name
starts_as_number c cs h =
    let shape = nat_le (length (c ∷ cs)) 32 in
    and_left _ (list_all is_name_byte (c ∷ cs)) (and_right (not (is_nothing (c ∷ cs)) && shape) (is_letter c) h)

digit_no_letter : (c : ℕ) → digit_value c < 10 → is_letter c ≡ false
digit_no_letter c low =
    let range = digit_range c low in
    or_from (nat_le 65 c && nat_le c 90) (nat_le 97 c && nat_le c 122) (and_left (nat_le 65 c) (nat_le c 90) (lt-leb 65 c (omega arith))) (and_left (nat_le 97 c) (nat_le c 122) (lt-leb 97 c (omega arith)))

digits_no_name : (ds : List ℕ) → 0 < length ds → AllDigits 10 ds → is_name ds ≡ false
digits_no_name [] some h = absurd (omega arith)
digits_no_name (c ∷ cs) some h = starts_as_number c cs (digit_no_letter c h.0)

pub signed_no_name : (w : ℕ) → w < 2 ^ 32 → is_name (signed_text w) ≡ false
signed_no_name w low =
    ⊎_elim
    (λ small. let spelled = decimal_is_IsNumeral w (omega arith) in ap is_name (low_text w small) ∙ digits_no_name (decimal w) spelled.0.0 spelled.0.1)
    (λ large. ap is_name (high_text w large low) ∙ starts_as_number 45 (decimal (2 ^ 32 - w)) refl)
    (cases_lt w (2 ^ 31))

-- no parenthesis in a number
no_open : (ds : List ℕ) → AllDigits 10 ds → passes_none (is_either 40 40) ds ≡ true
no_open [] h = refl
no_open (c ∷ cs) h =
    let range = digit_range c h.0 in
    let not_open : (c == 40) ≡ false = ne_eqb c 40 (λ e. omega arith) in
    and_from _ _ (ap not (or_from (c == 40) (c == 40) not_open not_open)) (no_open cs h.1)

signed_no_open : (w : ℕ) → w < 2 ^ 32 → passes_none (is_either 40 40) (signed_text w) ≡ true
signed_no_open w low =
    ⊎_elim
    (λ small. let spelled = decimal_is_IsNumeral w (omega arith) in ap (passes_none (is_either 40 40)) (low_text w small) ∙ no_open (decimal w) spelled.0.1)
    (λ large. let spelled = decimal_is_IsNumeral (2 ^ 32 - w) (omega arith) in ap (passes_none (is_either 40 40)) (high_text w large low) ∙ no_open (decimal (2 ^ 32 - w)) spelled.0.1)
    (cases_lt w (2 ^ 31))

last_taken : (t : List ℕ) (c : ℕ) → without_last c (t ++ c ∷ []) ≡ Some t
last_taken t c =
    let size : length (t ++ c ∷ []) ≡ length t + 1 = simp length-append (omega arith) in
    let kept : length (t ++ c ∷ []) - 1 ≡ length t = omega arith in
    let last : slice_index (t ++ c ∷ []) (length (t ++ c ∷ []) - 1) ≡ c = ap (slice_index (t ++ c ∷ [])) kept ∙ get_or_at t c [] 0 (length t) refl in
    cond-true _ _ _ (and_from _ _ (lt-ltb 0 (length (t ++ c ∷ [])) (omega arith)) (eq-eqb _ _ last)) ∙ ap (λ k. Some (take k (t ++ c ∷ []))) kept ∙ ap Some (take_at t (c ∷ []) (length t) refl)

pub memory_read : (imm base : ℕ) → imm < 2 ^ 32 → memory_of (memory_text imm base) ≡ Some (signed_text imm, register_text base)
unfolding memory_of
memory_read imm base low =
    let p : ℕ → Bool = is_either 40 40 in
    let inner = register_text base ++ 41 ∷ [] in
    let before : front p (memory_text imm base) ≡ signed_text imm = front_token p (signed_text imm) inner 40 (signed_no_open imm low) refl in
    let behind : rest p (memory_text imm base) ≡ 40 ∷ inner = rest_token p (signed_text imm) inner 40 (signed_no_open imm low) refl in
    rw (behind, before, last_taken (register_text base) 41) (cond-false _ _ _ (ne_eqb (length (40 ∷ inner)) 0 (λ e. omega arith)))

pub memory_operand : (imm base : ℕ) → imm < 2 ^ 32 → base < 32 → IsOperand 16 (memory_text imm base)
memory_operand imm base low r =
    operand-append (signed_text imm) (40 ∷ (register_text base ++ 41 ∷ [])) (signed_operand imm low) (operand-append (40 ∷ []) (register_text base ++ 41 ∷ []) (one_byte 40 refl) (operand-append (register_text base) (41 ∷ []) (register_operand base r) (one_byte 41 refl)))

-- hexadecimal digits
glyph_value : (d : ℕ) → d < 16 → digit_value (digit_glyph false d) ≡ d
glyph_value d low = grind (arith, nat_tests)

glyph_byte : (d : ℕ) → d < 16 → is_operand_byte (digit_glyph false d) ≡ true
glyph_byte d low =
    ⊎_elim
    (λ small. ap is_operand_byte (cond-true (nat_lt d 10) _ _ (lt-ltb d 10 small)) ∙ operand_from (48 + d) (omega arith) (λ e. omega arith))
    (λ large. ap is_operand_byte (cond-false (nat_lt d 10) _ _ (le-ltb d 10 large)) ∙ operand_from (87 + d) (omega arith) (λ e. omega arith))
    (cases_lt d 10)

value_append : (base n : ℕ) (ds : List ℕ) (c : ℕ) → digits_value_after base n (ds ++ c ∷ []) ≡ digits_value_after base n ds * base + digit_value c
value_append base n [] c = refl
value_append base n (d ∷ ds) c = value_append base (n * base + digit_value d) ds c

digits_append : (base : ℕ) (ds : List ℕ) (c : ℕ) → AllDigits base ds → digit_value c < base → AllDigits base (ds ++ c ∷ [])
digits_append base [] c h d = (d, tt)
digits_append base (x ∷ xs) c h d = (h.0, digits_append base xs c h.1 d)

pub record IsHex (k n : ℕ) : Type 0 where
  pub digits : AllDigits 16 (hex_digits k n)
  pub bytes : list_all is_operand_byte (hex_digits k n) ≡ true
  pub size : length (hex_digits k n) ≡ k
  pub value : digits_value 16 (hex_digits k n) ≡ n

pub hex_spelled : (k n : ℕ) → n < 16 ^ k → IsHex k n
hex_spelled zero n low = record { digits = tt; bytes = refl; size = refl; value = omega arith }
hex_spelled (suc k) n low =
    let power : 16 ^ suc k ≡ 16 * 16 ^ k = omega arith in
    let h = hex_spelled k (n / 16) (omega arith) in
    let glyph = digit_glyph false (n % 16) in
    let value : digit_value glyph ≡ n % 16 = glyph_value (n % 16) (omega arith) in
    record {
      digits = digits_append 16 (hex_digits k (n / 16)) glyph h.digits (omega arith);
      bytes = all-append is_operand_byte (hex_digits k (n / 16)) (glyph ∷ []) h.bytes (and_from _ _ (glyph_byte (n % 16) (omega arith)) refl);
      size = simp length-append (omega (arith, h.size));
      value = value_append 16 0 (hex_digits k (n / 16)) glyph ∙ omega (arith, h.value, value);
    }
