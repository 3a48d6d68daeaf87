-- Bytes that operands and lines are made of.
use Rattle.std.proofs.Common.{◌≡◌, ℕ, ◌+◌, ◌<◌, ◌≤◌, ◌==◌, nat_le, Bool, true, not, ◌&&◌, List, [], ◌∷◌, ◌++◌, length, length-append, ◌∙◌, ap, refl, arith}
use Rattle.std.proofs.lemmas.Bool.{and_parts, and_from, leb-true, le-leb, ne_eqb, eqb-false, or_from, not-true}
use Rattle.std.specs.List.{list_all}
use Rattle.rv_asm.specs.Bytes.{is_either}
use Rattle.rv_asm.specs.Text.{is_blank, trim_start, trim_end, before_trimmed}
use Rattle.rv_asm.proofs.Tokens.{passes_none, trim_start_token, trim_end_token}
use Rattle.rv_asm.proofs.Operands.{IsToken}

-- a byte of a name or an operand: neither a blank, nor a comma, nor `#`
abbrev pub is_operand_byte : ℕ → Bool
is_operand_byte c = nat_le 40 c && not (c == 44)

-- a byte of a line: neither a control character nor `#`
abbrev pub is_line_byte : ℕ → Bool
is_line_byte c = nat_le 32 c && not (c == 35)

pub all_weaker : (p q : ℕ → Bool) (xs : List ℕ) → ((c : ℕ) → p c ≡ true → q c ≡ true) → list_all p xs ≡ true → list_all q xs ≡ true
all_weaker p q [] f h = refl
all_weaker p q (x ∷ xs) f h =
    let parts = and_parts (p x) (list_all p xs) h in
    and_from (q x) (list_all q xs) (f x parts.0) (all_weaker p q xs f parts.1)

pub all-append : (p : ℕ → Bool) (xs ys : List ℕ) → list_all p xs ≡ true → list_all p ys ≡ true → list_all p (xs ++ ys) ≡ true
all-append p [] ys one two = two
all-append p (x ∷ xs) ys one two =
    let parts = and_parts (p x) (list_all p xs) one in
    and_from (p x) (list_all p (xs ++ ys)) parts.0 (all-append p xs ys parts.1 two)

-- a byte that isn't one of two
other : (a b c : ℕ) → (c ≡ a → ⊥) → (c ≡ b → ⊥) → not (is_either a b c) ≡ true
other a b c not_a not_b = ap not (or_from (c == a) (c == b) (ne_eqb c a not_a) (ne_eqb c b not_b))

operand_facts : (c : ℕ) → is_operand_byte c ≡ true → (40 ≤ c) × (c ≡ 44 → ⊥)
operand_facts c h =
    let parts = and_parts (nat_le 40 c) (not (c == 44)) h in
    (leb-true 40 c parts.0, eqb-false c 44 (not-true (c == 44) parts.1))

line_facts : (c : ℕ) → is_line_byte c ≡ true → (32 ≤ c) × (c ≡ 35 → ⊥)
line_facts c h =
    let parts = and_parts (nat_le 32 c) (not (c == 35)) h in
    (leb-true 32 c parts.0, eqb-false c 35 (not-true (c == 35) parts.1))

pub operand_from : (c : ℕ) → 40 ≤ c → (c ≡ 44 → ⊥) → is_operand_byte c ≡ true
operand_from c low comma = and_from _ _ (le-leb 40 c low) (ap not (ne_eqb c 44 comma))

pub operand_in_line : (c : ℕ) → is_operand_byte c ≡ true → is_line_byte c ≡ true
operand_in_line c h =
    let facts = operand_facts c h in
    and_from _ _ (le-leb 32 c (omega arith)) (ap not (ne_eqb c 35 (λ e. omega arith)))

pub no_blank : (t : List ℕ) → list_all is_operand_byte t ≡ true → passes_none is_blank t ≡ true
no_blank t h =
    all_weaker is_operand_byte (λ c. not (is_blank c)) t (λ c b. let facts = operand_facts c b in other 32 9 c (λ e. omega arith) (λ e. omega arith)) h

pub no_comma : (t : List ℕ) → list_all is_operand_byte t ≡ true → passes_none (is_either 44 44) t ≡ true
no_comma t h =
    all_weaker is_operand_byte (λ c. not (is_either 44 44 c)) t (λ c b. let facts = operand_facts c b in other 44 44 c facts.1 facts.1) h

pub no_comment : (t : List ℕ) → list_all is_line_byte t ≡ true → passes_none (is_either 35 35) t ≡ true
no_comment t h =
    all_weaker is_line_byte (λ c. not (is_either 35 35 c)) t (λ c b. let facts = line_facts c b in other 35 35 c facts.1 facts.1) h

pub no_feed : (t : List ℕ) → list_all is_line_byte t ≡ true → passes_none (is_either 10 10) t ≡ true
no_feed t h =
    all_weaker is_line_byte (λ c. not (is_either 10 10 c)) t (λ c b. let facts = line_facts c b in other 10 10 c (λ e. omega arith) (λ e. omega arith)) h

pub no_return : (t : List ℕ) → list_all is_line_byte t ≡ true → passes_none (is_either 13 13) t ≡ true
no_return t h =
    all_weaker is_line_byte (λ c. not (is_either 13 13 c)) t (λ c b. let facts = line_facts c b in other 13 13 c (λ e. omega arith) (λ e. omega arith)) h

-- a text of such bytes, of at most n
pub record IsOperand (n : ℕ) (t : List ℕ) : Type 0 where
  pub some : 0 < length t
  pub bytes : list_all is_operand_byte t ≡ true
  pub short : length t ≤ n

pub operand_token : {n : ℕ} (t : List ℕ) → IsOperand n t → IsToken t
operand_token t h = record { no_blank = no_blank t h.bytes; no_comma = no_comma t h.bytes }

pub operand-append : {m n : ℕ} (s t : List ℕ) → IsOperand m s → IsOperand n t → IsOperand (m + n) (s ++ t)
operand-append s t h k = record {
  some = simp length-append (omega arith);
  bytes = all-append is_operand_byte s t h.bytes k.bytes;
  short = simp length-append (omega arith);
}

-- operands in a line, with no blank at either end, of at most n
pub record IsOperands (n : ℕ) (t : List ℕ) : Type 0 where
  pub some : 0 < length t
  pub bytes : list_all is_line_byte t ≡ true
  pub at_start : trim_start t ≡ t
  pub at_end : trim_end t ≡ t
  pub short : length t ≤ n

-- what begins with an operand
pub trim_start-append : (s t : List ℕ) → 0 < length s → list_all is_operand_byte s ≡ true → trim_start (s ++ t) ≡ s ++ t
trim_start-append [] t some h = absurd (omega arith)
trim_start-append (x ∷ xs) t some h =
    trim_start_token x (xs ++ t) (not-true (is_blank x) (and_parts _ _ (no_blank (x ∷ xs) h)).0)

before_some : (x : ℕ) (zs : List ℕ) → 0 < length zs → before_trimmed x zs ≡ x ∷ zs
before_some x [] some = absurd (omega arith)
before_some x (z ∷ zs) some = refl

-- what ends in a text without a blank at its end
pub trim_end-append : (s t : List ℕ) → 0 < length t → trim_end t ≡ t → trim_end (s ++ t) ≡ s ++ t
trim_end-append [] t some h = h
trim_end-append (x ∷ xs) t some h =
    let more : 0 < length (xs ++ t) = simp length-append (omega arith) in
    ap (before_trimmed x) (trim_end-append xs t some h) ∙ before_some x (xs ++ t) more

trim_start_all : {n : ℕ} (t : List ℕ) → IsOperand n t → trim_start t ≡ t
trim_start_all [] h = refl
trim_start_all (x ∷ xs) h =
    trim_start_token x xs (not-true (is_blank x) (and_parts _ _ (no_blank (x ∷ xs) h.bytes)).0)

pub last_operand : {n : ℕ} (t : List ℕ) → IsOperand n t → IsOperands n t
last_operand t h = record {
  some = h.some;
  bytes = all_weaker is_operand_byte is_line_byte t operand_in_line h.bytes;
  at_start = trim_start_all t h;
  at_end = trim_end_token t (no_blank t h.bytes);
  short = h.short;
}

pub first_operand : {m n : ℕ} (s t : List ℕ) → IsOperand m s → IsOperands n t → IsOperands (m + 2 + n) (s ++ 44 ∷ 32 ∷ t)
first_operand s t h k = record {
  some = simp length-append (omega arith);
  bytes = all-append is_line_byte s (44 ∷ 32 ∷ t) (all_weaker is_operand_byte is_line_byte s operand_in_line h.bytes) k.bytes;
  at_start = trim_start-append s (44 ∷ 32 ∷ t) h.some h.bytes;
  at_end = trim_end-append s (44 ∷ 32 ∷ t) (omega arith) (trim_end-append (44 ∷ 32 ∷ []) t k.some k.at_end);
  short = simp length-append (omega arith);
}
