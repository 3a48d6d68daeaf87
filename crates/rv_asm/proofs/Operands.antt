-- Operands that are printed are read again.
use Rattle.std.proofs.Common.{◌≡◌, ℕ, Bool, true, not, Some, List, [], ◌∷◌, ◌++◌, length, ◌∙◌, ap, refl, arith}
use Rattle.std.proofs.lemmas.Bool.{cond-false, ne_eqb, and_parts, not-true}
use Rattle.std.specs.Option.{option_map, option_and_then}
use Rattle.rv_asm.specs.Bytes.{is_either}
use Rattle.rv_asm.specs.Text.{is_blank, trim, trim_end, before_comma, after_comma, one_operand, two_operands, three_operands}
use Rattle.rv_asm.proofs.Tokens.{passes_none, front_token, rest_token, front_all, rest_all, trim_end_token, trim_start_token}

abbrev is_comma : ℕ → Bool
is_comma = is_either 44 44

-- a text without a blank or a comma
pub record IsToken (t : List ℕ) : Type 0 where
  pub no_blank : passes_none is_blank t ≡ true
  pub no_comma : passes_none is_comma t ≡ true

pub trim_token : (t : List ℕ) → passes_none is_blank t ≡ true → trim t ≡ t
trim_token [] none = refl
trim_token (x ∷ xs) none =
    ap trim_end (trim_start_token x xs (not-true (is_blank x) (and_parts (not (is_blank x)) (passes_none is_blank xs) none).0)) ∙ trim_end_token (x ∷ xs) none

-- behind a comma stands one blank
abbrev pub joined : List ℕ → List ℕ → List ℕ
joined first others = first ++ 44 ∷ 32 ∷ others

pub one_token : (t : List ℕ) → IsToken t → one_operand (32 ∷ t) ≡ Some t
unfolding one_operand
one_token t h =
    let none = rest_all is_comma t h.no_comma in
    let all = front_all is_comma t h.no_comma in rw (none, all) (ap Some (trim_token t h.no_blank))

-- an operand that stands at the front
pub one_alone : (t : List ℕ) → IsToken t → one_operand t ≡ Some t
unfolding one_operand
one_alone t h =
    let none = rest_all is_comma t h.no_comma in
    let all = front_all is_comma t h.no_comma in rw (none, all) (ap Some (trim_token t h.no_blank))

after_joined : (s others : List ℕ) → passes_none is_comma s ≡ true → after_comma (joined s others) ≡ Some (32 ∷ others)
after_joined s others none =
    let behind = rest_token is_comma s (32 ∷ others) 44 none refl in
    rw behind (cond-false _ _ _ (ne_eqb (length (44 ∷ 32 ∷ others)) 0 (λ e. omega arith)))

-- the first of two or three operands, with a blank before it or without
pub two_tokens : (s t : List ℕ) → IsToken s → IsToken t → two_operands (joined s t) ≡ Some (s, t)
unfolding two_operands
two_tokens s t h k =
    let first : trim (before_comma (joined s t)) ≡ s = ap trim (front_token is_comma s (32 ∷ t) 44 h.no_comma refl) ∙ trim_token s h.no_blank in
    ap (option_and_then (λ more. option_map (λ second. (trim (before_comma (joined s t)), second)) (one_operand more))) (after_joined s t h.no_comma) ∙ ap (option_map (λ second. (trim (before_comma (joined s t)), second))) (one_token t k) ∙ ap (λ x. Some (x, t)) first

pub two_more : (s t : List ℕ) → IsToken s → IsToken t → two_operands (32 ∷ joined s t) ≡ Some (s, t)
unfolding two_operands
two_more s t h k =
    let first : trim (before_comma (32 ∷ joined s t)) ≡ s = ap (λ x. trim (32 ∷ x)) (front_token is_comma s (32 ∷ t) 44 h.no_comma refl) ∙ trim_token s h.no_blank in
    ap (option_and_then (λ more. option_map (λ second. (trim (before_comma (32 ∷ joined s t)), second)) (one_operand more))) (after_joined s t h.no_comma) ∙ ap (option_map (λ second. (trim (before_comma (32 ∷ joined s t)), second))) (one_token t k) ∙ ap (λ x. Some (x, t)) first

pub three_tokens : (r s t : List ℕ) → IsToken r → IsToken s → IsToken t → three_operands (joined r (joined s t)) ≡ Some (r, s, t)
unfolding three_operands
three_tokens r s t h k l =
    let all = joined r (joined s t) in
    let first : trim (before_comma all) ≡ r = ap trim (front_token is_comma r (32 ∷ joined s t) 44 h.no_comma refl) ∙ trim_token r h.no_blank in
    ap (option_and_then (λ more. option_map (λ (others : List ℕ × List ℕ). (trim (before_comma all), others.0, others.1)) (two_operands more))) (after_joined r (joined s t) h.no_comma) ∙ ap (option_map (λ (others : List ℕ × List ℕ). (trim (before_comma all), others.0, others.1))) (two_more s t k l) ∙ ap (λ x. Some (x, s, t)) first
