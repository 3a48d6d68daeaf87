-- Pieces of a text, which is a list of bytes.
use Rattle.std.specs.Prelude.{ℕ, ◌-◌, ◌==◌, nat_lt, Bool, ◌&&◌, if◌then◌else◌, Option, Some, None}
use Rattle.std.specs.Prelude.{List, [], ◌∷◌, length, take, drop, slice_index}
use Rattle.std.specs.Option.{is_some, option_map, option_and_then}
use Rattle.rv_asm.specs.Bytes.{tab, space, comma, is_either, is_byte}

-- what stands before the first byte that passes the test
abbrev pub front : (ℕ → Bool) → List ℕ → List ℕ
front stops [] = []
front stops (c ∷ cs) = if stops c then [] else c ∷ front stops cs

-- what stands from that byte on
abbrev pub rest : (ℕ → Bool) → List ℕ → List ℕ
rest stops [] = []
rest stops (c ∷ cs) = if stops c then c ∷ cs else rest stops cs

-- a space or a tab
abbrev pub is_blank : ℕ → Bool
is_blank = is_either space tab

-- the text without the blanks at its front
abbrev pub trim_start : List ℕ → List ℕ
trim_start [] = []
trim_start (c ∷ cs) = if is_blank c then trim_start cs else c ∷ cs

-- a byte before a text whose end is trimmed
abbrev pub before_trimmed : ℕ → List ℕ → List ℕ
before_trimmed c [] = if is_blank c then [] else c ∷ []
before_trimmed c (d ∷ ds) = c ∷ d ∷ ds

-- the text without the blanks at its end
abbrev pub trim_end : List ℕ → List ℕ
trim_end [] = []
trim_end (c ∷ cs) = before_trimmed c (trim_end cs)

-- the text without the blanks at either end
abbrev pub trim : List ℕ → List ℕ
trim text = trim_end (trim_start text)

-- whether there is nothing
abbrev pub is_nothing : List ℕ → Bool
is_nothing text = length text == 0

-- the text without its last byte, where that is c
abbrev pub without_last : ℕ → List ℕ → Option (List ℕ)
without_last c text =
    let others = length text - 1 in
    if nat_lt 0 (length text) && (slice_index text others == c) then Some (take others text) else None

-- what stands before the first comma, and behind it where there is one
abbrev pub before_comma : List ℕ → List ℕ
before_comma = front (is_byte comma)

abbrev pub after_comma : List ℕ → Option (List ℕ)
after_comma text = let found = rest (is_byte comma) text in if is_nothing found then None else Some (drop 1 found)

-- an operand that stands alone
unfoldable pub one_operand : List ℕ → Option (List ℕ)
one_operand text = if is_some (after_comma text) then None else Some (trim (before_comma text))

-- two operands, apart by a comma
unfoldable pub two_operands : List ℕ → Option (List ℕ × List ℕ)
two_operands text =
    let first = trim (before_comma text) in
    option_and_then (λ more. option_map (λ second. (first, second)) (one_operand more)) (after_comma text)

-- three operands, apart by commas
unfoldable pub three_operands : List ℕ → Option (List ℕ × List ℕ × List ℕ)
three_operands text =
    let first = trim (before_comma text) in
    option_and_then (λ more. option_map (λ others. (first, others.0, others.1)) (two_operands more)) (after_comma text)
