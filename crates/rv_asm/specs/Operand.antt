-- What an operand is.
use Rattle.std.specs.Prelude.{◌≤◌, ◌<◌, ◌⊎◌, ℕ, ◌+◌, ◌-◌, ◌*◌, ◌%◌, ◌^◌, ◌==◌, nat_lt, nat_le, min}
use Rattle.std.specs.Prelude.{Bool, true, false, not, ◌||◌, ◌&&◌, if◌then◌else◌}
use Rattle.std.specs.Prelude.{Option, Some, None, List, [], ◌∷◌, length, drop, slice_index}
use Rattle.std.specs.List.{list_all}
use Rattle.std.specs.Option.{option_map}
use Rattle.std.specs.Char.{digit_value, is_digit}
use Rattle.std.specs.Str.Parse.{digits_value}
use Rattle.rv_asm.specs.declared.number.Number.{Number}
use Rattle.rv_asm.specs.Bytes.{left_parenthesis, right_parenthesis, minus, zero_digit, nine_digit, is_byte}
use Rattle.rv_asm.specs.Bytes.{upper_a, upper_z, underscore, lower_a, lower_x, lower_z}
use Rattle.rv_asm.specs.Text.{front, rest, is_nothing, without_last}

-- x0 to x31, without a leading zero
unfoldable pub register_of : List ℕ → Option ℕ
register_of [] = None
register_of (x ∷ []) = None
register_of (x ∷ d ∷ []) = if (x == lower_x) && is_digit d 10 then Some (digit_value d) else None
register_of (x ∷ d ∷ e ∷ []) =
    let number = 10 * digit_value d + digit_value e in
    if (x == lower_x) && is_digit d 10 && is_digit e 10 && nat_lt zero_digit d && nat_lt number 32 then Some number
    else None
register_of (x ∷ d ∷ e ∷ f ∷ more) = None

-- a magnitude above each limit stands as this one
abbrev pub too_large : ℕ
too_large = 2 ^ 32

-- one digit or more of a base
abbrev pub magnitude_of : ℕ → Bool → List ℕ → Option Number
magnitude_of base negative digits =
    if is_nothing digits || not (list_all (λ c. is_digit c base) digits) then None
    else Some (record { negative = negative; magnitude = min (digits_value base digits) too_large })

-- a number as it is spelled: decimal with or without `-`, or 0x and hexadecimal digits
unfoldable pub number_of : List ℕ → Option Number
number_of [] = None
number_of (c ∷ []) = magnitude_of 10 false (c ∷ [])
number_of (c ∷ d ∷ more) =
    if c == minus then magnitude_of 10 true (d ∷ more)
    else if (c == zero_digit) && (d == lower_x) then magnitude_of 16 false more
    else magnitude_of 10 false (c ∷ d ∷ more)

-- the number as a word, where it is from -below to above
abbrev pub within : ℕ → ℕ → Number → Option ℕ
within below above n =
    if n.negative then (if nat_le n.magnitude below then Some ((2 ^ 32 - n.magnitude) % 2 ^ 32) else None)
    else (if nat_le n.magnitude above then Some n.magnitude else None)

-- a word that is a number from -below to above
abbrev pub IsWithin : ℕ → ℕ → ℕ → Type 0
IsWithin below above w = (w ≤ above) ⊎ (2 ^ 32 - below ≤ w) × (w < 2 ^ 32)

-- the same for an even number
abbrev pub even_within : ℕ → ℕ → Number → Option ℕ
even_within below above n = if n.magnitude % 2 == 0 then within below above n else None

-- a letter
abbrev pub is_letter : ℕ → Bool
is_letter c = nat_le upper_a c && nat_le c upper_z || nat_le lower_a c && nat_le c lower_z

-- a letter, a digit or `_`
abbrev pub is_name_byte : ℕ → Bool
is_name_byte c = is_letter c || nat_le zero_digit c && nat_le c nine_digit || (c == underscore)

-- the name of a label: 1 to 32 letters, digits and `_`, a letter first
unfoldable pub is_name : List ℕ → Bool
is_name text =
    not (is_nothing text) && nat_le (length text) 32 && is_letter (slice_index text 0) && list_all is_name_byte text

-- an operand `NUMBER(REG)`: what stands before the first `(`, and what stands between that and a `)` at the end
unfoldable pub memory_of : List ℕ → Option (List ℕ × List ℕ)
memory_of text =
    let before = front (is_byte left_parenthesis) text in
    let enclosed = rest (is_byte left_parenthesis) text in
    let inner = without_last right_parenthesis (drop 1 enclosed) in
    if is_nothing enclosed then None else option_map (λ text. (before, text)) inner
