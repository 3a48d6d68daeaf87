-- The parts of a text: fields and numbers. Its lines are those of `Rattle.std.specs.Str.Lines`: LF or CR LF ends each,
-- and the last may lack it.
use Rattle.std.specs.Prelude.{ℕ, ◌^◌, nat_lt, nat_le, ◌==◌, Bool, ◌&&◌, if◌then◌else◌, List, length, filter}
use Rattle.std.specs.Prelude.{Option, Some, None, Result, Ok, Err}
use Rattle.std.specs.List.{slice_split, list_all}
use Rattle.std.specs.Char.{is_digit}
use Rattle.std.specs.Str.Parse.{digits_value}
use Rattle.job_script.specs.declared.fault.JobCause.{JobCause}
use Rattle.job_script.specs.declared.fault.JobCause.TheVariants.{Number, Hex}

-- what stands round each byte of this value
abbrev pub parts_round : ℕ → List ℕ → List (List ℕ)
parts_round mark text = slice_split (λ b. b == mark) text

-- the fields of a line: what stands round its spaces (32), but for nothing
abbrev pub fields_of : List ℕ → List (List ℕ)
fields_of line = filter (λ part. nat_lt 0 (length part)) (parts_round 32 line)

-- each byte is a digit
abbrev pub all_digits : ℕ → List ℕ → Bool
all_digits radix field = list_all (λ c. is_digit c radix) field

-- the value of digits, where it is below 2 ^ 64
unfoldable pub value_of : ℕ → List ℕ → Option ℕ
value_of radix field =
    let value = digits_value radix field in
    if all_digits radix field && nat_lt value (2 ^ 64) then Some value else None

-- the value, or the fault
abbrev pub or_fault : JobCause → Option ℕ → Result ℕ JobCause
or_fault cause (Some n) = Ok n
or_fault cause None = Err cause

-- a number: 1 to 20 decimal digits, and a value below 2 ^ 64
unfoldable pub number_of : List ℕ → Result ℕ JobCause
number_of field =
    if nat_le 1 (length field) && nat_le (length field) 20 then or_fault Number (value_of 10 field) else Err Number

-- a word of the program: eight hexadecimal digits of either case
unfoldable pub word_of : List ℕ → Result ℕ JobCause
word_of field = if length field == 8 then or_fault Hex (value_of 16 field) else Err Hex
