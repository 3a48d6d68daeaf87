-- The program that a text is.
use Rattle.std.specs.Prelude.{◌≡◌, ◌<◌, ℕ, ◌+◌, ◌-◌, ◌*◌, ◌%◌, ◌^◌, ◌==◌, nat_lt, nat_le, Bool, false, if◌then◌else◌}
use Rattle.std.specs.Prelude.{Option, Some, None, Result, Ok, Err, List, [], ◌∷◌, ◌++◌, length, map}
use Rattle.std.specs.Option.{is_some, option_map, option_or, option_to_list, unwrap_or}
use Rattle.std.specs.Str.{bytes_eq}
use Rattle.rv_table.specs.declared.Instr.{Instr}
use Rattle.rv_table.specs.declared.Instr.TheVariants.{Fence}
use Rattle.rv_table.specs.Table.{IsRow}
use Rattle.sls_base.specs.declared.limits.TheConstants.{INSTRUCTION_BYTES}
use Rattle.sls_base.specs.declared.texts.TheConstants.{TEXT_BYTES, PROGRAM_WORDS}
use Rattle.rv_asm.specs.declared.error.AsmCause.{AsmCause}
use Rattle.rv_asm.specs.declared.error.AsmCause.TheVariants as cause
use Rattle.rv_asm.specs.Bytes.{line_feed, carriage_return}
use Rattle.rv_asm.specs.Text.{without_last}
use Rattle.rv_asm.specs.Statement.{Statement, Blank, Label, Data, Does, Aims, reach, with_offset, statement_of}

-- a byte at the front of the first of some texts
abbrev pub onto_first : ℕ → List (List ℕ) → List (List ℕ)
onto_first c [] = (c ∷ []) ∷ []
onto_first c (l ∷ ls) = (c ∷ l) ∷ ls

-- what stands between the LFs of a text
abbrev pub between_feeds : List ℕ → List (List ℕ)
between_feeds [] = [] ∷ []
between_feeds (c ∷ cs) = if c == line_feed then [] ∷ between_feeds cs else onto_first c (between_feeds cs)

-- a line without the CR at its end
abbrev pub without_return : List ℕ → List ℕ
without_return line = unwrap_or (without_last carriage_return line) line

-- each line that an LF ends, without a CR before that, and what stands behind the last LF
abbrev pub without_returns : List (List ℕ) → List (List ℕ)
without_returns [] = []
without_returns (l ∷ []) = l ∷ []
without_returns (l ∷ m ∷ ls) = without_return l ∷ without_returns (m ∷ ls)

-- the lines of a text
unfoldable pub lines_of : List ℕ → List (List ℕ)
lines_of text = without_returns (between_feeds text)

-- a line as it is read: what it says, or its fault
abbrev pub Line : Type 0
Line = Result Statement AsmCause

-- what each line says, or its fault
abbrev pub program_of : List ℕ → List Line
program_of text = map statement_of (lines_of text)

-- whether a line is the definition of a label
abbrev pub defines : List ℕ → Line → Bool
defines name (Ok (Label other)) = bytes_eq other name
defines name _ = false

-- the words that a line gives: none or one
abbrev pub words_of : Line → ℕ
words_of (Ok (Data n)) = 1
words_of (Ok (Does instr)) = 1
words_of (Ok (Aims instr name)) = 1
words_of _ = 0

-- how many words some lines give
abbrev pub words_in : List Line → ℕ
words_in [] = 0
words_in (line ∷ lines) = words_of line + words_in lines

-- the words before the first definition of a label
abbrev pub place_of : List ℕ → List Line → Option ℕ
place_of name [] = None
place_of name (line ∷ lines) =
    if defines name line then Some 0 else option_map (λ place. words_of line + place) (place_of name lines)

-- a word that would be one too many
abbrev pub long : ℕ → Option AsmCause
long at = if nat_lt at PROGRAM_WORDS then None else Some cause.Long

-- where a word begins, in bytes
abbrev pub start_of : ℕ → ℕ
start_of word = INSTRUCTION_BYTES * word

-- whether a branch or jal in the word `at` reaches the word `place`
abbrev pub reaches : Instr → ℕ → ℕ → Bool
reaches instr at place =
    if nat_lt place at then nat_le (start_of at - start_of place) (reach instr)
    else nat_le (start_of place - start_of at + 2) (reach instr)

-- the fault of a branch or jal to a label that stands at a place, or nowhere
abbrev pub aim_fault : Instr → ℕ → Option ℕ → Option AsmCause
aim_fault instr at None = Some cause.Label
aim_fault instr at (Some place) = if reaches instr at place then long at else Some cause.Number

-- the fault of a line of a program, with the lines before it
abbrev pub fault_of : List Line → List Line → Line → Option AsmCause
fault_of program before (Err c) = Some c
fault_of program before (Ok Blank) = None
fault_of program before (Ok (Label name)) = if is_some (place_of name before) then Some cause.Label else None
fault_of program before (Ok (Data n)) = long (words_in before)
fault_of program before (Ok (Does instr)) = long (words_in before)
fault_of program before (Ok (Aims instr name)) = aim_fault instr (words_in before) (place_of name program)

-- what is the word of an instruction; FENCE has its other fields 0
abbrev pub IsWordOf : Instr → ℕ → Type 0
IsWordOf instr w = IsRow w instr × (w < 2 ^ 32) × (instr ≡ Fence → w ≡ 0x0000000F)

-- from the word `at` to the word `place`, as a word
abbrev pub offset : ℕ → ℕ → ℕ
offset at place = (start_of place + (2 ^ 32 - start_of at)) % 2 ^ 32

-- what a line without a fault gives, where it begins at the word `at`
abbrev pub GivesWord : List Line → ℕ → Line → Option ℕ → Type 0
GivesWord program at (Err c) found = ⊥
GivesWord program at (Ok Blank) found = found ≡ None
GivesWord program at (Ok (Label name)) found = found ≡ None
GivesWord program at (Ok (Data n)) found = found ≡ Some n
GivesWord program at (Ok (Does instr)) found = (w : ℕ) × (found ≡ Some w) × IsWordOf instr w
GivesWord program at (Ok (Aims instr name)) found =
    (w : ℕ) × (place : ℕ) × (found ≡ Some w) × (place_of name program ≡ Some place)
    × IsWordOf (with_offset instr (offset at place)) w

-- the words of the lines from the word `at` on
abbrev pub AreWords : List Line → ℕ → List Line → List ℕ → Type 0
AreWords program at [] words = words ≡ []
AreWords program at (line ∷ lines) words =
    (found : Option ℕ) × (others : List ℕ) × GivesWord program at line found
    × (words ≡ option_to_list found ++ others) × AreWords program (at + words_of line) lines others

-- the first line at fault of those behind some others, with its number and cause
abbrev pub first_fault : List Line → List Line → List Line → ℕ → Option (ℕ × AsmCause)
first_fault program before [] number = None
first_fault program before (line ∷ lines) number =
    option_or (option_map (λ c. (number, c)) (fault_of program before line))
    (first_fault program (before ++ line ∷ []) lines (number + 1))

-- the line at fault of a text, counted from 1, and its cause; a text that is too long has line 0
unfoldable pub fault_in : List ℕ → Option (ℕ × AsmCause)
fault_in text =
    if nat_lt TEXT_BYTES (length text) then Some (0, cause.Long)
    else first_fault (program_of text) [] (program_of text) 1

-- the words of a text that has no fault
unfoldable pub IsAssembled : List ℕ → List ℕ → Type 0
IsAssembled text words = (fault_in text ≡ None) × AreWords (program_of text) 0 (program_of text) words
