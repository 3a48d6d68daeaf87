-- What a line says.
use Rattle.std.specs.Prelude.{ℕ, nat_le, nat_lt, ◌&&◌, ◌==◌, if◌then◌else◌, List, [], ◌∷◌, slice_index, bytes_eq, codes}
use Rattle.std.specs.Prelude.{Option, Some, None, Result, Ok, Err}
use Rattle.job_script.specs.declared.fault.JobCause.{JobCause}
use Rattle.job_script.specs.declared.fault.JobCause.TheVariants.{Word, Number}
use Rattle.job_script.specs.declared.line.Line.{Line}
use Rattle.job_script.specs.declared.line.Line.TheVariants.{Cores, Code, Run, Checkpoint, Cut, Take, End}
use Rattle.job_script.specs.UntilFault.{◌>>=◌}
use Rattle.job_script.specs.Text.{number_of, word_of}

-- a machine has 1 to 8 cores; there is no line yet for more than one
unfoldable pub cores_of : List ℕ → Result Line JobCause
cores_of field = do
  n ← number_of field
  if n == 1 then Ok (Cores 1) else if nat_le 2 n && nat_le n 8 then Err Word else Err Number

-- there are four output channels
unfoldable pub take_of : List ℕ → List ℕ → Result Line JobCause
take_of channel count = do
  c ← number_of channel
  n ← number_of count
  if nat_lt c 4 then Ok (Take c n) else Err Number

-- a line whose value is read
abbrev pub line_with : (ℕ → Line) → Result ℕ JobCause → Result Line JobCause
line_with line read = do
  n ← read
  Ok (line n)

-- what a word and its operands say
unfoldable pub line_of : List ℕ → List (List ℕ) → Result Line JobCause
line_of word [] =
    if bytes_eq word (codes "checkpoint") then Ok Checkpoint
    else if bytes_eq word (codes "end") then Ok End
    else Err Word
line_of word (operand ∷ []) =
    if bytes_eq word (codes "cores") then cores_of operand
    else if bytes_eq word (codes "code") then line_with Code (word_of operand)
    else if bytes_eq word (codes "run") then line_with Run (number_of operand)
    else if bytes_eq word (codes "cut") then line_with Cut (number_of operand)
    else Err Word
line_of word (first ∷ second ∷ []) =
    if bytes_eq word (codes "take") then take_of first second else Err Word
line_of word _ = Err Word

-- what a line says: nothing where it has no field, or `#` (35) begins its first
unfoldable pub said_by : List (List ℕ) → Result (Option Line) JobCause
said_by [] = Ok None
said_by (word ∷ operands) = if slice_index word 0 == 35 then Ok None else do
  line ← line_of word operands
  Ok (Some line)
