-- The report of a job: what the plain machine prints, line by line, and the world at each line.
use Rattle.std.specs.Prelude.{ℕ, zero, suc, ◌+◌, List, [], ◌∷◌, ◌++◌, slice_index, nat_lt, if◌then◌else◌, Option, Some, None, codes, decimal}
use Rattle.std.specs.Int.{w32, to_le_bytes}
use Rattle.hex.specs.Hex.{encode_lower}
use Rattle.sls_base.specs.declared.limits.TheConstants.{LAST_VERSION, PAGE_BYTES}
use Rattle.sls_base.specs.declared.entry.Entry.{Entry}
use Rattle.sls_kernel.specs.Plain.{World, first, tick, commit, cut, offered, accept}
use Rattle.job_script.specs.declared.line.Line.{Line}
use Rattle.job_script.specs.declared.line.Line.TheVariants as job
use Rattle.job_script.specs.declared.fault.JobCause.{JobCause}
use Rattle.job_script.specs.declared.fault.JobCause.TheVariants as cause
use Rattle.job_run.specs.declared.report.Printed.{Printed}
use Rattle.job_run.specs.declared.report.Printed.TheVariants.{Commit, Spent, Up, Out, Dry, Done, Usage, BadJob, ReadFault, Memory}

-- Texts. Each line ends in LF (10), and its fields stand apart by a space (32).

abbrev pub cause_text : JobCause → List ℕ
cause_text cause.TooLong = codes "TooLong"
cause_text cause.Lines = codes "Lines"
cause_text cause.Word = codes "Word"
cause_text cause.Number = codes "Number"
cause_text cause.Hex = codes "Hex"
cause_text cause.Order = codes "Order"
cause_text cause.Draws = codes "Draws"
cause_text cause.NoEnd = codes "NoEnd"

abbrev pub line_text : Printed → List ℕ
line_text (Commit version) = codes "commit " ++ decimal version ++ codes "\n"
line_text (Spent version) = codes "spent " ++ decimal version ++ codes "\n"
line_text (Up version) = codes "up " ++ decimal version ++ codes "\n"
line_text (Out channel entry) =
    codes "out " ++ decimal channel ++ codes " " ++ decimal entry.number ++ codes " "
    ++ encode_lower entry.bytes.items ++ codes "\n"
line_text (Dry channel) = codes "dry " ++ decimal channel ++ codes "\n"
line_text Done = codes "done\n"
line_text Usage = codes "usage\n"
line_text (BadJob line why) = codes "bad job " ++ decimal line ++ codes " " ++ cause_text why ++ codes "\n"
line_text ReadFault = codes "read fault\n"
line_text Memory = codes "memory\n"

-- What a line of a job prints, each with the world at that moment, and the world behind it.

abbrev pub ticks : ℕ → World → World
ticks zero w = w
ticks (suc n) w = tick (ticks n w)

-- up to so many entries are accepted, up to the first that isn't there
abbrev pub told : ℕ → Option Entry → World → World → List (Printed × World) → List (Printed × World)
told channel None w next more = (Dry channel, w) ∷ []
told channel (Some entry) w next more = (Out channel entry, next) ∷ more

abbrev pub take_prints : ℕ → ℕ → World → List (Printed × World)
take_prints zero channel w = []
take_prints (suc n) channel w =
    told channel (offered w channel) w (accept w channel) (take_prints n channel (accept w channel))

abbrev pub went : Option Entry → World → World → World
went None w more = w
went (Some entry) w more = more

abbrev pub taken : ℕ → ℕ → World → World
taken zero channel w = w
taken (suc n) channel w = went (offered w channel) w (taken n channel (accept w channel))

-- a checkpoint, where there is a version for it
abbrev pub checkpointed : World → World
checkpointed w = if nat_lt w.version LAST_VERSION then commit w else w

abbrev pub checkpoint_line : World → Printed
checkpoint_line w = if nat_lt w.version LAST_VERSION then Commit (w.version + 1) else Spent w.version

abbrev pub prints_of : Line → World → List (Printed × World)
prints_of (job.Cores n) w = []
prints_of (job.Code word) w = []
prints_of (job.Run n) w = []
prints_of job.Checkpoint w = (checkpoint_line w, checkpointed w) ∷ []
prints_of (job.Cut seed) w = (Up w.version, cut w) ∷ []
prints_of (job.Take channel n) w = take_prints n channel w
prints_of job.End w = (Done, w) ∷ []

abbrev pub after : Line → World → World
after (job.Cores n) w = w
after (job.Code word) w = w
after (job.Run n) w = ticks n w
after job.Checkpoint w = checkpointed w
after (job.Cut seed) w = cut w
after (job.Take channel n) w = taken n channel w
after job.End w = w

-- What a job prints from a world on, and the world behind it.

abbrev pub all_prints : List Line → World → List (Printed × World)
all_prints [] w = []
all_prints (line ∷ lines) w = prints_of line w ++ all_prints lines (after line w)

abbrev pub world_after : List Line → World → World
world_after [] w = w
world_after (line ∷ lines) w = world_after lines (after line w)

-- printed lines as text
abbrev pub text_of : List (Printed × World) → List ℕ
text_of [] = []
text_of (print ∷ prints) = line_text print.0 ++ text_of prints

-- The program of a job.

-- the bytes of the code words, each of four, the lowest first
abbrev pub code_bytes : List ℕ → List ℕ
code_bytes [] = []
code_bytes (word ∷ words) = to_le_bytes w32 word ++ code_bytes words

-- a page that begins with these bytes, by address, with zeros behind
abbrev pub code_page : List ℕ → ℕ → ℕ
code_page bytes a = if nat_lt a PAGE_BYTES then slice_index bytes a else 0

-- the world that a program of these words begins with, on a memory that has counted nothing
abbrev pub first_of : List ℕ → World
first_of words = first (code_page (code_bytes words)) 0 0

-- the report of a job's lines, as the plain machine gives it
abbrev pub report : List Line → List ℕ → List ℕ
report lines words = text_of (all_prints lines (first_of words))
