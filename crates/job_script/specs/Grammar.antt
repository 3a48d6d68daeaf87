-- What a text says: a job, or where it is none and why.
use Rattle.std.specs.Prelude.{◌≡◌, ℕ, ◌+◌, nat_lt, if◌then◌else◌, List, [], ◌∷◌, length}
use Rattle.std.specs.Prelude.{Option, Some, None, Result, Ok, Err}
use Rattle.std.specs.Str.Lines.{lines}
use Rattle.sls_base.specs.declared.texts.TheConstants.{TEXT_BYTES}
use Rattle.job_script.specs.declared.fault.JobCause.{JobCause}
use Rattle.job_script.specs.declared.fault.JobCause.TheVariants.{TooLong, Lines, NoEnd}
use Rattle.job_script.specs.declared.fault.JobError.{JobError}
use Rattle.job_script.specs.declared.fault.JobError.TheVariants as errors
use Rattle.job_script.specs.declared.line.Line.{Line}
use Rattle.job_script.specs.declared.section.Section.{Section}
use Rattle.job_script.specs.declared.section.Section.TheVariants.{Start, Ended}
use Rattle.job_script.specs.Text.{fields_of}
use Rattle.job_script.specs.UntilFault.{◌>>=◌}
use Rattle.job_script.specs.Lines.{said_by}
use Rattle.job_script.specs.Form.{after}

-- a text is a job with these lines, or it is at fault first at a line, by a cause
pub data Verdict : Type 0 where
  Good : List Line → Verdict
  Faulty : ℕ → JobCause → Verdict

-- the section after what a line says
abbrev pub after_said : Section → Option Line → Result (Option Line × Section) JobCause
after_said section None = Ok (None, section)
after_said section (Some line) = do
  next ← after section line
  Ok (Some line, next)

-- what line n says in a section of the job, and the section after it; there are at most 4,096 lines
unfoldable pub line_at : ℕ → Section → List ℕ → Result (Option Line × Section) JobCause
line_at n section text = do
  said ← if nat_lt 4096 n then Err Lines else said_by (fields_of text)
  after_said section said

-- what a line says, before what the lines after it say
abbrev pub with_line : Option Line → Verdict → Verdict
with_line (Some line) (Good others) = Good (line ∷ others)
with_line said verdict = verdict

-- the fault of line n, or what is said after it
abbrev pub unless_fault : {A : Type 0} → ℕ → Result A JobCause → (A → Verdict) → Verdict
unless_fault n (Ok read) go = go read
unless_fault n (Err cause) go = Faulty n cause

-- the text ends before line n: the job is to be done
abbrev pub at_end : ℕ → Section → Verdict
at_end n Ended = Good []
at_end n section = Faulty n NoEnd

-- what the lines say from line n on, which stands in a section of the job
unfoldable pub verdict_from : ℕ → Section → List (List ℕ) → Verdict
verdict_from n section [] = at_end n section
verdict_from n section (text ∷ more) =
    unless_fault n (line_at n section text) (λ read. with_line read.0 (verdict_from (n + 1) read.1 more))

-- what a text says
unfoldable pub verdict : List ℕ → Verdict
verdict text = if nat_lt TEXT_BYTES (length text) then Faulty 0 TooLong else verdict_from 1 Start (lines text)

-- an error says what the verdict is, or that there was no memory
abbrev pub Refuses : JobError → Verdict → Type 0
Refuses errors.Memory said = Unit {0}
Refuses (errors.Bad line cause) said = said ≡ Faulty line cause
