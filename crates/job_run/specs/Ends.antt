-- How a run of a machine ends before the job does, and what its turns do to what it shows.
use Rattle.std.specs.Prelude.{◌≡◌, ◌<◌, ℕ, List, ◌∷◌, ◌++◌, Option}
use Rattle.std.specs.Io.KnownBytes.{append_known}
use Rattle.sls_base.specs.Counts.{one_more}
use Rattle.sls_io.specs.Sink.{AppendsPrefix}
use Rattle.sls_io.specs.declared.sink.SinkError.TheVariants.{Failed, Memory}
use Rattle.pmem_model.specs.Memory as memory
use Rattle.sls_kernel.specs.Plain.{World, commit}
use Rattle.sls_kernel.specs.Shows.{Shows, StandsFor, durable_words}
use Rattle.sls_kernel.specs.declared.machine.Machine.{Machine}
use Rattle.job_script.specs.declared.line.Line.{Line}
use Rattle.job_script.specs.declared.line.Line.TheVariants as job
use Rattle.job_run.specs.declared.lines.BreakCause.{BreakCause}
use Rattle.job_run.specs.declared.lines.BreakCause.TheVariants.{NotWritten, NotLit}
use Rattle.job_run.specs.declared.report.Printed.{Printed}
use Rattle.job_run.specs.declared.report.Printed.TheVariants.{Up}
use Rattle.job_run.specs.Report.{line_text, text_of}

-- the machine shows what it showed
abbrev pub Keeps : Machine → Machine → Type 0
Keeps old new = (w : World) → Shows old w → Shows new w

-- a commit came
abbrev pub Commits : Machine → Machine → Type 0
Commits old new = (w : World) → Shows old w → Shows new (commit w)

-- a line names one of the four channels
abbrev pub HasChannels : Line → Type 0
HasChannels (job.Take channel n) = channel < 4
HasChannels (job.Cores n) = Unit {0}
HasChannels (job.Code word) = Unit {0}
HasChannels (job.Run n) = Unit {0}
HasChannels job.Checkpoint = Unit {0}
HasChannels (job.Cut seed) = Unit {0}
HasChannels job.End = Unit {0}

-- the sink answered that it has no memory for a line, and nothing of it was written
abbrev pub SinkHasNoMemory : Option (List ℕ) → Option (List ℕ) → Type 0
SinkHasNoMemory old new = new ≡ old

-- What was written of the line that a run broke at: some first bytes where its write failed, and nothing where the sink
-- has no memory for it. Where the machine could not be lit, the line was to tell that it is up again.
abbrev pub PartWritten : BreakCause → Option (List ℕ) → Option (List ℕ) → Printed → Type 0
PartWritten (NotWritten Failed) old new line = AppendsPrefix old new (line_text line)
PartWritten (NotWritten Memory) old new line = SinkHasNoMemory old new
PartWritten NotLit old new line = (version : ℕ) × (line ≡ Up version) × (new ≡ old)

-- how often the sink had no memory, behind a break: once more where that is its cause
abbrev pub wants_behind : BreakCause → ℕ → ℕ
wants_behind (NotWritten Failed) wants = wants
wants_behind (NotWritten Memory) wants = one_more wants
wants_behind NotLit wants = wants

-- The run broke at a line that it was to print: the lines before it were written, and at most a part of it; and the
-- durable words stand for the saved copy of the world at that line.
pub record BreaksAt
    (cause : BreakCause) (old new : Option (List ℕ)) (nvm : memory.Memory) (prints : List (Printed × World))
    : Type 0 where
  pub before : List (Printed × World)
  pub at : Printed × World
  pub rest : List (Printed × World)
  pub split : prints ≡ before ++ at ∷ rest
  pub written : PartWritten cause (append_known old (text_of before)) new at.0
  pub stands : StandsFor (durable_words nvm) at.1

-- All of these lines were written, and the machine shows the world behind them.
pub record Ran
    (old new : Option (List ℕ)) (machine : Machine) (prints : List (Printed × World)) (behind : World) : Type 0 where
  pub written : new ≡ append_known old (text_of prints)
  pub shows : Shows machine behind
