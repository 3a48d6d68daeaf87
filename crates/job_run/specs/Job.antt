-- What a run of a job leaves, by the status that it ends with.
use Rattle.std.specs.Prelude.{◌≡◌, ◌⊎◌, ℕ, List, [], ◌∷◌, Option, codes, string_bytes, String, IfSome}
use Rattle.std.specs.Io.KnownBytes.{append_known, IsAtEnd}
use Rattle.pmem_model.specs.Memory as memory
use Rattle.sls_io.specs.Faults.{Rose}
use Rattle.sls_io.specs.Sink.{AppendsPrefix}
use Rattle.sls_io.specs.declared.sink.SinkError.TheVariants as error
use Rattle.sls_base.specs.Counts.{one_more}
use Rattle.sls_kernel.specs.Plain.{World}
use Rattle.sls_kernel.specs.Shows.{StandsFor, durable_words}
use Rattle.job_script.specs.declared.line.Line.{Line}
use Rattle.job_script.specs.declared.fault.JobCause.{JobCause}
use Rattle.job_script.specs.Grammar.{Verdict, Good, Faulty, verdict}
use Rattle.job_script.specs.Job.{words_of}
use Rattle.job_run.specs.declared.lines.BreakCause.TheVariants as cause
use Rattle.job_run.specs.declared.status.Status.{Status}
use Rattle.job_run.specs.declared.status.Status.TheVariants as status
use Rattle.job_run.specs.declared.report.Printed.{Printed}
use Rattle.job_run.specs.declared.report.Printed.TheVariants as line
use Rattle.job_run.specs.Report.{line_text, report, first_of, all_prints, world_after}
use Rattle.job_run.specs.Ends.{BreaksAt, SinkHasNoMemory}

-- the plain machine behind the lines of a job
abbrev pub end_of : List Line → World
end_of lines = world_after lines (first_of (words_of lines))

-- what a job prints
abbrev pub prints : List Line → List (Printed × World)
prints lines = all_prints lines (first_of (words_of lines))

-- Done: the report of the plain machine was written, and the durable words stand for its saved copy; the memory counted
-- its commits and its cuts, and the last cut.
pub record RunsWhole (lines : List Line) (old new : Option (List ℕ)) (nvm : memory.Memory) : Type 0 where
  pub report_is : new ≡ append_known old (report lines (words_of lines))
  pub stands : StandsFor (durable_words nvm) (end_of lines)
  pub commits : nvm.commits ≡ (end_of lines).commits
  pub cuts : nvm.cuts ≡ one_more (end_of lines).cuts

-- A status's last line after what was written: all of it, a part where its write failed, or nothing where the sink had
-- no memory for it. The line `memory` too is missing only there.
abbrev pub LastLine : Status → Printed → Option (List ℕ) → Option (List ℕ) → Status → Type 0
LastLine wanted last old new status.WriteFault = AppendsPrefix old new (line_text last)
LastLine wanted last old new status.Memory =
    SinkHasNoMemory old new ⊎ (wanted ≡ status.Memory) × (new ≡ append_known old (line_text last))
LastLine wanted last old new status.Done = (wanted ≡ status.Done) × (new ≡ append_known old (line_text last))
LastLine wanted last old new status.Usage = (wanted ≡ status.Usage) × (new ≡ append_known old (line_text last))
LastLine wanted last old new status.BadJob = (wanted ≡ status.BadJob) × (new ≡ append_known old (line_text last))
LastLine wanted last old new status.ReadFault = (wanted ≡ status.ReadFault) × (new ≡ append_known old (line_text last))

-- The last line of a status was written whole, or its write failed, or the sink had no memory for it, which is counted.
abbrev pub LastWants : Status → Printed → (old new : Option (List ℕ)) → (wants wants_after : ℕ) → Status → Type 0
LastWants wanted last old new wants wants_after ended =
    (ended ≡ status.Memory) × (wants_after ≡ one_more wants)
    ⊎ ((ended ≡ status.WriteFault) × (wants_after ≡ wants)
    ⊎ (ended ≡ wanted) × (wants_after ≡ wants) × (new ≡ append_known old (line_text last)))

-- What was written behind what stood there ends with this line.
abbrev pub EndsWith : Option (List ℕ) → Option (List ℕ) → Printed → Type 0
EndsWith old new last = (before : List ℕ) × (new ≡ append_known (append_known old before) (line_text last))

-- Want of memory is told: by the sink's count where the sink had none for a line, and else by the line `memory`, which is
-- the last. With any other status the sink had memory for each line.
abbrev pub TellsWant : Status → (old new : Option (List ℕ)) → (wants wants_after : ℕ) → Type 0
TellsWant status.Memory old new wants wants_after =
    (wants_after ≡ one_more wants) ⊎ (wants_after ≡ wants) × EndsWith old new line.Memory
TellsWant status.Done old new wants wants_after = wants_after ≡ wants
TellsWant status.Usage old new wants wants_after = wants_after ≡ wants
TellsWant status.BadJob old new wants wants_after = wants_after ≡ wants
TellsWant status.ReadFault old new wants wants_after = wants_after ≡ wants
TellsWant status.WriteFault old new wants wants_after = wants_after ≡ wants

-- the run broke where there was no memory to light the machine again, and the line `memory` follows
pub record BreaksInMemory
    (lines : List Line) (old new : Option (List ℕ)) (nvm : memory.Memory) (ended : Status) : Type 0 where
  pub between : Option (List ℕ)
  pub broke : BreaksAt cause.NotLit old between nvm (prints lines)
  pub last : LastLine status.Memory line.Memory between new ended

-- What a run of a job's lines leaves on a memory that came as it was made. Where a line of the report wasn't written,
-- by a fault or since the sink has no memory for it, nothing follows. Where there was no memory to make the machine or
-- to light it again, the line `memory` follows.
abbrev pub IsRun : List Line → (old new : Option (List ℕ)) → memory.Memory → Status → memory.Memory → Type 0
IsRun lines old new came status.Done nvm = RunsWhole lines old new nvm
IsRun lines old new came status.WriteFault nvm =
    BreaksAt (cause.NotWritten error.Failed) old new nvm (prints lines)
    ⊎ (BreaksInMemory lines old new nvm status.WriteFault
    ⊎ (nvm ≡ came) × LastLine status.Memory line.Memory old new status.WriteFault)
IsRun lines old new came status.Memory nvm =
    BreaksAt (cause.NotWritten error.Memory) old new nvm (prints lines)
    ⊎ (BreaksInMemory lines old new nvm status.Memory
    ⊎ (nvm ≡ came) × LastLine status.Memory line.Memory old new status.Memory)
IsRun lines old new came status.Usage nvm = ⊥
IsRun lines old new came status.BadJob nvm = ⊥
IsRun lines old new came status.ReadFault nvm = ⊥

-- The words of the program are exactly `run`.
abbrev pub IsRunWords : {A : Type 0} → List (String A) → Type 0
IsRunWords [] = ⊥
IsRunWords (word ∷ []) = string_bytes word ≡ codes "run"
IsRunWords (word ∷ (more ∷ rest)) = ⊥

-- Nothing was run: the status's line is the last, and the memory is as it came.
pub record EndsAt
    (wanted : Status) (last : Printed) (old new : Option (List ℕ)) (came nvm : memory.Memory) (ended : Status)
    : Type 0 where
  pub last_line : LastLine wanted last old new ended
  pub memory_stays : nvm ≡ came

-- A text was read that says this, which is what the source's text says where that is told.
pub record IsRead (left : Option (List ℕ)) (said : Verdict) : Type 0 where
  pub text : List ℕ
  pub is_text : IfSome left (λ all. verdict all ≡ verdict text)
  pub says : verdict text ≡ said

-- The job was read to its end, told or not, and was run.
pub record RanJob
    (left left_after : Option (List ℕ)) (source_ended : Type 0) (old new : Option (List ℕ))
    (came : memory.Memory) (ended : Status) (nvm : memory.Memory) : Type 0 where
  pub lines : List Line
  pub read : IsRead left (Good lines)
  pub at_end : IsAtEnd left_after
  pub met_end : source_ended
  pub run : IsRun lines old new came ended nvm

-- The job is at fault, and the last line tells where and why.
pub record RefusedJob
    (left old new : Option (List ℕ)) (came : memory.Memory) (ended : Status) (nvm : memory.Memory) : Type 0 where
  pub at : ℕ
  pub cause : JobCause
  pub read : IsRead left (Faulty at cause)
  pub ends : EndsAt status.BadJob (line.BadJob at cause) old new came nvm ended

-- A read of the job failed.
pub record FailedRead
    (faults faults_after : ℕ) (old new : Option (List ℕ))
    (came : memory.Memory) (ended : Status) (nvm : memory.Memory) : Type 0 where
  pub rose : Rose faults faults_after
  pub ends : EndsAt status.ReadFault line.ReadFault old new came nvm ended

-- What a run leaves: a read of the job failed, or there was no memory to read it, or it is at fault, or it was run.
abbrev pub LeavesRun : (left left_after : Option (List ℕ)) → Type 0 → (faults faults_after : ℕ)
    → (old new : Option (List ℕ)) → memory.Memory → Status → memory.Memory → Type 0
LeavesRun left left_after source_ended faults faults_after old new came ended nvm =
    FailedRead faults faults_after old new came ended nvm
    ⊎ (EndsAt status.Memory line.Memory old new came nvm ended
    ⊎ (RefusedJob left old new came ended nvm
    ⊎ RanJob left left_after source_ended old new came ended nvm))

-- What a run of a text leaves: there was no memory to read it, or it is at fault, or it is a job, which was run.
abbrev pub LeavesText : List ℕ → (old new : Option (List ℕ)) → memory.Memory → Status → memory.Memory → Type 0
LeavesText text old new came ended nvm =
    EndsAt status.Memory line.Memory old new came nvm ended
    ⊎ (((at : ℕ) × (cause : JobCause) × (verdict text ≡ Faulty at cause)
    × EndsAt status.BadJob (line.BadJob at cause) old new came nvm ended)
    ⊎ ((lines : List Line) × (verdict text ≡ Good lines) × IsRun lines old new came ended nvm))

-- The text is at fault, and what was written tells the line and the cause of its first fault.
pub record TellsFault (text : List ℕ) (old new : Option (List ℕ)) : Type 0 where
  pub at : ℕ
  pub cause : JobCause
  pub fault : verdict text ≡ Faulty at cause
  pub told : new ≡ append_known old (line_text (line.BadJob at cause))

-- A text with this first fault is answered by its line, but where the job couldn't be read, or the line not be written.
abbrev pub AnswersFault : ℕ → JobCause → Option (List ℕ) → Option (List ℕ) → Status → Type 0
AnswersFault at cause old new status.BadJob = new ≡ append_known old (line_text (line.BadJob at cause))
AnswersFault at cause old new status.ReadFault = Unit {0}
AnswersFault at cause old new status.WriteFault = Unit {0}
AnswersFault at cause old new status.Memory = Unit {0}
AnswersFault at cause old new status.Done = ⊥
AnswersFault at cause old new status.Usage = ⊥
