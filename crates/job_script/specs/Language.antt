-- The language of jobs, without an order of reading: what a text says that is a job, and what the first fault of
-- another is.
use Rattle.std.specs.Prelude.{◌≡◌, ℕ, ◌+◌, ◌<◌, ◌≤◌, List, [], ◌∷◌, ◌++◌, length, Some, None, Ok, Err}
use Rattle.std.specs.Str.Lines.{lines}
use Rattle.sls_base.specs.declared.texts.TheConstants.{TEXT_BYTES}
use Rattle.job_script.specs.declared.fault.JobCause.{JobCause}
use Rattle.job_script.specs.declared.fault.JobCause.TheVariants.{TooLong, Lines, Order, Draws, NoEnd}
use Rattle.job_script.specs.declared.line.Line.{Line}
use Rattle.job_script.specs.declared.line.Line.TheVariants.{Run}
use Rattle.job_script.specs.Text.{fields_of}
use Rattle.job_script.specs.Lines.{said_by}
use Rattle.job_script.specs.Job.{IsJob, draws_of}

-- these lines of a text say these lines of a job, in order
pub data Say : List (List ℕ) → List Line → Type 0 where
  none : Say [] []
  skips : {text : List ℕ} {texts : List (List ℕ)} {said : List Line}
      → said_by (fields_of text) ≡ Ok None → Say texts said → Say (text ∷ texts) said
  says : {text : List ℕ} {line : Line} {texts : List (List ℕ)} {said : List Line}
      → said_by (fields_of text) ≡ Ok (Some line) → Say texts said → Say (text ∷ texts) (line ∷ said)

-- a text is a job, which says these lines
pub record IsJobText (text : List ℕ) (said : List Line) : Type 0 where
  pub bytes : length text ≤ TEXT_BYTES
  pub few_lines : length (lines text) ≤ 4096
  pub says : Say (lines text) said
  pub job : IsJob said

-- some job begins with these lines
abbrev pub IsBeginning : List Line → Type 0
IsBeginning said = (more : List Line) × IsJob (said ++ more)

-- a line without its draws
abbrev pub undrawn : Line → Line
undrawn (Run n) = Run 0
undrawn line = line

-- a text isn't too long, its lines before line n say the beginning of a job, and these lines are left
pub record IsReadTo (text : List ℕ) (n : ℕ) (said : List Line) (left : List (List ℕ)) : Type 0 where
  pub bytes : length text ≤ TEXT_BYTES
  pub before : List (List ℕ)
  pub split : lines text ≡ before ++ left
  pub number : n ≡ length before + 1
  pub few_lines : length before ≤ 4096
  pub says : Say before said
  pub begins : IsBeginning said

-- The first fault of a text, its line and its cause. The text is too long; or it is read to a line, and this is line
-- 4,097; or the line says nothing that is understood; or no job goes on with it, even without its draws; or one does
-- without them, but they are too many; or there is no such line, and what was said is no job yet.
pub data IsFirstFault (text : List ℕ) : ℕ → JobCause → Type 0 where
  too_long : TEXT_BYTES < length text → IsFirstFault text 0 TooLong
  many_lines : {said : List Line} {at : List ℕ} {more : List (List ℕ)}
      → IsReadTo text 4097 said (at ∷ more) → IsFirstFault text 4097 Lines
  unread : {n : ℕ} {cause : JobCause} {said : List Line} {at : List ℕ} {more : List (List ℕ)}
      → n ≤ 4096 → IsReadTo text n said (at ∷ more)
      → said_by (fields_of at) ≡ Err cause → IsFirstFault text n cause
  misplaced : {n : ℕ} {said : List Line} {at : List ℕ} {more : List (List ℕ)} {line : Line}
      → n ≤ 4096 → IsReadTo text n said (at ∷ more)
      → said_by (fields_of at) ≡ Ok (Some line) → ¬ IsBeginning (said ++ undrawn line ∷ []) → IsFirstFault text n Order
  many_draws : {n : ℕ} {said : List Line} {at : List ℕ} {more : List (List ℕ)} {line : Line}
      → n ≤ 4096 → IsReadTo text n said (at ∷ more)
      → said_by (fields_of at) ≡ Ok (Some line) → IsBeginning (said ++ undrawn line ∷ [])
      → 2000000 < draws_of (said ++ line ∷ []) → IsFirstFault text n Draws
  no_end : {n : ℕ} {said : List Line} → IsReadTo text n said [] → ¬ IsJob said → IsFirstFault text n NoEnd
