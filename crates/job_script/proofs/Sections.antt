-- The lines of a job lead from the start of the form to its end, and lines that lead anywhere begin a job.
use Rattle.std.proofs.Common.{◌≡◌, ℕ, zero, suc, ◌+◌, ◌<◌, ◌≤◌, true, List, [], ◌∷◌, ◌++◌, length, map, Result, Ok, Err, refl, sym, ap, ◌∙◌, subst, arith, append_assoc, nat_lt, nat_le, lt-ltb, le-leb, lit<}
use Rattle.std.specs.List.{AllByRecursion}
use Rattle.job_script.specs.declared.fault.JobCause.{JobCause}
use Rattle.job_script.specs.declared.line.Line.{Line}
use Rattle.job_script.specs.declared.line.Line.TheVariants.{Cores, Code, Run, Checkpoint, Cut, Take, End}
use Rattle.job_script.specs.declared.section.Section.{Section}
use Rattle.job_script.specs.declared.section.Section.TheVariants.{Start, Program, Actions, Ended}
use Rattle.job_script.specs.UntilFault.{◌>>=◌}
use Rattle.job_script.specs.Form.{after}
use Rattle.job_script.specs.Job.{words_of, actions_of, draws_of, IsAction, IsJob}
use Rattle.job_script.specs.Language.{IsBeginning}
use Rattle.job_script.proofs.Ranges.{InRange}
use Rattle.job_script.proofs.Order.{behind, job_of_end}

bound_twice : {A B C : Type 0} (read : Result A JobCause) (f : A → Result C JobCause) (g : A → Result B JobCause) (h : B → Result C JobCause) → ((x : A) → f x ≡ (g x >>= h)) → (read >>= f) ≡ ((read >>= g) >>= h)
bound_twice (Ok x) f g h same = same x
bound_twice (Err cause) f g h same = refl

behind_append : (section : Section) (lines more : List Line) → behind section (lines ++ more) ≡ (behind section lines >>= (λ next. behind next more))
behind_append section [] more = refl
behind_append section (line ∷ lines) more =
    bound_twice (after section line) (λ next. behind next (lines ++ more)) (λ next. behind next lines) (λ next. behind next more) (λ next. behind_append next lines more)

-- the section behind some lines and more
pub then_behind : (section : Section) (lines more : List Line) (next : Section) → behind section lines ≡ Ok next → behind section (lines ++ more) ≡ behind next more
then_behind section lines more next e = behind_append section lines more ∙ ap (λ read. read >>= (λ q. behind q more)) e

pub all_append : (P : Line → Type 0) (lines more : List Line) → AllByRecursion P lines → AllByRecursion P more → AllByRecursion P (lines ++ more)
all_append P [] more h k = k
all_append P (line ∷ lines) more h k = (h.0, all_append P lines more h.1 k)

-- lines that bring a job to its end
finish : Section → List Line
finish Start = Cores 1 ∷ Code 0 ∷ End ∷ []
finish (Program zero) = Code 0 ∷ End ∷ []
finish (Program (suc words)) = End ∷ []
finish (Actions draws) = End ∷ []
finish Ended = []

finishes : (section : Section) → behind section (finish section) ≡ Ok Ended
unfolding finish
finishes Start = refl
finishes (Program zero) = refl
finishes (Program (suc words)) = let some : nat_lt 0 (suc words) ≡ true = lt-ltb 0 (suc words) (omega arith) in rw some refl
finishes (Actions draws) = refl
finishes Ended = refl

finish_fits : (section : Section) → AllByRecursion InRange (finish section)
unfolding finish
finish_fits Start = (refl, (lit< tt, (tt, tt)))
finish_fits (Program zero) = (lit< tt, (tt, tt))
finish_fits (Program (suc words)) = (tt, tt)
finish_fits (Actions draws) = (tt, tt)
finish_fits Ended = tt

pub beginning : (lines : List Line) (section : Section) → behind Start lines ≡ Ok section → AllByRecursion InRange lines → IsBeginning lines
beginning lines section e fits =
    (finish section, job_of_end (lines ++ finish section) (then_behind Start lines (finish section) section e ∙ finishes section) (all_append InRange lines (finish section) fits (finish_fits section)))

-- actions and `end`
from_actions : (draws : ℕ) (actions : List Line) → AllByRecursion IsAction actions → draws + draws_of actions ≤ 2000000 → behind (Actions draws) (actions ++ End ∷ []) ≡ Ok Ended
from_actions draws [] h few = refl
from_actions draws (Run n ∷ more) h few =
    let test : nat_le (draws + n) 2000000 ≡ true = le-leb (draws + n) 2000000 (omega arith) in
    rw test (from_actions (draws + n) more h.1 (omega arith))
from_actions draws (Checkpoint ∷ more) h few = from_actions draws more h.1 few
from_actions draws (Cut seed ∷ more) h few = from_actions draws more h.1 few
from_actions draws (Take channel n ∷ more) h few = from_actions draws more h.1 few
from_actions draws (Cores n ∷ more) h few = absurd h.0
from_actions draws (Code word ∷ more) h few = absurd h.0
from_actions draws (End ∷ more) h few = absurd h.0

-- behind the program
from_program : (words : ℕ) (actions : List Line) → nat_lt 0 words ≡ true → AllByRecursion IsAction actions → draws_of actions ≤ 2000000 → behind (Program words) (actions ++ End ∷ []) ≡ Ok Ended
from_program words [] some h few = rw some refl
from_program words (Run n ∷ more) some h few = rw some (from_actions 0 (Run n ∷ more) h (omega arith))
from_program words (Checkpoint ∷ more) some h few = rw some (from_actions 0 (Checkpoint ∷ more) h (omega arith))
from_program words (Cut seed ∷ more) some h few = rw some (from_actions 0 (Cut seed ∷ more) h (omega arith))
from_program words (Take channel n ∷ more) some h few = rw some (from_actions 0 (Take channel n ∷ more) h (omega arith))
from_program words (Cores n ∷ more) some h few = absurd h.0
from_program words (Code word ∷ more) some h few = absurd h.0
from_program words (End ∷ more) some h few = absurd h.0

-- in the program
from_words : (before : ℕ) (words : List ℕ) (actions : List Line) → before + length words ≤ 1024 → 0 < before + length words → AllByRecursion IsAction actions → draws_of actions ≤ 2000000
    → behind (Program before) (map Code words ++ (actions ++ End ∷ [])) ≡ Ok Ended
from_words before [] actions most some h few = from_program before actions (lt-ltb 0 before (omega arith)) h few
from_words before (word ∷ words) actions most some h few =
    let test : nat_lt before 1024 ≡ true = lt-ltb before 1024 (omega arith) in
    rw test (from_words (before + 1) words actions (omega arith) (omega arith) h few)

draws_of_actions : (lines : List Line) → draws_of (actions_of lines) ≡ draws_of lines
draws_of_actions [] = refl
draws_of_actions (Run n ∷ lines) = ap (λ draws. n + draws) (draws_of_actions lines)
draws_of_actions (Checkpoint ∷ lines) = draws_of_actions lines
draws_of_actions (Cut seed ∷ lines) = draws_of_actions lines
draws_of_actions (Take channel n ∷ lines) = draws_of_actions lines
draws_of_actions (Cores n ∷ lines) = draws_of_actions lines
draws_of_actions (Code word ∷ lines) = draws_of_actions lines
draws_of_actions (End ∷ lines) = draws_of_actions lines

pub behind_job : (lines : List Line) → IsJob lines → behind Start lines ≡ Ok Ended
behind_job lines is =
    let P : List Line → Type 0 = λ l. behind Start l ≡ Ok Ended in
    subst P (sym is.form) (from_words 0 (words_of lines) (actions_of lines) (omega (arith, is.few_words)) (omega (arith, is.some_words)) is.actions (omega (arith, is.draws, draws_of_actions lines)))

-- a line that has no place behind some lines begins no job with them
pub no_beginning : (lines : List Line) (section : Section) (line : Line) (cause : JobCause) → behind Start lines ≡ Ok section → after section line ≡ Err cause → IsBeginning (lines ++ line ∷ []) → ⊥
no_beginning lines section line cause e stop begins =
    let all : behind Start ((lines ++ line ∷ []) ++ begins.0) ≡ Ok Ended = behind_job ((lines ++ line ∷ []) ++ begins.0) begins.1 in
    let none : behind Start ((lines ++ line ∷ []) ++ begins.0) ≡ Err cause =
    ap (λ ls. behind Start ls) (append_assoc lines (line ∷ []) begins.0) ∙ then_behind Start lines (line ∷ begins.0) section e ∙ ap (λ read. read >>= (λ q. behind q begins.0)) stop in
    cc

-- lines that begin a job lead to a section
pub section_of_beginning : (lines : List Line) → IsBeginning lines → (section : Section) × (behind Start lines ≡ Ok section)
section_of_beginning lines begins =
    let all : behind Start (lines ++ begins.0) ≡ Ok Ended = behind_job (lines ++ begins.0) begins.1 in
    led (behind Start lines) begins.0 (sym (behind_append Start lines begins.0) ∙ all)
  where
    led : (read : Result Section JobCause) (more : List Line) → (read >>= (λ next. behind next more)) ≡ Ok Ended → (section : Section) × (read ≡ Ok section)
    led (Ok section) more e = (section, refl)
    led (Err cause) more e = cc
