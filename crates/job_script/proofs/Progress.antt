-- Reading lines one after the other.
use Rattle.std.proofs.Common.{◌≡◌, ℕ, ◌+◌, ◌<◌, ◌≤◌, false, true, List, [], ◌∷◌, ◌++◌, length, Some, None, Ok, Err, nat_lt, refl, sym, ap, ◌∙◌, append_assoc, le-ltb, lt-ltb}
use Rattle.std.specs.Str.Lines.{lines}
use Rattle.std.proofs.lemmas.List.{append-nil}
use Rattle.job_script.specs.declared.fault.JobCause.{JobCause}
use Rattle.job_script.specs.declared.fault.JobCause.TheVariants.{TooLong, NoEnd}
use Rattle.job_script.specs.declared.line.Line.{Line}
use Rattle.job_script.specs.declared.section.Section.{Section}
use Rattle.job_script.specs.declared.section.Section.TheVariants.{Start, Ended}
use Rattle.job_script.specs.Grammar.{Verdict, Good, Faulty, line_at, with_line, at_end, verdict_from, verdict}

-- what was read before, and what the rest says
abbrev pub with_front : List Line → Verdict → Verdict
with_front front (Good others) = Good (front ++ others)
with_front front (Faulty n cause) = Faulty n cause

pub regroup : (front : List Line) (line : Line) (rest : Verdict) → with_front front (with_line (Some line) rest) ≡ with_front (front ++ line ∷ []) rest
regroup front line (Good others) = ap Good (simp append_assoc)
regroup front line (Faulty n cause) = refl

pub nothing : (rest : Verdict) → with_line None rest ≡ rest
nothing (Good others) = refl
nothing (Faulty n cause) = refl

-- a line that says something
pub goes_on : (front : List Line) (n : ℕ) (section : Section) (text : List ℕ) (more : List (List ℕ)) (line : Line) (next : Section) (total : Verdict) → line_at n section text ≡ Ok (Some line, next)
    → with_front front (verdict_from n section (text ∷ more)) ≡ total → with_front (front ++ line ∷ []) (verdict_from (n + 1) next more) ≡ total
unfolding verdict_from
goes_on front n section text more line next total h so_far =
    let one : with_front front (verdict_from n section (text ∷ more)) ≡ with_front (front ++ line ∷ []) (verdict_from (n + 1) next more) = rw h (regroup front line (verdict_from (n + 1) next more)) in
    sym one ∙ so_far

-- a line that is skipped
pub skips : (front : List Line) (n : ℕ) (section : Section) (text : List ℕ) (more : List (List ℕ)) (next : Section) (total : Verdict) → line_at n section text ≡ Ok (None, next)
    → with_front front (verdict_from n section (text ∷ more)) ≡ total → with_front front (verdict_from (n + 1) next more) ≡ total
unfolding verdict_from
skips front n section text more next total h so_far =
    let one : with_front front (verdict_from n section (text ∷ more)) ≡ with_front front (verdict_from (n + 1) next more) = rw h (ap (with_front front) (nothing (verdict_from (n + 1) next more))) in
    sym one ∙ so_far

-- a line at fault
pub stops : (front : List Line) (n : ℕ) (section : Section) (text : List ℕ) (more : List (List ℕ)) (cause : JobCause) (total : Verdict) → line_at n section text ≡ Err cause
    → with_front front (verdict_from n section (text ∷ more)) ≡ total → total ≡ Faulty n cause
unfolding verdict_from
stops front n section text more cause total h so_far =
    let one : with_front front (verdict_from n section (text ∷ more)) ≡ Faulty n cause = rw h refl in
    sym so_far ∙ one

-- the end of the text, where the job is done
pub done : (front : List Line) (n : ℕ) (total : Verdict) → with_front front (verdict_from n Ended []) ≡ total → total ≡ Good front
unfolding verdict_from
done front n total so_far = sym so_far ∙ ap Good (append-nil front)

no_end : (front : List Line) (n : ℕ) (section : Section) → (section ≡ Ended → ⊥) → with_front front (at_end n section) ≡ Faulty n NoEnd
no_end front n Ended h = absurd (h refl)
no_end front n section h = refl

pub not_ended : (n : ℕ) (section : Section) → (section ≡ Ended → ⊥) → verdict_from n section [] ≡ Faulty n NoEnd
unfolding verdict_from
not_ended n Ended h = absurd (h refl)
not_ended n section h = refl

-- and where it isn't
pub not_done : (front : List Line) (n : ℕ) (section : Section) (total : Verdict) → (section ≡ Ended → ⊥) → with_front front (verdict_from n section []) ≡ total → total ≡ Faulty n NoEnd
unfolding verdict_from
not_done front n section total h so_far = sym so_far ∙ no_end front n section h

pub verdict_is : (text : List ℕ) (said : Verdict) → length text ≤ 65536 → verdict_from 1 Start (lines text) ≡ said → verdict text ≡ said
unfolding verdict
verdict_is text said h e =
    let short : nat_lt 65536 (length text) ≡ false = le-ltb 65536 (length text) h in
    rw short e

pub verdict_long : (text : List ℕ) → 65536 < length text → verdict text ≡ Faulty 0 TooLong
unfolding verdict
verdict_long text h =
    let long : nat_lt 65536 (length text) ≡ true = lt-ltb 65536 (length text) h in
    rw long refl
