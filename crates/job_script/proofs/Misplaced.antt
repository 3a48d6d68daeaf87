-- Why a line has no place behind others.
use Rattle.std.proofs.Common.{◌≡◌, ◌⊎◌, inl, inr, ℕ, ◌+◌, ◌<◌, ◌≤◌, Bool, true, false, cond, List, [], ◌∷◌, ◌++◌, Result, Ok, Err, refl, sym, subst, arith, nat_lt, nat_le, le-leb, leb-true, leb-false, lit<}
use Rattle.job_script.specs.declared.fault.JobCause.{JobCause}
use Rattle.job_script.specs.declared.fault.JobCause.TheVariants.{Order, Draws}
use Rattle.job_script.specs.declared.line.Line.{Line}
use Rattle.job_script.specs.declared.line.Line.TheVariants.{Cores, Code, Run, Checkpoint, Cut, Take, End}
use Rattle.job_script.specs.declared.section.Section.{Section}
use Rattle.job_script.specs.declared.section.Section.TheVariants.{Start, Program, Actions, Ended}
use Rattle.job_script.specs.Form.{after, after_word, after_action}
use Rattle.job_script.specs.Job.{draws_of}
use Rattle.job_script.specs.Language.{undrawn}
use Rattle.job_script.proofs.Ranges.{InRange}
use Rattle.job_script.proofs.Order.{kept, found, behind}

-- the draws that a section knows of
abbrev pub Counts : Section → ℕ → Type 0
Counts Start draws = draws ≡ 0
Counts (Program words) draws = draws ≡ 0
Counts (Actions known) draws = (known ≡ draws) × (draws ≤ 2000000)
Counts Ended draws = Unit {0}

abbrev to_section : Section → Result Section JobCause
to_section p = Ok p

counts_at : (p q : Section) (draws : ℕ) → to_section p ≡ to_section q → Counts p draws → Counts q draws
counts_at p q draws e h = let same : p ≡ q = cc in let P : Section → Type 0 = λ r. Counts r draws in subst P same h

-- a line that has a place takes few draws, and they are counted
pub record Goes (next : Section) (line : Line) (draws : ℕ) : Type 0 where
  pub counts : Counts next (draws + draws_of (line ∷ []))
  pub few : draws + draws_of (line ∷ []) ≤ 2000000

-- a line that takes no draw
plain_goes : (draws : ℕ) (line : Line) (next : Section) → to_section (Actions draws) ≡ to_section next → draws_of (line ∷ []) ≡ 0 → draws ≤ 2000000 → Goes next line draws
plain_goes draws line next e none le = record {
  counts = rw none (counts_at (Actions draws) next (draws + 0) e (omega arith, omega arith));
  few = rw none (omega arith);
}

action_goes : (draws : ℕ) (line : Line) (next : Section) → after_action draws line ≡ Ok next → draws ≤ 2000000 → Goes next line draws
action_goes draws (Run n) next e le =
    let went = kept (nat_le (draws + n) 2000000) (Ok (Actions (draws + n))) Draws next e in
    let few : draws + n ≤ 2000000 = leb-true (draws + n) 2000000 went.0 in
    record {
      counts = counts_at (Actions (draws + n)) next (draws + (n + 0)) went.1 (omega arith, omega arith);
      few = omega arith;
    }
action_goes draws Checkpoint next e le = plain_goes draws Checkpoint next e refl le
action_goes draws (Cut seed) next e le = plain_goes draws (Cut seed) next e refl le
action_goes draws (Take channel n) next e le = plain_goes draws (Take channel n) next e refl le
action_goes draws End next e le = record { counts = counts_at Ended next (draws + 0) e tt; few = omega arith }
action_goes draws (Cores n) next e le = absurd (cc)
action_goes draws (Code word) next e le = absurd (cc)

-- behind the program, where no draw was taken
first_goes : (draws : ℕ) (some : Bool) (line : Line) (next : Section) → cond some (after_action 0 line) (Err Order) ≡ Ok next → draws ≡ 0 → Goes next line draws
first_goes draws some line next e none =
    let went = kept some (after_action 0 line) Order next e in
    let D : ℕ → Type 0 = λ n. Goes next line n in subst D (sym none) (action_goes 0 line next went.1 (omega arith))

word_goes : (words draws : ℕ) (line : Line) (next : Section) → after_word words line ≡ Ok next → draws ≡ 0 → Goes next line draws
word_goes words draws (Code word) next e none =
    let went = kept (nat_lt words 1024) (Ok (Program (words + 1))) Order next e in
    record { counts = counts_at (Program (words + 1)) next (draws + 0) went.1 (omega arith); few = omega arith }
word_goes words draws line next e none = first_goes draws (nat_lt 0 words) line next e none

pub goes : (section : Section) (line : Line) (next : Section) (draws : ℕ) → after section line ≡ Ok next → Counts section draws → Goes next line draws
goes Start (Cores n) next draws e h = record { counts = counts_at (Program 0) next (draws + 0) e (omega arith); few = omega arith }
goes Start line next draws e h = absurd (cc)
goes (Program words) line next draws e h = word_goes words draws line next e h
goes (Actions known) line next draws e h =
    let N : ℕ → Type 0 = λ n. after_action n line ≡ Ok next in
    action_goes draws line next (subst N h.0 e) h.1
goes Ended line next draws e h = absurd (cc)

draws_cons : (line : Line) (lines : List Line) → draws_of (line ∷ lines) ≡ draws_of (line ∷ []) + draws_of lines
draws_cons (Run n) lines = omega arith
draws_cons Checkpoint lines = omega arith
draws_cons (Cut seed) lines = omega arith
draws_cons (Take channel n) lines = omega arith
draws_cons End lines = omega arith
draws_cons (Cores n) lines = omega arith
draws_cons (Code word) lines = omega arith

pub draws_append : (lines : List Line) (line : Line) → draws_of (lines ++ line ∷ []) ≡ draws_of lines + draws_of (line ∷ [])
draws_append [] line = omega arith
draws_append (first ∷ lines) line = omega (arith, draws_cons first (lines ++ line ∷ []), draws_cons first lines, draws_append lines line)

-- the draws of lines are counted
counted_from : (section : Section) (lines : List Line) (next : Section) (draws : ℕ) → behind section lines ≡ Ok next → Counts section draws → Counts next (draws + draws_of lines)
counted_from section [] next draws e h = counts_at section next (draws + 0) e (let D : ℕ → Type 0 = λ n. Counts section n in subst D (omega arith) h)
counted_from section (line ∷ lines) next draws e h =
    let one = found (λ q. behind q lines) (after section line) next e in
    let more = counted_from one.0 lines next (draws + draws_of (line ∷ [])) one.2 (goes section line one.0 draws one.1 h).counts in
    let same : (draws + draws_of (line ∷ [])) + draws_of lines ≡ draws + draws_of (line ∷ lines) = omega (arith, draws_cons line lines) in
    let D : ℕ → Type 0 = λ n. Counts next n in subst D same more

pub counted : (lines : List Line) (section : Section) → behind Start lines ≡ Ok section → Counts section (draws_of lines)
counted lines section e =
    let more = counted_from Start lines section 0 e refl in
    let same : 0 + draws_of lines ≡ draws_of lines = omega arith in
    let D : ℕ → Type 0 = λ n. Counts section n in subst D same more

-- a line without its draws has a place where the line has one
undrawn_action : (draws : ℕ) (line : Line) (next : Section) → after_action draws line ≡ Ok next → draws ≤ 2000000 → (section : Section) × (after_action draws (undrawn line) ≡ Ok section)
undrawn_action draws (Run n) next e le =
    let test : nat_le (draws + 0) 2000000 ≡ true = le-leb (draws + 0) 2000000 (omega arith) in (Actions (draws + 0), rw test refl)
undrawn_action draws Checkpoint next e le = (next, e)
undrawn_action draws (Cut seed) next e le = (next, e)
undrawn_action draws (Take channel n) next e le = (next, e)
undrawn_action draws End next e le = (next, e)
undrawn_action draws (Cores n) next e le = absurd (cc)
undrawn_action draws (Code word) next e le = absurd (cc)

undrawn_first : (some : Bool) (line : Line) (next : Section) → cond some (after_action 0 line) (Err Order) ≡ Ok next → (section : Section) × (cond some (after_action 0 (undrawn line)) (Err Order) ≡ Ok section)
undrawn_first true line next e = undrawn_action 0 line next e (omega arith)
undrawn_first false line next e = absurd (cc)

pub undrawn_goes : (section : Section) (line : Line) (next : Section) (draws : ℕ) → after section line ≡ Ok next → Counts section draws → (q : Section) × (after section (undrawn line) ≡ Ok q)
undrawn_goes Start (Cores n) next draws e h = (next, e)
undrawn_goes Start line next draws e h = absurd (cc)
undrawn_goes (Program words) (Run n) next draws e h = undrawn_first (nat_lt 0 words) (Run n) next e
undrawn_goes (Program words) (Code word) next draws e h = (next, e)
undrawn_goes (Program words) (Cores n) next draws e h = (next, e)
undrawn_goes (Program words) Checkpoint next draws e h = (next, e)
undrawn_goes (Program words) (Cut seed) next draws e h = (next, e)
undrawn_goes (Program words) (Take channel n) next draws e h = (next, e)
undrawn_goes (Program words) End next draws e h = (next, e)
undrawn_goes (Actions known) line next draws e h = undrawn_action known line next e (omega (arith, h.0, h.1))
undrawn_goes Ended line next draws e h = absurd (cc)

-- a line without its draws has no place either, or the draws are too many
abbrev pub Stops : Result Section JobCause → ℕ → JobCause → Type 0
Stops read draws cause = ((cause ≡ Order) × ((other : JobCause) × (read ≡ Err other))) ⊎ ((cause ≡ Draws) × ((next : Section) × (read ≡ Ok next)) × (2000000 < draws))

-- what a test chose, where that is a fault
refused : {A : Type 0} (b : Bool) (section : A) (cause other : JobCause) → cond b (Ok section) (Err other) ≡ Err cause → (b ≡ false) × (other ≡ cause)
refused true section cause other e = absurd (cc)
refused false section cause other e = (refl, cc)

action_stops : (draws : ℕ) (line : Line) (cause : JobCause) → after_action draws line ≡ Err cause → draws ≤ 2000000 → Stops (after_action draws (undrawn line)) (draws + draws_of (line ∷ [])) cause
action_stops draws (Run n) cause e le =
    let why = refused (nat_le (draws + n) 2000000) (Actions (draws + n)) cause Draws e in
    let many : 2000000 < draws + n = leb-false (draws + n) 2000000 why.0 in
    let test : nat_le (draws + 0) 2000000 ≡ true = le-leb (draws + 0) 2000000 (omega arith) in
    inr (sym why.1, (Actions (draws + 0), rw test refl), omega arith)
action_stops draws Checkpoint cause e le = absurd (cc)
action_stops draws (Cut seed) cause e le = absurd (cc)
action_stops draws (Take channel n) cause e le = absurd (cc)
action_stops draws End cause e le = absurd (cc)
action_stops draws (Cores n) cause e le = inl (cc, (Order, refl))
action_stops draws (Code word) cause e le = inl (cc, (Order, refl))

first_stops : (some : Bool) (line : Line) (cause : JobCause) → cond some (after_action 0 line) (Err Order) ≡ Err cause → Stops (cond some (after_action 0 (undrawn line)) (Err Order)) (0 + draws_of (line ∷ [])) cause
first_stops true line cause e = action_stops 0 line cause e (omega arith)
first_stops false line cause e = inl (cc, (Order, refl))

-- the draws before are none
with_draws : (read : Result Section JobCause) (line : Line) (draws : ℕ) (cause : JobCause) → draws ≡ 0 → Stops read (0 + draws_of (line ∷ [])) cause → Stops read (draws + draws_of (line ∷ [])) cause
with_draws read line draws cause none h = let D : ℕ → Type 0 = λ n. Stops read (n + draws_of (line ∷ [])) cause in subst D (sym none) h

pub stops : (section : Section) (line : Line) (cause : JobCause) (draws : ℕ) → after section line ≡ Err cause → Counts section draws → Stops (after section (undrawn line)) (draws + draws_of (line ∷ [])) cause
stops Start (Cores n) cause draws e h = absurd (cc)
stops Start (Run n) cause draws e h = inl (cc, (Order, refl))
stops Start (Code word) cause draws e h = inl (cc, (Order, refl))
stops Start Checkpoint cause draws e h = inl (cc, (Order, refl))
stops Start (Cut seed) cause draws e h = inl (cc, (Order, refl))
stops Start (Take channel n) cause draws e h = inl (cc, (Order, refl))
stops Start End cause draws e h = inl (cc, (Order, refl))
stops (Program words) (Code word) cause draws e h =
    let why = refused (nat_lt words 1024) (Program (words + 1)) cause Order e in inl (sym why.1, (cause, e))
stops (Program words) (Run n) cause draws e h = with_draws (after_word words (Run 0)) (Run n) draws cause h (first_stops (nat_lt 0 words) (Run n) cause e)
stops (Program words) (Cores n) cause draws e h = with_draws (after_word words (Cores n)) (Cores n) draws cause h (first_stops (nat_lt 0 words) (Cores n) cause e)
stops (Program words) Checkpoint cause draws e h = with_draws (after_word words Checkpoint) Checkpoint draws cause h (first_stops (nat_lt 0 words) Checkpoint cause e)
stops (Program words) (Cut seed) cause draws e h = with_draws (after_word words (Cut seed)) (Cut seed) draws cause h (first_stops (nat_lt 0 words) (Cut seed) cause e)
stops (Program words) (Take channel n) cause draws e h = with_draws (after_word words (Take channel n)) (Take channel n) draws cause h (first_stops (nat_lt 0 words) (Take channel n) cause e)
stops (Program words) End cause draws e h = with_draws (after_word words End) End draws cause h (first_stops (nat_lt 0 words) End cause e)
stops (Actions known) line cause draws e h =
    let N : ℕ → Type 0 = λ n. Stops (after_action known (undrawn line)) (n + draws_of (line ∷ [])) cause in
    subst N h.0 (action_stops known line cause e (omega (arith, h.0, h.1)))
stops Ended (Run n) cause draws e h = inl (cc, (Order, refl))
stops Ended (Cores n) cause draws e h = inl (cc, (Order, refl))
stops Ended (Code word) cause draws e h = inl (cc, (Order, refl))
stops Ended Checkpoint cause draws e h = inl (cc, (Order, refl))
stops Ended (Cut seed) cause draws e h = inl (cc, (Order, refl))
stops Ended (Take channel n) cause draws e h = inl (cc, (Order, refl))
stops Ended End cause draws e h = inl (cc, (Order, refl))

pub undrawn_fits : (line : Line) → InRange line → InRange (undrawn line)
undrawn_fits (Run n) h = lit< tt
undrawn_fits Checkpoint h = h
undrawn_fits (Cut seed) h = h
undrawn_fits (Take channel n) h = h
undrawn_fits End h = h
undrawn_fits (Cores n) h = h
undrawn_fits (Code word) h = h
