-- Lines that lead from the start of the form to its end are a job.
use Rattle.std.proofs.Common.{◌≡◌, ℕ, ◌+◌, ◌^◌, ◌<◌, ◌≤◌, Bool, true, false, cond, List, [], ◌∷◌, ◌++◌, length, map, Result, Ok, Err, refl, sym, ap, ◌∙◌, subst, arith, ltb-true, leb-true, ltb}
use Rattle.std.specs.List.{AllByRecursion}
use Rattle.std.proofs.lemmas.List.{append-nil}
use Rattle.job_script.specs.declared.fault.JobCause.{JobCause}
use Rattle.job_script.specs.declared.fault.JobCause.TheVariants.{Order}
use Rattle.job_script.specs.declared.line.Line.{Line}
use Rattle.job_script.specs.declared.line.Line.TheVariants.{Cores, Code, Run, Checkpoint, Cut, Take, End}
use Rattle.job_script.specs.declared.section.Section.{Section}
use Rattle.job_script.specs.declared.section.Section.TheVariants.{Start, Program, Actions, Ended}
use Rattle.job_script.specs.UntilFault.{◌>>=◌}
use Rattle.job_script.specs.Form.{after, after_word, after_action}
use Rattle.job_script.specs.Job.{words_of, actions_of, draws_of, IsAction, IsJob}
use Rattle.job_script.proofs.Ranges.{InRange}

-- actions and `end`, behind some draws
record AreActions (draws : ℕ) (lines : List Line) : Type 0 where
  actions : List Line
  form : lines ≡ actions ++ End ∷ []
  act : AllByRecursion IsAction actions
  few : draws + draws_of actions ≤ 2000000

-- the lines of a program behind some words, and the actions
record IsProgram (before : ℕ) (lines : List Line) : Type 0 where
  words : List ℕ
  actions : List Line
  form : lines ≡ map Code words ++ (actions ++ End ∷ [])
  some : 0 < before + length words
  few : before + length words ≤ 1024
  fit : AllByRecursion (λ w. w < 2 ^ 32) words
  act : AllByRecursion IsAction actions
  draws : draws_of actions ≤ 2000000

-- what the lines are that may follow in a section
Follows : Section → List Line → Type 0
Follows Start lines = (others : List Line) × (lines ≡ Cores 1 ∷ others) × IsProgram 0 others
Follows (Program words) lines = words ≤ 1024 → IsProgram words lines
Follows (Actions draws) lines = draws ≤ 2000000 → AreActions draws lines
Follows Ended lines = lines ≡ []

-- what a test chose
pub kept : {A : Type 0} (b : Bool) (read : Result A JobCause) (cause : JobCause) (y : A) → cond b read (Err cause) ≡ Ok y → (b ≡ true) × (read ≡ Ok y)
kept true read cause y h = (refl, h)
kept false read cause y h = cc

-- what was found before it was gone on with
pub found : {A B : Type 0} (f : A → Result B JobCause) (read : Result A JobCause) (y : B) → (read >>= f) ≡ Ok y → (x : A) × (read ≡ Ok x) × (f x ≡ Ok y)
found f (Err cause) y h = cc
found f (Ok x) y h = (x, refl, h)

abbrev to_section : Section → Result Section JobCause
to_section p = Ok p

at_section : (p q : Section) (others : List Line) → to_section p ≡ to_section q → Follows q others → Follows p others
at_section p q others e f = let same : q ≡ p = cc in let P : Section → Type 0 = λ r. Follows r others in subst P same f

-- an action that takes no draw
plain : (draws : ℕ) (line : Line) (others : List Line) → IsAction line → ((lines : List Line) → draws_of (line ∷ lines) ≡ draws_of lines) → AreActions draws others → AreActions draws (line ∷ others)
plain draws line others is none rest = record {
  actions = line ∷ rest.actions;
  form = ap (λ lines. line ∷ lines) rest.form;
  act = (is, rest.act);
  few = rw none rest.few;
}

action_step : (draws : ℕ) (line : Line) (next : Section) (others : List Line) → after_action draws line ≡ Ok next → InRange line → Follows next others → draws ≤ 2000000 → AreActions draws (line ∷ others)
unfolding Follows
action_step draws (Run n) next others e is f le =
    let went = kept _ (Ok (Actions (draws + n))) _ _ e in
    let rest = at_section (Actions (draws + n)) next others went.1 f (leb-true _ _ went.0) in
    record {
      actions = Run n ∷ rest.actions;
      form = ap (λ lines. Run n ∷ lines) rest.form;
      act = (is, rest.act);
      few = omega (arith, rest.few);
    }
action_step draws Checkpoint next others e is f le = plain draws Checkpoint others is (λ _. refl) (at_section (Actions draws) next others e f le)
action_step draws (Cut seed) next others e is f le = plain draws (Cut seed) others is (λ _. refl) (at_section (Actions draws) next others e f le)
action_step draws (Take channel n) next others e is f le = plain draws (Take channel n) others is (λ _. refl) (at_section (Actions draws) next others e f le)
action_step draws End next others e is f le = record {
  actions = [];
  form = ap (λ lines. End ∷ lines) (at_section Ended next others e f);
  act = tt;
  few = omega arith;
}
action_step draws (Cores n) next others e is f le = absurd (cc)
action_step draws (Code word) next others e is f le = absurd (cc)

-- the first action
first_action : (words : ℕ) (line : Line) (next : Section) (others : List Line) → cond (ltb 0 words) (after_action 0 line) (Err Order) ≡ Ok next → InRange line → Follows next others → words ≤ 1024 → IsProgram words (line ∷ others)
first_action words line next others e is f le =
    let went = kept _ (after_action 0 line) _ _ e in
    let rest = action_step 0 line next others went.1 is f (omega arith) in
    record {
      words = [];
      actions = rest.actions;
      form = rest.form;
      some = omega (arith, ltb-true _ _ went.0);
      few = omega arith;
      fit = tt;
      act = rest.act;
      draws = omega (arith, rest.few);
    }

word_step : (words : ℕ) (line : Line) (next : Section) (others : List Line) → after_word words line ≡ Ok next → InRange line → Follows next others → words ≤ 1024 → IsProgram words (line ∷ others)
unfolding Follows
word_step words (Code word) next others e is f le =
    let went = kept _ (Ok (Program (words + 1))) _ _ e in
    let rest = at_section (Program (words + 1)) next others went.1 f (omega (arith, ltb-true _ _ went.0)) in
    record {
      words = word ∷ rest.words;
      actions = rest.actions;
      form = ap (λ lines. Code word ∷ lines) rest.form;
      some = omega arith;
      few = omega (arith, rest.few);
      fit = (is, rest.fit);
      act = rest.act;
      draws = rest.draws;
    }
word_step words line next others e is f le = first_action words line next others e is f le

step : (section : Section) (line : Line) (next : Section) (others : List Line) → after section line ≡ Ok next → InRange line → Follows next others → Follows section (line ∷ others)
unfolding Follows
step Start (Cores n) next others e is f =
    (others, ap (λ (m : ℕ). Cores m ∷ others) is, at_section (Program 0) next others e f (omega arith))
step Start line next others e is f = absurd (cc)
step (Program words) line next others e is f = word_step words line next others e is f
step (Actions draws) line next others e is f = action_step draws line next others e is f
step Ended line next others e is f = absurd (cc)

-- what is gathered from a program, and from actions
words_of_program : (words : List ℕ) (rest : List Line) → words_of (map Code words ++ rest) ≡ words ++ words_of rest
words_of_program [] rest = refl
words_of_program (word ∷ words) rest = ap (λ ws. word ∷ ws) (words_of_program words rest)

actions_of_program : (words : List ℕ) (rest : List Line) → actions_of (map Code words ++ rest) ≡ actions_of rest
actions_of_program [] rest = refl
actions_of_program (word ∷ words) rest = actions_of_program words rest

draws_of_program : (words : List ℕ) (rest : List Line) → draws_of (map Code words ++ rest) ≡ draws_of rest
draws_of_program [] rest = refl
draws_of_program (word ∷ words) rest = draws_of_program words rest

record Gathers (these : List Line) : Type 0 where
  words : words_of (these ++ End ∷ []) ≡ []
  actions : actions_of (these ++ End ∷ []) ≡ these
  draws : draws_of (these ++ End ∷ []) ≡ draws_of these

gathered : (actions : List Line) → AllByRecursion IsAction actions → Gathers actions
gathered [] h = record { words = refl; actions = refl; draws = refl }
gathered (Run n ∷ lines) h =
    let rest = gathered lines h.1 in
    record { words = rest.words; actions = ap (λ ls. Run n ∷ ls) rest.actions; draws = ap (λ d. n + d) rest.draws }
gathered (Checkpoint ∷ lines) h =
    let rest = gathered lines h.1 in record { words = rest.words; actions = ap (λ ls. Checkpoint ∷ ls) rest.actions; draws = rest.draws }
gathered (Cut seed ∷ lines) h =
    let rest = gathered lines h.1 in record { words = rest.words; actions = ap (λ ls. Cut seed ∷ ls) rest.actions; draws = rest.draws }
gathered (Take channel n ∷ lines) h =
    let rest = gathered lines h.1 in record { words = rest.words; actions = ap (λ ls. Take channel n ∷ ls) rest.actions; draws = rest.draws }
gathered (Cores n ∷ lines) h = absurd h.0
gathered (Code word ∷ lines) h = absurd h.0
gathered (End ∷ lines) h = absurd h.0

-- the parts of a job are what is gathered from it
job_of_parts : (others : List Line) → IsProgram 0 others → IsJob (Cores 1 ∷ others)
job_of_parts others parts =
    let rest = gathered parts.actions parts.act in
    let words : words_of (Cores 1 ∷ others) ≡ parts.words = ap words_of parts.form ∙ words_of_program parts.words _ ∙ ap (λ ws. parts.words ++ ws) rest.words ∙ append-nil parts.words in
    let actions : actions_of (Cores 1 ∷ others) ≡ parts.actions = ap actions_of parts.form ∙ actions_of_program parts.words _ ∙ rest.actions in
    let draws : draws_of (Cores 1 ∷ others) ≡ draws_of parts.actions = ap draws_of parts.form ∙ draws_of_program parts.words _ ∙ rest.draws in
    record {
      form = rw (words, actions) (ap (λ lines. Cores 1 ∷ lines) parts.form);
      some_words = rw words (omega (arith, parts.some));
      few_words = rw words (omega (arith, parts.few));
      words = rw words parts.fit;
      actions = rw actions parts.act;
      draws = rw draws parts.draws;
    }

-- the section behind some lines
abbrev pub behind : Section → List Line → Result Section JobCause
behind section [] = Ok section
behind section (line ∷ more) = after section line >>= (λ next. behind next more)

follows : (section : Section) (lines : List Line) → behind section lines ≡ Ok Ended → AllByRecursion InRange lines → Follows section lines
unfolding Follows
follows section [] e fits = at_section section Ended [] e refl
follows section (line ∷ more) e fits =
    let one = found (λ next. behind next more) (after section line) Ended e in
    step section line one.0 more one.1 fits.0 (follows one.0 more one.2 fits.1)

pub job_of_end : (lines : List Line) → behind Start lines ≡ Ok Ended → AllByRecursion InRange lines → IsJob lines
unfolding Follows
job_of_end lines e fits =
    let parts = follows Start lines e fits in
    let P : List Line → Type 0 = λ l. IsJob l in subst P (sym parts.1) (job_of_parts parts.0 parts.2)
