-- What is found of a text is what it says, or its first fault.
use Rattle.std.proofs.Common.{◌≡◌, ◌⊎◌, inl, inr, ℕ, ◌+◌, ◌<◌, ◌≤◌, Bool, true, false, cond, List, [], ◌∷◌, ◌++◌, length, Option, Some, None, Result, Ok, Err, refl, sym, ap, ◌∙◌, subst, arith, append_assoc, nat_lt, ltb-true, ltb-false, le-ltb}
use Rattle.std.specs.List.{AllByRecursion}
use Rattle.std.specs.Str.Lines.{lines}
use Rattle.std.proofs.lemmas.List.{append-nil}
use Rattle.job_script.specs.declared.fault.JobCause.{JobCause}
use Rattle.job_script.specs.declared.fault.JobCause.TheVariants.{TooLong, Lines, Order, Draws, NoEnd}
use Rattle.job_script.specs.declared.line.Line.{Line}
use Rattle.job_script.specs.declared.section.Section.{Section}
use Rattle.job_script.specs.declared.section.Section.TheVariants.{Start, Program, Actions, Ended}
use Rattle.job_script.specs.UntilFault.{◌>>=◌}
use Rattle.job_script.specs.Text.{fields_of}
use Rattle.job_script.specs.Lines.{said_by}
use Rattle.job_script.specs.Form.{after}
use Rattle.job_script.specs.Job.{draws_of}
use Rattle.job_script.specs.Grammar.{Verdict, Good, Faulty, after_said, line_at, with_line, unless_fault, at_end, verdict_from, verdict}
use Rattle.job_script.specs.Language.{Say, none, skips, says, IsJobText, IsBeginning, undrawn, IsReadTo, IsFirstFault, too_long, many_lines, unread, misplaced, many_draws, no_end}
use Rattle.job_script.proofs.Ranges.{InRange, said_in_range}
use Rattle.job_script.proofs.Order.{found, behind, job_of_end}
use Rattle.job_script.proofs.Sections.{then_behind, all_append, beginning, behind_job, no_beginning, section_of_beginning}
use Rattle.job_script.proofs.Misplaced.{Stops, stops, goes, counted, draws_append, undrawn_goes, undrawn_fits}
use Rattle.job_script.proofs.Progress.{with_front, nothing, not_ended, verdict_is, verdict_long}

say_fits : {texts : List (List ℕ)} {said : List Line} → Say texts said → AllByRecursion InRange said
say_fits none = tt
say_fits (skips h rest) = say_fits rest
say_fits (says {text = text} {line = line} h rest) = (said_in_range (fields_of text) (Some line) h, say_fits rest)

-- A line that is read.

record Reads (n : ℕ) (section : Section) (text : List ℕ) (read : Option Line × Section) : Type 0 where
  few : n ≤ 4096
  said : Option Line
  meaning : said_by (fields_of text) ≡ Ok said
  goes_on : after_said section said ≡ Ok read

limited : (b : Bool) (read : Result (Option Line) JobCause) (cause : JobCause) (said : Option Line) → cond b (Err cause) read ≡ Ok said → (b ≡ false) × (read ≡ Ok said)
limited true read cause said h = absurd (cc)
limited false read cause said h = (refl, h)

line_reads : (n : ℕ) (section : Section) (text : List ℕ) (read : Option Line × Section) → line_at n section text ≡ Ok read → Reads n section text read
unfolding line_at
line_reads n section text read h =
    let one = found (after_said section) (cond (nat_lt 4096 n) (Err Lines) (said_by (fields_of text))) read h in
    let two = limited (nat_lt 4096 n) (said_by (fields_of text)) Lines one.0 one.1 in
    record { few = ltb-false 4096 n two.0; said = one.0; meaning = two.1; goes_on = one.2 }

-- what stands before a list, where a line said something
joined : Option Line → List Line → List Line
joined None others = others
joined (Some line) others = line ∷ others

unfaulted : {A : Type 0} (n : ℕ) (read : Result A JobCause) (go : A → Verdict) (said : List Line) → unless_fault n read go ≡ Good said → (x : A) × (read ≡ Ok x) × (go x ≡ Good said)
unfaulted n (Ok x) go said h = (x, refl, h)
unfaulted n (Err cause) go said h = absurd (cc)

unjoined : (said : Option Line) (rest : Verdict) (all : List Line) → with_line said rest ≡ Good all → (others : List Line) × (rest ≡ Good others) × (joined said others ≡ all)
unfolding joined
unjoined None (Good others) all h = (others, refl, cc)
unjoined (Some line) (Good others) all h = (others, refl, cc)
unjoined None (Faulty n cause) all h = absurd (cc)
unjoined (Some line) (Faulty n cause) all h = absurd (cc)

-- A text that is a job.

record GoodFrom (n : ℕ) (section : Section) (texts : List (List ℕ)) (said : List Line) : Type 0 where
  say : Say texts said
  ends : behind section said ≡ Ok Ended
  few : n ≤ 4097 → n + length texts ≤ 4097

good_end : (n : ℕ) (section : Section) (said : List Line) → at_end n section ≡ Good said → GoodFrom n section [] said
good_end n Ended said h =
    let same : [] ≡ said = cc in
    let P : List Line → Type 0 = λ l. GoodFrom n Ended [] l in subst P same (record { say = none; ends = refl; few = λ le. omega arith })
good_end n Start said h = absurd (cc)
good_end n (Program words) said h = absurd (cc)
good_end n (Actions draws) said h = absurd (cc)

good_line : (n : ℕ) (section : Section) (text : List ℕ) (texts : List (List ℕ)) (said : Option Line) (read : Option Line × Section) (others : List Line) → n ≤ 4096
    → said_by (fields_of text) ≡ Ok said → after_said section said ≡ Ok read → GoodFrom (n + 1) read.1 texts others → GoodFrom n section (text ∷ texts) (joined read.0 others)
unfolding joined
good_line n section text texts None read others le h g rest =
    let e : (None, section) ≡ read = cc in
    let P : Option Line × Section → Type 0 = λ r. GoodFrom (n + 1) r.1 texts others → GoodFrom n section (text ∷ texts) (joined r.0 others) in
    subst P e (λ more. record { say = skips h more.say; ends = more.ends; few = λ _. omega (arith, more.few (omega arith)) }) rest
good_line n section text texts (Some line) read others le h g rest =
    let next = found (λ next. Ok (Some line, next)) (after section line) read g in
    let e : (Some line, next.0) ≡ read = cc in
    let P : Option Line × Section → Type 0 = λ r. GoodFrom (n + 1) r.1 texts others → GoodFrom n section (text ∷ texts) (joined r.0 others) in
    subst P e (λ more. record {
      say = says h more.say;
      ends = rw next.1 more.ends;
      few = λ _. omega (arith, more.few (omega arith));
    }) rest

good_from : (n : ℕ) (section : Section) (texts : List (List ℕ)) (said : List Line) → verdict_from n section texts ≡ Good said → GoodFrom n section texts said
unfolding verdict_from
good_from n section [] said h = good_end n section said h
good_from n section (text ∷ texts) said h =
    let one = unfaulted n (line_at n section text) (λ read. with_line read.0 (verdict_from (n + 1) read.1 texts)) said h in
    let two = unjoined one.0.0 (verdict_from (n + 1) one.0.1 texts) said one.2 in
    let line = line_reads n section text one.0 one.1 in
    let P : List Line → Type 0 = λ l. GoodFrom n section (text ∷ texts) l in
    subst P two.2 (good_line n section text texts line.said one.0 two.0 line.few line.meaning line.goes_on (good_from (n + 1) one.0.1 texts two.0 two.1))

short : (b : Bool) (said : Verdict) (all : List Line) → cond b (Faulty 0 TooLong) said ≡ Good all → (b ≡ false) × (said ≡ Good all)
short true said all h = absurd (cc)
short false said all h = (refl, h)

pub job_text : (text : List ℕ) (said : List Line) → verdict text ≡ Good said → IsJobText text said
unfolding verdict
job_text text said h =
    let one = short (nat_lt 65536 (length text)) (verdict_from 1 Start (lines text)) said h in
    let good = good_from 1 Start (lines text) said one.1 in
    record {
      bytes = ltb-false 65536 (length text) one.0;
      few_lines = omega (arith, good.few (omega arith));
      says = good.say;
      job = job_of_end said good.ends (say_fits good.say);
    }

-- A text that is none.

StopsAt : ℕ → Section → List (List ℕ) → JobCause → Type 0
StopsAt n at [] cause = (cause ≡ NoEnd) × (at ≡ Ended → ⊥)
StopsAt n at (text ∷ texts) cause = line_at n at text ≡ Err cause

record FaultFrom (n : ℕ) (front : List Line) (texts : List (List ℕ)) (m : ℕ) (cause : JobCause) : Type 0 where
  before : List (List ℕ)
  left : List (List ℕ)
  said : List Line
  at : Section
  split : texts ≡ before ++ left
  number : m ≡ n + length before
  few : m ≤ 4097
  say : Say before said
  reached : behind Start (front ++ said) ≡ Ok at
  stop : StopsAt m at left cause

record Unended (n : ℕ) (section : Section) (m : ℕ) (cause : JobCause) : Type 0 where
  number : n ≡ m
  cause_is : cause ≡ NoEnd
  not : section ≡ Ended → ⊥

unended : (n : ℕ) (section : Section) (m : ℕ) (cause : JobCause) → at_end n section ≡ Faulty m cause → Unended n section m cause
unended n Ended m cause h = absurd (cc)
unended n Start m cause h = record { number = cc; cause_is = cc; not = λ e. cc }
unended n (Program words) m cause h = record { number = cc; cause_is = cc; not = λ e. cc }
unended n (Actions draws) m cause h = record { number = cc; cause_is = cc; not = λ e. cc }

fault_end : (n : ℕ) (section : Section) (front : List Line) (m : ℕ) (cause : JobCause) → at_end n section ≡ Faulty m cause → n ≤ 4097 → behind Start front ≡ Ok section → FaultFrom n front [] m cause
unfolding StopsAt
fault_end n section front m cause h few e =
    let un = unended n section m cause h in
    record {
      before = [];
      left = [];
      said = [];
      at = section;
      split = refl;
      number = omega (arith, un.number);
      few = omega (arith, un.number);
      say = none;
      reached = ap (λ ls. behind Start ls) (append-nil front) ∙ e;
      stop = (un.cause_is, un.not);
    }

faulty_rest : (said : Option Line) (rest : Verdict) (m : ℕ) (cause : JobCause) → with_line said rest ≡ Faulty m cause → rest ≡ Faulty m cause
faulty_rest None (Good others) m cause h = absurd (cc)
faulty_rest (Some line) (Good others) m cause h = absurd (cc)
faulty_rest None (Faulty n why) m cause h = h
faulty_rest (Some line) (Faulty n why) m cause h = h

-- what is known of the lines that follow
FaultsAfter : ℕ → List (List ℕ) → ℕ → JobCause → Type 0
FaultsAfter n texts m cause = (section : Section) (front : List Line) → verdict_from n section texts ≡ Faulty m cause → n ≤ 4097 → behind Start front ≡ Ok section → FaultFrom n front texts m cause

fault_later : (n : ℕ) (section : Section) (front : List Line) (text : List ℕ) (texts : List (List ℕ)) (m : ℕ) (cause : JobCause) (said : Option Line) (read : Option Line × Section) → n ≤ 4096
    → said_by (fields_of text) ≡ Ok said → after_said section said ≡ Ok read → behind Start front ≡ Ok section → verdict_from (n + 1) read.1 texts ≡ Faulty m cause → FaultsAfter (n + 1) texts m cause
    → FaultFrom n front (text ∷ texts) m cause
unfolding FaultsAfter
fault_later n section front text texts m cause None read le h g e v later =
    let same : read ≡ (None, section) = cc in
    let P : Option Line × Section → Type 0 = λ r. verdict_from (n + 1) r.1 texts ≡ Faulty m cause in
    let f = later section front (subst P same v) (omega arith) e in
    record {
      before = text ∷ f.before;
      left = f.left;
      said = f.said;
      at = f.at;
      split = ap (λ ts. text ∷ ts) f.split;
      number = omega (arith, f.number);
      few = f.few;
      say = skips h f.say;
      reached = f.reached;
      stop = f.stop;
    }
fault_later n section front text texts m cause (Some line) read le h g e v later =
    let next = found (λ next. Ok (Some line, next)) (after section line) read g in
    let same : read ≡ (Some line, next.0) = cc in
    let P : Option Line × Section → Type 0 = λ r. verdict_from (n + 1) r.1 texts ≡ Faulty m cause in
    let on : behind Start (front ++ line ∷ []) ≡ Ok next.0 = then_behind Start front (line ∷ []) section e ∙ ap (λ read. read >>= (λ q. behind q [])) next.1 in
    let f = later next.0 (front ++ line ∷ []) (subst P same v) (omega arith) on in
    record {
      before = text ∷ f.before;
      left = f.left;
      said = line ∷ f.said;
      at = f.at;
      split = ap (λ ts. text ∷ ts) f.split;
      number = omega (arith, f.number);
      few = f.few;
      say = says h f.say;
      reached = sym (ap (λ ls. behind Start ls) (append_assoc front (line ∷ []) f.said)) ∙ f.reached;
      stop = f.stop;
    }

fault_line : (n : ℕ) (section : Section) (front : List Line) (text : List ℕ) (texts : List (List ℕ)) (m : ℕ) (cause : JobCause) (read : Result (Option Line × Section) JobCause) → line_at n section text ≡ read
    → unless_fault n read (λ r. with_line r.0 (verdict_from (n + 1) r.1 texts)) ≡ Faulty m cause → n ≤ 4097 → behind Start front ≡ Ok section → FaultsAfter (n + 1) texts m cause → FaultFrom n front (text ∷ texts) m cause
unfolding StopsAt
fault_line n section front text texts m cause (Err why) is h few e later =
    let number : n ≡ m = cc in
    let reason : why ≡ cause = cc in
    let N : ℕ → Type 0 = λ k. line_at k section text ≡ Err cause in
    record {
      before = [];
      left = text ∷ texts;
      said = [];
      at = section;
      split = refl;
      number = omega (arith, number);
      few = omega (arith, number);
      say = none;
      reached = ap (λ ls. behind Start ls) (append-nil front) ∙ e;
      stop = subst N number (is ∙ ap (λ c. Err c) reason);
    }
fault_line n section front text texts m cause (Ok read) is h few e later =
    let line = line_reads n section text read is in
    fault_later n section front text texts m cause line.said read line.few line.meaning line.goes_on e (faulty_rest read.0 (verdict_from (n + 1) read.1 texts) m cause h) later

fault_from : (n : ℕ) (texts : List (List ℕ)) (m : ℕ) (cause : JobCause) → FaultsAfter n texts m cause
unfolding FaultsAfter verdict_from
fault_from n [] m cause = λ section front h few e. fault_end n section front m cause h few e
fault_from n (text ∷ texts) m cause = λ section front h few e. fault_line n section front text texts m cause (line_at n section text) refl h few e (fault_from (n + 1) texts m cause)

-- Why a line is at fault.

abbrev said_then : Line → Section → Result (Option Line × Section) JobCause
said_then line next = Ok (Some line, next)

line_stopped : (read : Result Section JobCause) (line : Line) (cause : JobCause) → (read >>= said_then line) ≡ Err cause → read ≡ Err cause
line_stopped (Ok next) line cause h = absurd (cc)
line_stopped (Err why) line cause h = let same : why ≡ cause = cc in ap (λ c. Err c) same

-- the line's own fault, or that of its section
abbrev LineStops : Section → Result (Option Line) JobCause → JobCause → Type 0
LineStops section read cause = (read ≡ Err cause) ⊎ ((line : Line) × (read ≡ Ok (Some line)) × (after section line ≡ Err cause))

line_faults : (b : Bool) (read : Result (Option Line) JobCause) (section : Section) (cause : JobCause) → (cond b (Err Lines) read >>= after_said section) ≡ Err cause
    → ((b ≡ true) × (cause ≡ Lines)) ⊎ ((b ≡ false) × LineStops section read cause)
line_faults true read section cause h = inl (refl, cc)
line_faults false (Err why) section cause h = let same : why ≡ cause = cc in inr (refl, inl (ap (λ c. Err c) same))
line_faults false (Ok None) section cause h = absurd (cc)
line_faults false (Ok (Some line)) section cause h = inr (refl, inr (line, refl, line_stopped (after section line) line cause h))

why_stopped : (n : ℕ) (section : Section) (text : List ℕ) (cause : JobCause) → line_at n section text ≡ Err cause
    → ((nat_lt 4096 n ≡ true) × (cause ≡ Lines)) ⊎ ((nat_lt 4096 n ≡ false) × LineStops section (said_by (fields_of text)) cause)
unfolding line_at
why_stopped n section text cause h = line_faults (nat_lt 4096 n) (said_by (fields_of text)) section cause h

fault_of_line : (text : List ℕ) (n : ℕ) (cause : JobCause) (said : List Line) (at : Section) (one : List ℕ) (more : List (List ℕ)) (line : Line) → n ≤ 4096 → IsReadTo text n said (one ∷ more)
    → AllByRecursion InRange said → behind Start said ≡ Ok at → said_by (fields_of one) ≡ Ok (Some line) → Stops (after at (undrawn line)) (draws_of said + draws_of (line ∷ [])) cause → IsFirstFault text n cause
fault_of_line text n cause said at one more line few read fits reached h why = elim why [
  | inl order ↦
      (let C : JobCause → Type 0 = λ c. IsFirstFault text n c in
      subst C (sym order.0) (misplaced few read h (no_beginning said at (undrawn line) order.1.0 reached order.1.1)))
  | inr draws ↦
      (let C : JobCause → Type 0 = λ c. IsFirstFault text n c in
      let on : behind Start (said ++ undrawn line ∷ []) ≡ Ok draws.1.0 = then_behind Start said (undrawn line ∷ []) at reached ∙ ap (λ read. read >>= (λ q. behind q [])) draws.1.1 in
      let fit : AllByRecursion InRange (undrawn line ∷ []) = (undrawn_fits line (said_in_range (fields_of one) (Some line) h), tt) in
      subst C (sym draws.0) (many_draws few read h (beginning (said ++ undrawn line ∷ []) draws.1.0 on (all_append InRange said (undrawn line ∷ []) fits fit)) (omega (arith, draws.2, draws_append said line))))
]

fault_of_stop : (text : List ℕ) (n : ℕ) (cause : JobCause) (said : List Line) (at : Section) (left : List (List ℕ)) → n ≤ 4097 → IsReadTo text n said left
    → AllByRecursion InRange said → behind Start said ≡ Ok at → StopsAt n at left cause → IsFirstFault text n cause
unfolding StopsAt
fault_of_stop text n cause said at [] few read fits reached stop =
    let C : JobCause → Type 0 = λ c. IsFirstFault text n c in
    subst C (sym stop.0) (no_end read (λ job. stop.1 (let done : behind Start said ≡ Ok Ended = behind_job said job in cc)))
fault_of_stop text n cause said at (one ∷ more) few read fits reached stop = elim (why_stopped n at one cause stop) [
  | inl last ↦
      (let C : JobCause → Type 0 = λ c. IsFirstFault text n c in
      let number : n ≡ 4097 = omega (arith, ltb-true 4096 n last.0) in
      let N : ℕ → Type 0 = λ k. IsReadTo text k said (one ∷ more) → IsFirstFault text k Lines in
      subst C (sym last.1) (subst N (sym number) (λ r. many_lines r) read))
  | inr line ↦ elim line.1 [
    | inl own ↦ unread (ltb-false 4096 n line.0) read own
    | inr placing ↦ fault_of_line text n cause said at one more placing.0 (ltb-false 4096 n line.0) read fits reached placing.1 (stops at placing.0 cause (draws_of said) placing.2 (counted said at reached))
  ]
]

fault_of_short : (text : List ℕ) (n : ℕ) (cause : JobCause) → length text ≤ 65536 → FaultFrom 1 [] (lines text) n cause → IsFirstFault text n cause
fault_of_short text n cause bytes f =
    let read : IsReadTo text n f.said f.left = record {
      bytes = bytes;
      before = f.before;
      split = f.split;
      number = omega (arith, f.number);
      few_lines = omega (arith, f.number, f.few);
      says = f.say;
      begins = beginning f.said f.at f.reached (say_fits f.say);
    } in
    fault_of_stop text n cause f.said f.at f.left f.few read (say_fits f.say) f.reached f.stop

fault_of_text : (text : List ℕ) (n : ℕ) (cause : JobCause) (long : Bool) → nat_lt 65536 (length text) ≡ long → cond long (Faulty 0 TooLong) (verdict_from 1 Start (lines text)) ≡ Faulty n cause → IsFirstFault text n cause
unfolding FaultsAfter
fault_of_text text n cause true is h =
    let number : 0 ≡ n = cc in
    let reason : TooLong ≡ cause = cc in
    let C : JobCause → Type 0 = λ c. IsFirstFault text n c in
    let N : ℕ → Type 0 = λ k. IsFirstFault text k TooLong in
    subst C reason (subst N number (too_long (ltb-true 65536 (length text) is)))
fault_of_text text n cause false is h =
    fault_of_short text n cause (ltb-false 65536 (length text) is) (fault_from 1 (lines text) n cause Start [] h (omega arith) refl)

pub first_fault : (text : List ℕ) (n : ℕ) (cause : JobCause) → verdict text ≡ Faulty n cause → IsFirstFault text n cause
unfolding verdict
first_fault text n cause h = fault_of_text text n cause (nat_lt 65536 (length text)) refl h

-- The other way: what is found after lines that say something.

with_none : (rest : Verdict) → with_front [] rest ≡ rest
with_none (Good others) = refl
with_none (Faulty n cause) = refl

with_more : (line : Line) (said : List Line) (rest : Verdict) → with_line (Some line) (with_front said rest) ≡ with_front (line ∷ said) rest
with_more line said (Good others) = refl
with_more line said (Faulty n cause) = refl

skips_at : (n : ℕ) (section : Section) (text : List ℕ) → n ≤ 4096 → said_by (fields_of text) ≡ Ok None → line_at n section text ≡ Ok (None, section)
unfolding line_at
skips_at n section text few h = let test : nat_lt 4096 n ≡ false = le-ltb 4096 n few in rw (test, h) refl

says_at : (n : ℕ) (section : Section) (text : List ℕ) (line : Line) (next : Section) → n ≤ 4096 → said_by (fields_of text) ≡ Ok (Some line) → after section line ≡ Ok next → line_at n section text ≡ Ok (Some line, next)
unfolding line_at
says_at n section text line next few h g = let test : nat_lt 4096 n ≡ false = le-ltb 4096 n few in rw (test, h, g) refl

continues : (n : ℕ) (section : Section) {before : List (List ℕ)} {said : List Line} (at : Section) (left : List (List ℕ)) → Say before said → behind section said ≡ Ok at → n + length before ≤ 4097
    → verdict_from n section (before ++ left) ≡ with_front said (verdict_from (n + length before) at left)
unfolding verdict_from
continues n section at left none e few =
    let same : section ≡ at = cc in
    let number : n ≡ n + 0 = omega arith in
    let P : Section → Type 0 = λ p. verdict_from n section left ≡ verdict_from n p left in
    let N : ℕ → Type 0 = λ k. verdict_from n section left ≡ verdict_from k at left in
    subst N number (subst P same refl) ∙ sym (with_none (verdict_from (n + 0) at left))
continues n section at left (skips {text = text} {texts = before} {said = said} h rest) e few =
    let line = skips_at n section text (omega arith) h in
    let more = continues (n + 1) section at left rest e (omega arith) in
    let number : (n + 1) + length before ≡ n + length (text ∷ before) = omega arith in
    let N : ℕ → Type 0 = λ k. verdict_from (n + 1) section (before ++ left) ≡ with_front said (verdict_from k at left) in
    rw line (nothing (verdict_from (n + 1) section (before ++ left)) ∙ subst N number more)
continues n section at left (says {text = text} {line = it} {texts = before} {said = said} h rest) e few =
    let one = found (λ next. behind next said) (after section it) at e in
    let line = says_at n section text it one.0 (omega arith) h one.1 in
    let more = continues (n + 1) one.0 at left rest one.2 (omega arith) in
    let number : (n + 1) + length before ≡ n + length (text ∷ before) = omega arith in
    let N : ℕ → Type 0 = λ k. verdict_from (n + 1) one.0 (before ++ left) ≡ with_front said (verdict_from k at left) in
    rw line (ap (λ v. with_line (Some it) v) (subst N number more) ∙ with_more it said (verdict_from (n + length (text ∷ before)) at left))

pub verdict_of_job : (text : List ℕ) (said : List Line) → IsJobText text said → verdict text ≡ Good said
unfolding verdict_from
verdict_of_job text said is =
    let all = continues 1 Start Ended [] is.says (behind_job said is.job) (omega (arith, is.few_lines)) in
    verdict_is text (Good said) is.bytes (ap (λ ts. verdict_from 1 Start ts) (sym (append-nil (lines text))) ∙ all ∙ ap Good (append-nil said))

-- A text is read to a line: what is found there is the text's.
record ReadTo (text : List ℕ) (n : ℕ) (said : List Line) (left : List (List ℕ)) : Type 0 where
  at : Section
  reached : behind Start said ≡ Ok at
  fits : AllByRecursion InRange said
  found_there : (cause : JobCause) → verdict_from n at left ≡ Faulty n cause → verdict text ≡ Faulty n cause

read_to : (text : List ℕ) (n : ℕ) (said : List Line) (left : List (List ℕ)) → IsReadTo text n said left → ReadTo text n said left
read_to text n said left is =
    let section = section_of_beginning said is.begins in
    let all = continues 1 Start section.0 left is.says section.1 (omega (arith, is.few_lines)) in
    let number : 1 + length is.before ≡ n = omega (arith, is.number) in
    let N : ℕ → Type 0 = λ k. verdict_from 1 Start (is.before ++ left) ≡ with_front said (verdict_from k section.0 left) in
    let whole : verdict_from 1 Start (lines text) ≡ with_front said (verdict_from n section.0 left) = ap (λ ts. verdict_from 1 Start ts) is.split ∙ subst N number all in
    record {
      at = section.0;
      reached = section.1;
      fits = say_fits is.says;
      found_there = λ cause h. verdict_is text (Faulty n cause) is.bytes (whole ∙ ap (λ v. with_front said v) h);
    }

fault_at : (n : ℕ) (at : Section) (one : List ℕ) (more : List (List ℕ)) (cause : JobCause) → line_at n at one ≡ Err cause → verdict_from n at (one ∷ more) ≡ Faulty n cause
unfolding verdict_from
fault_at n at one more cause h = rw h refl

late : (at : Section) (one : List ℕ) → line_at 4097 at one ≡ Err Lines
unfolding line_at
late at one = refl

own_fault : (n : ℕ) (at : Section) (one : List ℕ) (cause : JobCause) → n ≤ 4096 → said_by (fields_of one) ≡ Err cause → line_at n at one ≡ Err cause
unfolding line_at
own_fault n at one cause few h = let test : nat_lt 4096 n ≡ false = le-ltb 4096 n few in rw (test, h) refl

order_fault : (n : ℕ) (at : Section) (one : List ℕ) (line : Line) (cause : JobCause) → n ≤ 4096 → said_by (fields_of one) ≡ Ok (Some line) → after at line ≡ Err cause → line_at n at one ≡ Err cause
unfolding line_at
order_fault n at one line cause few h g = let test : nat_lt 4096 n ≡ false = le-ltb 4096 n few in rw (test, h, g) refl

-- a line that has no place, even without its draws
order_at : (said : List Line) (at : Section) (line : Line) (read : Result Section JobCause) → after at line ≡ read → behind Start said ≡ Ok at → AllByRecursion InRange said → InRange line
    → ¬ IsBeginning (said ++ undrawn line ∷ []) → read ≡ Err Order
order_at said at line (Ok next) is reached fits fit out =
    let on = undrawn_goes at line next (draws_of said) is (counted said at reached) in
    let there : behind Start (said ++ undrawn line ∷ []) ≡ Ok on.0 = then_behind Start said (undrawn line ∷ []) at reached ∙ ap (λ read. read >>= (λ q. behind q [])) on.1 in
    absurd (out (beginning (said ++ undrawn line ∷ []) on.0 there (all_append InRange said (undrawn line ∷ []) fits (undrawn_fits line fit, tt))))
order_at said at line (Err cause) is reached fits fit out = elim (stops at line cause (draws_of said) is (counted said at reached)) [
  | inl order ↦ ap (λ c. Err c) order.0
  | inr draws ↦
      (let there : behind Start (said ++ undrawn line ∷ []) ≡ Ok draws.1.0 = then_behind Start said (undrawn line ∷ []) at reached ∙ ap (λ read. read >>= (λ q. behind q [])) draws.1.1 in
      absurd (out (beginning (said ++ undrawn line ∷ []) draws.1.0 there (all_append InRange said (undrawn line ∷ []) fits (undrawn_fits line fit, tt)))))
]

-- a line with too many draws
draws_at : (said : List Line) (at : Section) (line : Line) (read : Result Section JobCause) → after at line ≡ read → behind Start said ≡ Ok at
    → IsBeginning (said ++ undrawn line ∷ []) → 2000000 < draws_of (said ++ line ∷ []) → read ≡ Err Draws
draws_at said at line (Ok next) is reached begins many =
    let few = (goes at line next (draws_of said) is (counted said at reached)).few in absurd (omega (arith, few, many, draws_append said line))
draws_at said at line (Err cause) is reached begins many = elim (stops at line cause (draws_of said) is (counted said at reached)) [
  | inl order ↦ absurd (no_beginning said at (undrawn line) order.1.0 reached order.1.1 begins)
  | inr draws ↦ ap (λ c. Err c) draws.0
]

pub verdict_of_fault : {text : List ℕ} {n : ℕ} {cause : JobCause} → IsFirstFault text n cause → verdict text ≡ Faulty n cause
unfolding verdict_from
verdict_of_fault {text = text} (too_long long) = verdict_long text long
verdict_of_fault (many_lines {said = said} {at = one} {more = more} read) =
    let to = read_to _ 4097 said (one ∷ more) read in
    to.found_there Lines (fault_at 4097 to.at one more Lines (late to.at one))
verdict_of_fault (unread {n = n} {cause = cause} {said = said} {at = one} {more = more} few read own) =
    let to = read_to _ n said (one ∷ more) read in
    to.found_there cause (fault_at n to.at one more cause (own_fault n to.at one cause few own))
verdict_of_fault (misplaced {n = n} {said = said} {at = one} {more = more} {line = line} few read own out) =
    let to = read_to _ n said (one ∷ more) read in
    let stop = order_at said to.at line (after to.at line) refl to.reached to.fits (said_in_range (fields_of one) (Some line) own) out in
    to.found_there Order (fault_at n to.at one more Order (order_fault n to.at one line Order few own stop))
verdict_of_fault (many_draws {n = n} {said = said} {at = one} {more = more} {line = line} few read own begins many) =
    let to = read_to _ n said (one ∷ more) read in
    let stop = draws_at said to.at line (after to.at line) refl to.reached begins many in
    to.found_there Draws (fault_at n to.at one more Draws (order_fault n to.at one line Draws few own stop))
verdict_of_fault (no_end {n = n} {said = said} read undone) =
    let to = read_to _ n said [] read in
    to.found_there NoEnd (not_ended n to.at (λ e. undone (job_of_end said (to.reached ∙ ap (λ p. Ok p) e) to.fits)))
