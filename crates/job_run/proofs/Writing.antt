-- Lines that are written one after another.
use Rattle.std.proofs.Common.{Bool, true, false, if◌then◌else◌, Result, Ok, Err, IfOk, IfErr, OnOk, ◌≡◌, ℕ, suc, ◌+◌, ◌-◌, ◌<◌, ◌≤◌, List, [], ◌∷◌, ◌++◌, length, Option, Some, None, drop, slice_index_or, add-one, append_assoc, append-nil, ap, sym, refl, subst, ◌∙◌, arith}
use Rattle.std.specs.Io.KnownBytes.{append_known}
use Rattle.pmem_model.specs.Memory as memory
use Rattle.sls_base.specs.declared.entry.Entry.{Entry}
use Rattle.sls_kernel.specs.Plain.{World, accept, offered, is_offered}
use Rattle.sls_kernel.specs.Shows.{Shows, StandsFor, durable_words}
use Rattle.sls_kernel.specs.declared.machine.Machine.{Machine}
use Rattle.job_run.specs.declared.lines.BreakCause.{BreakCause}
use Rattle.job_run.specs.declared.report.Printed.{Printed}
use Rattle.job_run.specs.declared.report.Printed.TheVariants.{Out, Dry}
use Rattle.std.proofs.Math.Seq.{drop-cons}
use Rattle.std.proofs.lemmas.List.{drop_all}
use Rattle.job_script.specs.declared.line.Line.{Line}
use Rattle.job_script.specs.declared.line.Line.TheVariants.{Cores}
use Rattle.job_run.specs.Report.{line_text, text_of, told, went, take_prints, taken, prints_of, after, all_prints, world_after}
use Rattle.job_run.specs.Ends.{BreaksAt, Ran, PartWritten}

pub text_of-append : (xs ys : List (Printed × World)) → text_of (xs ++ ys) ≡ text_of xs ++ text_of ys
text_of-append [] ys = refl
text_of-append (x ∷ xs) ys = ap (λ (t : List ℕ). line_text x.0 ++ t) (text_of-append xs ys) ∙ sym (append_assoc (line_text x.0) (text_of xs) (text_of ys))

pub append_known-append : (old : Option (List ℕ)) (a b : List ℕ) → append_known (append_known old a) b ≡ append_known old (a ++ b)
append_known-append None a b = refl
append_known-append (Some xs) a b = ap Some (append_assoc xs a b)

pub append_known-nil : (old : Option (List ℕ)) → old ≡ append_known old []
append_known-nil None = refl
append_known-nil (Some xs) = ap Some (sym (append-nil xs))

-- one more line
pub one_more_line : (old mid new : Option (List ℕ)) (printed : List (Printed × World)) (line : Printed) (w : World) → mid ≡ append_known old (text_of printed) → new ≡ append_known mid (line_text line) → new ≡ append_known old (text_of (printed ++ (line, w) ∷ []))
one_more_line old mid new printed line w before now =
    now ∙ (ap (λ (o : Option (List ℕ)). append_known o (line_text line)) before ∙ (append_known-append old (text_of printed) (line_text line)
    ∙ ap (append_known old) (ap (λ (t : List ℕ). text_of printed ++ t) (sym (append-nil (line_text line))) ∙ sym (text_of-append printed ((line, w) ∷ [])))))

-- so far: these lines were written, and what is left prints the others
pub record SoFar (old mid : Option (List ℕ)) (machine : Machine) (left : World → List (Printed × World)) (behind : World → World) (prints : List (Printed × World)) (end : World) : Type 0 where
  pub now : World
  pub printed : List (Printed × World)
  pub split : prints ≡ printed ++ left now
  pub ends : end ≡ behind now
  pub written : mid ≡ append_known old (text_of printed)
  pub shows : Shows machine now

-- Taking entries.

pub take_some : (n channel : ℕ) (now : World) (entry : Entry) → Some entry ≡ offered now channel
    → (take_prints (suc n) channel now ≡ (Out channel entry, accept now channel) ∷ take_prints n channel (accept now channel)) × (taken (suc n) channel now ≡ taken n channel (accept now channel))
take_some n channel now entry e =
    subst (λ (o : Option Entry). (told channel o now (accept now channel) (take_prints n channel (accept now channel)) ≡ (Out channel entry, accept now channel) ∷ take_prints n channel (accept now channel))
    × (went o now (taken n channel (accept now channel)) ≡ taken n channel (accept now channel))) e (refl, refl)

pub take_none : (n channel : ℕ) (now : World) → None ≡ offered now channel
    → (take_prints (suc n) channel now ≡ (Dry channel, now) ∷ []) × (taken (suc n) channel now ≡ now)
take_none n channel now e =
    subst (λ (o : Option Entry). (told channel o now (accept now channel) (take_prints n channel (accept now channel)) ≡ (Dry channel, now) ∷ [])
    × (went o now (taken n channel (accept now channel)) ≡ now)) e (refl, refl)

-- the lines of what is left, where the first is known
pub next_line : (prints printed left rest : List (Printed × World)) (x : Printed × World) → prints ≡ printed ++ left → left ≡ x ∷ rest → prints ≡ printed ++ x ∷ rest
next_line prints printed left rest x split first = split ∙ ap (λ (l : List (Printed × World)). printed ++ l) first

pub shift_line : (printed rest : List (Printed × World)) (x : Printed × World) → printed ++ x ∷ rest ≡ (printed ++ x ∷ []) ++ rest
shift_line printed rest x = sym (append_assoc printed (x ∷ []) rest)

abbrev pub Taking : Option (List ℕ) → Option (List ℕ) → Machine → ℕ → ℕ → ℕ → World → Type 0
Taking old mid machine count left channel w = SoFar old mid machine (take_prints left channel) (taken left channel) (take_prints count channel w) (taken count channel w)

pub take_goes_on : (old mid new : Option (List ℕ)) (m n : Machine) (count left next channel : ℕ) (w : World) (entry : Entry) (t : Taking old mid m count left channel w) → left ≡ suc next → Some entry ≡ offered t.now channel → Shows n (accept t.now channel)
    → new ≡ append_known mid (line_text (Out channel entry)) → Taking old new n count next channel w
take_goes_on old mid new m n count left next channel w entry t e given shows written =
    let more = take_some next channel t.now entry given in
    let x : Printed × World = (Out channel entry, accept t.now channel) in
    record {
      now = accept t.now channel;
      printed = t.printed ++ x ∷ [];
      split = next_line (take_prints count channel w) t.printed (take_prints left channel t.now) (take_prints next channel (accept t.now channel)) x t.split (ap (λ (k : ℕ). take_prints k channel t.now) e ∙ more.0) ∙ shift_line t.printed (take_prints next channel (accept t.now channel)) x;
      ends = t.ends ∙ (ap (λ (k : ℕ). taken k channel t.now) e ∙ more.1);
      written = one_more_line old mid new t.printed (Out channel entry) (accept t.now channel) t.written written;
      shows = shows;
    }

pub take_breaks : (cause : BreakCause) (old mid new : Option (List ℕ)) (nvm : memory.Memory) (m : Machine) (count left next channel : ℕ) (w : World) (entry : Entry) (t : Taking old mid m count left channel w) → left ≡ suc next → Some entry ≡ offered t.now channel
    → PartWritten cause mid new (Out channel entry) → StandsFor (durable_words nvm) (accept t.now channel) → BreaksAt cause old new nvm (take_prints count channel w)
take_breaks cause old mid new nvm m count left next channel w entry t e given part stands =
    let more = take_some next channel t.now entry given in
    let x : Printed × World = (Out channel entry, accept t.now channel) in
    record {
      before = t.printed;
      at = x;
      rest = take_prints next channel (accept t.now channel);
      split = next_line (take_prints count channel w) t.printed (take_prints left channel t.now) (take_prints next channel (accept t.now channel)) x t.split (ap (λ (k : ℕ). take_prints k channel t.now) e ∙ more.0);
      written = subst (λ (o : Option (List ℕ)). PartWritten cause o new (Out channel entry)) t.written part;
      stands = stands;
    }

pub dry_ran : (old mid new : Option (List ℕ)) (m n : Machine) (count left next channel : ℕ) (w : World) (t : Taking old mid m count left channel w) → left ≡ suc next → None ≡ offered t.now channel → Shows n t.now
    → new ≡ append_known mid (line_text (Dry channel)) → Ran old new n (take_prints count channel w) (taken count channel w)
dry_ran old mid new m n count left next channel w t e given shows written =
    let none = take_none next channel t.now given in
    let split = next_line (take_prints count channel w) t.printed (take_prints left channel t.now) [] (Dry channel, t.now) t.split (ap (λ (k : ℕ). take_prints k channel t.now) e ∙ none.0) in
    record {
      written = one_more_line old mid new t.printed (Dry channel) t.now t.written written ∙ ap (λ (l : List (Printed × World)). append_known old (text_of l)) (sym split);
      shows = subst (λ (x : World). Shows n x) (sym (t.ends ∙ (ap (λ (k : ℕ). taken k channel t.now) e ∙ none.1))) shows;
    }

pub dry_breaks : (cause : BreakCause) (old mid new : Option (List ℕ)) (nvm : memory.Memory) (m : Machine) (count left next channel : ℕ) (w : World) (t : Taking old mid m count left channel w) → left ≡ suc next → None ≡ offered t.now channel
    → PartWritten cause mid new (Dry channel) → StandsFor (durable_words nvm) t.now → BreaksAt cause old new nvm (take_prints count channel w)
dry_breaks cause old mid new nvm m count left next channel w t e given part stands =
    let none = take_none next channel t.now given in
    record {
      before = t.printed;
      at = (Dry channel, t.now);
      rest = [];
      split = next_line (take_prints count channel w) t.printed (take_prints left channel t.now) [] (Dry channel, t.now) t.split (ap (λ (k : ℕ). take_prints k channel t.now) e ∙ none.0);
      written = subst (λ (o : Option (List ℕ)). PartWritten cause o new (Dry channel)) t.written part;
      stands = stands;
    }

pub all_taken : (old mid : Option (List ℕ)) (m : Machine) (count left channel : ℕ) (w : World) (t : Taking old mid m count left channel w) → left ≡ 0 → Ran old mid m (take_prints count channel w) (taken count channel w)
all_taken old mid m count left channel w t e = record {
  written = t.written ∙ ap (λ (l : List (Printed × World)). append_known old (text_of l)) (sym (t.split ∙ (ap (λ (k : ℕ). t.printed ++ take_prints k channel t.now) e ∙ append-nil t.printed)));
  shows = subst (λ (x : World). Shows m x) (sym (t.ends ∙ ap (λ (k : ℕ). taken k channel t.now) e)) t.shows;
}

pub none_taken : (old : Option (List ℕ)) (m : Machine) (count channel : ℕ) (w : World) → Shows m w → Taking old old m count count channel w
none_taken old m count channel w s = record { now = w; printed = []; split = refl; ends = refl; written = append_known-nil old; shows = s }

pub left_falls : (count i : ℕ) → i < count → count - i ≡ suc (count - (i + 1))
left_falls count i h = omega arith

-- what follows from two clauses on one outcome of a call
pub ok_both : {M B : Type 0} {P Q : M → Type 0} {W : Type 0} (r : Result M B) → IfOk r P → OnOk r W → ((n : M) → P n → W → Q n) → IfOk r Q
ok_both (Ok n) p w f = f n p w
ok_both (Err b) p w f = tt

pub err_both : {M B : Type 0} {P P' Q : B → Type 0} (r : Result M B) → IfErr r P → IfErr r P' → ((b : B) → P b → P' b → Q b) → IfErr r Q
err_both (Ok n) p q f = tt
err_both (Err b) p q f = f b p q

-- where nothing is offered, an accept changes nothing
accept_of : (b : Bool) (w other : World) (entry : Entry) → None ≡ (if b then Some entry else None) → (if b then other else w) ≡ w
accept_of true w other entry e = cc
accept_of false w other entry e = refl

pub accept_none : (w : World) (channel : ℕ) → None ≡ offered w channel → accept w channel ≡ w
accept_none w channel e = accept_of (is_offered w channel) w _ _ e

-- the one line of what was to be printed wasn't
pub one_breaks : (cause : BreakCause) (old new : Option (List ℕ)) (nvm : memory.Memory) (line : Printed) (w : World) → PartWritten cause old new line → StandsFor (durable_words nvm) w → BreaksAt cause old new nvm ((line, w) ∷ [])
one_breaks cause old new nvm line w part stands = record {
  before = [];
  at = (line, w);
  rest = [];
  split = refl;
  written = subst (λ (o : Option (List ℕ)). PartWritten cause o new line) (append_known-nil old) part;
  stands = stands;
}

-- Lines of a job one after another.

pub lines_go_on : (old mid new : Option (List ℕ)) (m n : Machine) (line : Line) (left : List Line) (prints : List (Printed × World)) (end : World) (t : SoFar old mid m (all_prints (line ∷ left)) (world_after (line ∷ left)) prints end)
    → Ran mid new n (prints_of line t.now) (after line t.now) → SoFar old new n (all_prints left) (world_after left) prints end
lines_go_on old mid new m n line left prints end t ran = record {
  now = after line t.now;
  printed = t.printed ++ prints_of line t.now;
  split = t.split ∙ sym (append_assoc t.printed (prints_of line t.now) (all_prints left (after line t.now)));
  ends = t.ends;
  written = ran.written ∙ (ap (λ (o : Option (List ℕ)). append_known o (text_of (prints_of line t.now))) t.written
      ∙ (append_known-append old (text_of t.printed) (text_of (prints_of line t.now)) ∙ ap (append_known old) (sym (text_of-append t.printed (prints_of line t.now)))));
  shows = ran.shows;
}

pub lines_break : (cause : BreakCause) (old mid new : Option (List ℕ)) (nvm : memory.Memory) (m : Machine) (line : Line) (left : List Line) (prints : List (Printed × World)) (end : World) (t : SoFar old mid m (all_prints (line ∷ left)) (world_after (line ∷ left)) prints end)
    → BreaksAt cause mid new nvm (prints_of line t.now) → BreaksAt cause old new nvm prints
lines_break cause old mid new nvm m line left prints end t broke = record {
  before = t.printed ++ broke.before;
  at = broke.at;
  rest = broke.rest ++ all_prints left (after line t.now);
  split = t.split ∙ (ap (λ (l : List (Printed × World)). t.printed ++ (l ++ all_prints left (after line t.now))) broke.split
      ∙ (ap (λ (l : List (Printed × World)). t.printed ++ l) (append_assoc broke.before (broke.at ∷ broke.rest) (all_prints left (after line t.now)))
      ∙ sym (append_assoc t.printed broke.before (broke.at ∷ (broke.rest ++ all_prints left (after line t.now))))));
  written = subst (λ (o : Option (List ℕ)). PartWritten cause o new broke.at.0)
      (ap (λ (o : Option (List ℕ)). append_known o (text_of broke.before)) t.written ∙ (append_known-append old (text_of t.printed) (text_of broke.before) ∙ ap (append_known old) (sym (text_of-append t.printed broke.before)))) broke.written;
  stands = broke.stands;
}

pub all_ran : (old mid : Option (List ℕ)) (m : Machine) (prints : List (Printed × World)) (end : World) → SoFar old mid m (all_prints []) (world_after []) prints end → Ran old mid m prints end
all_ran old mid m prints end t = record {
  written = t.written ∙ ap (λ (l : List (Printed × World)). append_known old (text_of l)) (sym (t.split ∙ append-nil t.printed));
  shows = subst (λ (x : World). Shows m x) (sym t.ends) t.shows;
}

-- the line at an index, and those behind it
pub at_line : (old mid : Option (List ℕ)) (m : Machine) (lines : List Line) (i : ℕ) (prints : List (Printed × World)) (end : World) → i < length lines
    → SoFar old mid m (all_prints (drop i lines)) (world_after (drop i lines)) prints end
    → SoFar old mid m (all_prints (slice_index_or lines i (Cores 0) ∷ drop (i + 1) lines)) (world_after (slice_index_or lines i (Cores 0) ∷ drop (i + 1) lines)) prints end
at_line old mid m lines i prints end h t =
    let e : drop i lines ≡ slice_index_or lines i (Cores 0) ∷ drop (i + 1) lines = rw (add-one, drop-cons lines i (Cores 0)) refl in
    subst (λ (l : List Line). SoFar old mid m (all_prints l) (world_after l) prints end) e t

pub at_end : (old mid : Option (List ℕ)) (m : Machine) (lines : List Line) (i : ℕ) (prints : List (Printed × World)) (end : World) → length lines ≤ i
    → SoFar old mid m (all_prints (drop i lines)) (world_after (drop i lines)) prints end → SoFar old mid m (all_prints []) (world_after []) prints end
at_end old mid m lines i prints end h t = subst (λ (l : List Line). SoFar old mid m (all_prints l) (world_after l) prints end) (drop_all i lines h) t
