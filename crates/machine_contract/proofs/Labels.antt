-- Labels: the course is the plain machine's play of them, and each may befall the world.
use Rattle.std.proofs.Common.{◌≡◌, inl, inr, ℕ, ◌<◌, ◌∙◌, sym, ap, refl, subst, Bool, true, false, if◌then◌else◌, arith, List, [], ◌∷◌, length, Option, Some, None, length-set}
use Rattle.sls_base.specs.declared.limits.TheConstants.{LAST_VERSION}
use Rattle.sls_base.specs.declared.entry.Entry.{Entry}
use Rattle.plain_state.specs.declared.label.Label.{Label}
use Rattle.plain_state.specs.declared.label.Label.TheVariants as label
use Rattle.plain_model.specs.Worlds.{World}
use Rattle.plain_model.specs.Ticks.{Chosen, tick, ticked, chosen}
use Rattle.plain_model.specs.Play as plain
use Rattle.plain_model.specs.Play.{is_offered, next_bytes, with_released, has_input_room, with_input}
use Rattle.plain_model.specs.MayStep.{MayPlay}
use Rattle.std.specs.List.{AllByRecursion}
use Rattle.machine_contract.specs.declared.answers.Did.{Did}
use Rattle.machine_contract.specs.declared.answers.Did.TheVariants as did
use Rattle.machine_contract.specs.declared.answers.Why.{Why}
use Rattle.machine_contract.specs.declared.answers.Why.TheVariants as why
use Rattle.machine_contract.specs.declared.answers.Asked.{Asked}
use Rattle.machine_contract.specs.declared.answers.Asked.TheVariants as asked
use Rattle.machine_contract.specs.declared.answers.Event.{Event}
use Rattle.machine_contract.specs.declared.answers.Event.TheVariants.{Turn, Ask, TakeWish, WriteBack, Input, Accept, Cut}
use Rattle.machine_contract.specs.declared.answers.Answer.{Answer}
use Rattle.machine_contract.specs.declared.answers.Answer.TheVariants as told
use Rattle.machine_contract.specs.Side.{Side, core_at}
use Rattle.machine_contract.specs.Lawful.{IsLawful, IsLawfulAsked, IsLawfulBack, IsNext, HelperSteps, cores_but}
use Rattle.machine_contract.specs.Courses.{Course, turn_label, back_label, label_of, and_more, labels_of, after_label, after, played}
use Rattle.machine_contract.specs.Shown.{Seen, Format, IsShown}
use Rattle.machine_contract.specs.Goes.{Goes, IsTaken}
use Rattle.machine_contract.specs.Play.{IsPossible, IsPlayed}
use Rattle.machine_contract.specs.Laws.{MayStepIf, NoCommit}

-- the course's world is the plain machine's play of the labels
pub played_world : (c : Course) (labels : List Label) → (played c labels).world ≡ plain.play c.world labels
played_world c [] = refl
played_world c (label.Tick core ∷ labels) = played_world (after_label c (label.Tick core)) labels
played_world c (label.Commit ∷ labels) = played_world (after_label c label.Commit) labels
played_world c (label.Cut ∷ labels) = played_world (after_label c label.Cut) labels
played_world c (label.Accept channel ∷ labels) = played_world (after_label c (label.Accept channel)) labels
played_world c (label.Input bytes ∷ labels) = played_world (after_label c (label.Input bytes)) labels

-- Labels without a commit leave the saved copy.

ticked_saved : (w : World) (core : ℕ) (c : Option Chosen) → (ticked w core c).saved ≡ w.saved
ticked_saved w core None = refl
ticked_saved w core (Some c) = refl

accept_saved : (w : World) (channel : ℕ) (b : Bool)
    → (if b then record w { released = with_released w.released channel (next_bytes w channel) } else w).saved ≡ w.saved
accept_saved w channel true = refl
accept_saved w channel false = refl

input_saved : (w : World) (bytes : List ℕ) (b : Bool)
    → (if b then record w { now = with_input w.now bytes } else w).saved ≡ w.saved
input_saved w bytes true = refl
input_saved w bytes false = refl

pub saved_stays : (w : World) (labels : List Label) → NoCommit labels → (plain.play w labels).saved ≡ w.saved
saved_stays w [] none = refl
saved_stays w (label.Tick core ∷ labels) none =
    saved_stays (tick w core) labels none ∙ ticked_saved w core (chosen w.now core)
saved_stays w (label.Commit ∷ labels) none = absurd none
saved_stays w (label.Cut ∷ labels) none = saved_stays (plain.cut w) labels none
saved_stays w (label.Accept channel ∷ labels) none =
    saved_stays (plain.accept w channel) labels none ∙ accept_saved w channel (is_offered w channel)
saved_stays w (label.Input bytes ∷ labels) none =
    saved_stays (plain.input w bytes.items) labels none ∙ input_saved w bytes.items (has_input_room w)

-- A label that a lawful answer gives may befall the world.

next_below : (w : World) (v : ℕ) → IsNext w v → w.version < LAST_VERSION
next_below w v next = let e = next.next in let m = next.in_range in omega arith

turn_may : (core : ℕ) (answer : Did) (old : Seen) (w : World) (new : Seen) → core < length old.side.cores
    → length w.now.cores ≡ length old.side.cores → IsLawful w old.side core answer new.side
    → MayStepIf w (turn_label core answer)
turn_may core did.Retired old w new possible cores lawful = subst (λ n. core < n) (sym cores) possible
turn_may core did.Idle old w new possible cores lawful = subst (λ n. core < n) (sym cores) possible
turn_may core (did.Inner why) old w new possible cores lawful = tt
turn_may core (did.Committed v) old w new possible cores lawful = next_below w v lawful.next
turn_may core (did.Up v) old w new possible cores lawful = tt

back_may : (version : Option ℕ) (old : Seen) (w : World) (new : Seen) → IsLawfulBack w old.side version new.side
    → MayStepIf w (back_label version)
back_may None old w new lawful = tt
back_may (Some v) old w new lawful = next_below w v lawful.next

pub label_may : (format : Format) (event : Event) (answer : Answer) (old : Seen) (c : Course) (new : Seen)
    → IsPossible (length old.side.cores) event → length c.world.now.cores ≡ length old.side.cores
    → Goes format event answer old c new → MayStepIf c.world (label_of event answer)
label_may format (Turn core) (told.Did answer) old c new possible cores goes =
    turn_may core answer old c.world new possible cores goes.lawful
label_may format (WriteBack word) (told.WroteBack version) old c new possible cores goes =
    back_may version old c.world new goes.lawful
label_may format (Input bytes) (told.Given given) old c new possible cores goes = possible
label_may format (Accept channel) (told.Accepted entry) old c new possible cores goes = possible
label_may format Cut (told.Restarted version) old c new possible cores goes = tt
label_may format event answer old c new possible cores goes = tt

-- There are as many cores after each event.

cores_one : (old : Side) (core : ℕ) (new : Side) → new.cores ≡ cores_but old core new
    → length new.cores ≡ length old.cores
cores_one old core new e = ap length e ∙ length-set old.cores core (core_at new core)

step_cores : (old : Side) (core : ℕ) (new : Side) → HelperSteps old core new → length new.cores ≡ length old.cores
step_cores old core new step = elim step [
  | inl on ↦ cores_one old core new (ap (λ (s : Side). s.cores) on.1.rest)
  | inr rest ↦ elim rest [
    | inl draws ↦ cores_one old core new (ap (λ (s : Side). s.cores) draws.1.rest)
    | inr none ↦ ap (λ (s : Side). length s.cores) none.rest
  ]
]

inner_cores : (w : World) (old : Side) (core : ℕ) (answer : Why) (new : Side)
    → IsLawful w old core (did.Inner answer) new → length new.cores ≡ length old.cores
inner_cores w old core (why.Copy entry) new h = cores_one old core new (ap (λ (s : Side). s.cores) h.step.rest)
inner_cores w old core (why.Prepare page) new h = cores_one old core new (ap (λ (s : Side). s.cores) h.rest)
inner_cores w old core (why.Home page) new h = cores_one old core new (ap (λ (s : Side). s.cores) h.rest)
inner_cores w old core why.Help new h = step_cores old core new h.step
inner_cores w old core answer new h = ap (λ (s : Side). length s.cores) h.rest

pub turn_cores : (w : World) (old : Side) (core : ℕ) (answer : Did) (new : Side) → IsLawful w old core answer new
    → length new.cores ≡ length old.cores
turn_cores w old core (did.Inner answer) new h = inner_cores w old core answer new h
turn_cores w old core answer new h = ap (λ (s : Side). length s.cores) h.rest

asked_cores : (w : World) (old : Side) (answer : Asked) (new : Side) → IsLawfulAsked w old answer new
    → length new.cores ≡ length old.cores
asked_cores w old asked.InFlight new h = ap (λ (s : Side). length s.cores) h.1
asked_cores w old asked.Memory new h = ap (λ (s : Side). length s.cores) h
asked_cores w old answer new h = ap (λ (s : Side). length s.cores) h.rest

back_cores : (w : World) (old : Side) (version : Option ℕ) (new : Side) → IsLawfulBack w old version new
    → length new.cores ≡ length old.cores
back_cores w old None new h = ap (λ (s : Side). length s.cores) h
back_cores w old (Some v) new h = ap (λ (s : Side). length s.cores) h.rest

taken_cores : (w : World) (channel : ℕ) (entry : Option Entry) (old new : Seen) → IsTaken w channel entry old new
    → length new.side.cores ≡ length old.side.cores
taken_cores w channel None old new h = ap (λ (s : Seen). length s.side.cores) h.rest
taken_cores w channel (Some entry) old new h = ap (λ (s : Seen). length s.side.cores) h.rest

pub goes_cores : (format : Format) (event : Event) (answer : Answer) (old : Seen) (c : Course) (new : Seen)
    → Goes format event answer old c new → length new.side.cores ≡ length old.side.cores
goes_cores format (Turn core) (told.Did answer) old c new h =
    turn_cores c.world old.side core answer new.side h.lawful
goes_cores format Ask (told.Asked answer) old c new h = asked_cores c.world old.side answer new.side h.lawful
goes_cores format Ask told.NotUp old c new h = ap (λ (s : Seen). length s.side.cores) h.rest
goes_cores format TakeWish (told.Wish wish) old c new h = ap (λ (s : Side). length s.cores) h.lawful.rest
goes_cores format (WriteBack word) (told.WroteBack version) old c new h =
    back_cores c.world old.side version new.side h.lawful
goes_cores format (Input bytes) (told.Given given) old c new h = ap (λ (s : Seen). length s.side.cores) h.rest
goes_cores format (Input bytes) told.NotUp old c new h = ap (λ (s : Seen). length s.side.cores) h.rest
goes_cores format (Accept channel) (told.Accepted entry) old c new h = taken_cores c.world channel entry old new h.taken
goes_cores format (Accept channel) told.NotUp old c new h = ap (λ (s : Seen). length s.side.cores) h.rest
goes_cores format Cut (told.Restarted version) old c new h = h.cores
goes_cores format event answer old c new h = absurd h

-- The labels of a play may befall the world one after another.

may_more : (c : Course) (o : Option Label) (labels : List Label) → MayStepIf c.world o
    → MayPlay (after c o).world labels → MayPlay c.world (and_more o labels)
may_more c None labels may rest = rest
may_more c (Some (label.Tick core)) labels may rest = (may, rest)
may_more c (Some label.Commit) labels may rest = (may, rest)
may_more c (Some label.Cut) labels may rest = (may, rest)
may_more c (Some (label.Accept channel)) labels may rest = (may, rest)
may_more c (Some (label.Input bytes)) labels may rest = (may, rest)

module _ {M : Type 0} (format : Format) (seen : M → Seen) (Shows : M → Course → Type 0) where
  pub labels_may : (events : List Event) (answers : List Answer) (old : M) (c : Course) (new : M) (n : ℕ)
      → IsPlayed format seen Shows events answers old c new → IsShown format (seen old) c
      → length (seen old).side.cores ≡ n → AllByRecursion (IsPossible n) events
      → MayPlay c.world (labels_of events answers)
  labels_may [] [] old c new n h shown cores possible = tt
  labels_may (event ∷ events) (answer ∷ answers) old c new n h shown cores possible =
      may_more c (label_of event answer) (labels_of events answers)
      (label_may format event answer (seen old) c (seen h.0)
      (subst (λ (m : ℕ). IsPossible m event) (sym cores) possible.0) shown.cores h.1.goes)
      (labels_may events answers h.0 (after c (label_of event answer)) new n h.2 h.1.shown
      (goes_cores format event answer (seen old) c (seen h.0) h.1.goes ∙ cores) possible.1)
  labels_may [] (answer ∷ answers) old c new n h shown cores possible = absurd h
  labels_may (event ∷ events) [] old c new n h shown cores possible = absurd h
