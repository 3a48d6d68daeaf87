-- Operations are paid for: the count of them and the budget rise together by no more than an answer allows.
use Rattle.std.proofs.Common.{◌≡◌, inl, inr, ⊎_elim, ℕ, suc, ◌+◌, ◌*◌, ◌<◌, ◌≤◌, ◌∙◌, sym, ap, refl, Bool, true, false, not, cond, if◌then◌else◌, ◌==◌, nat_lt, is_some, arith, List, [], ◌∷◌, length, Option, Some, None, slice_index_or}
use Rattle.std.specs.List.{sum_by}
use Rattle.std.proofs.lemmas.Bool.{cases_lt}
use Rattle.std.proofs.lemmas.Bool.Decides.{nat_tests}
use Rattle.std.proofs.lemmas.List.{get_or_past, set_past}
use Rattle.std.proofs.lemmas.List.Sums.{sum_by-cons, sum_by-set, count_by-le-length}
use Rattle.std.proofs.lemmas.List.Folds.{sum_by-replicate}
use Rattle.sls_base.specs.declared.entry.Entry.{Entry}
use Rattle.pmem_model.specs.Memory.{Memory}
use Rattle.plain_model.specs.Worlds.{World}
use Rattle.machine_contract.specs.declared.bounds.TheConstants.{COPY_TURNS, START_TURNS}
use Rattle.machine_contract.specs.declared.answers.Did.{Did}
use Rattle.machine_contract.specs.declared.answers.Did.TheVariants as did
use Rattle.machine_contract.specs.declared.answers.Why.{Why}
use Rattle.machine_contract.specs.declared.answers.Why.TheVariants as why
use Rattle.machine_contract.specs.declared.answers.Asked.{Asked}
use Rattle.machine_contract.specs.declared.answers.Asked.TheVariants as asked
use Rattle.machine_contract.specs.declared.answers.Event.{Event}
use Rattle.machine_contract.specs.declared.answers.Event.TheVariants.{Turn, Ask, TakeWish, WriteBack, Input, Accept, Cut}
use Rattle.machine_contract.specs.declared.answers.Answer.{Answer}
use Rattle.machine_contract.specs.declared.answers.Answer.TheVariants as told
use Rattle.machine_contract.specs.Side.{Mode, Formatting, Side, CoreSide, BoardEntry, free_core, begun, none_given, core_at, entry_at, no_entry, IsSoundCore, IsSound}
use Rattle.machine_contract.specs.Lawful.{IsLawful, IsLawfulAsked, IsLawfulBack, HelperSteps, GoesOn, Draws, Prepares, ComesHome, Leads, KeepsBoard, Opens, cores_but, homed, brought_home, with_drawn}
use Rattle.machine_contract.specs.Courses.{Course, label_of, after}
use Rattle.machine_contract.specs.Shown.{Seen, Format}
use Rattle.machine_contract.specs.Begins.{IsBooted}
use Rattle.machine_contract.specs.Operations.{operations, inner_operations}
use Rattle.machine_contract.specs.Goes.{Goes, IsTaken}
use Rattle.machine_contract.specs.Play.{IsPlayed}
use Rattle.machine_contract.specs.Budgets.{copy_due, undrawn_count, draw_due, budget, did_allows, asked_allows, allows, allowed}

-- Cores: a sum over all of them, where one is other.

sum_but : (old : Side) (core : ℕ) (new : Side) → new.cores ≡ cores_but old core new
    → sum_by copy_due new.cores + copy_due (core_at old core) ≡ sum_by copy_due old.cores + copy_due (core_at new core)
sum_but old core new is =
    ⊎_elim
    (λ (below : core < length old.cores).
    let sums = sum_by-set copy_due old.cores core (core_at new core) free_core below in
    let same : sum_by copy_due new.cores ≡ sum_by copy_due (cores_but old core new) =
    ap (λ (cores : List CoreSide). sum_by copy_due cores) is in
    omega arith)
    (λ (past : length old.cores ≤ core).
    let none_old : core_at old core ≡ free_core = get_or_past old.cores core free_core past in
    let cores : new.cores ≡ old.cores = is ∙ set_past old.cores core (core_at new core) past in
    let none_new : core_at new core ≡ free_core =
    ap (λ (cs : List CoreSide). slice_index_or cs core free_core) cores ∙ none_old in
    let one : copy_due (core_at old core) ≡ 0 = ap copy_due none_old in
    let two : copy_due (core_at new core) ≡ 0 = ap copy_due none_new in
    let same : sum_by copy_due new.cores ≡ sum_by copy_due old.cores =
    ap (λ (cs : List CoreSide). sum_by copy_due cs) cores in
    omega arith)
    (cases_lt core (length old.cores))

holds_none : (core : CoreSide) → core.holds ≡ None → copy_due core ≡ 0
holds_none core none = rw none refl

holds_some : (core : CoreSide) (entry : ℕ) → core.holds ≡ Some entry → copy_due core ≡ core.due
holds_some core entry some = rw some refl

copy_most : (core : CoreSide) (o : Option ℕ) → core.holds ≡ o → copy_due core ≤ core.due
copy_most core None is = let none = holds_none core is in omega arith
copy_most core (Some entry) is = let some = holds_some core entry is in omega arith

-- what a sound core holds takes few turns
copy_few : (core : CoreSide) (o : Option ℕ) → core.holds ≡ o → IsSoundCore core → copy_due core ≤ COPY_TURNS
copy_few core None is sound = let none = holds_none core is in omega arith
copy_few core (Some entry) is sound =
    let some = holds_some core entry is in let few = sound.copies entry is in omega arith

-- who prepares a page holds nothing
prepares_none : (core : CoreSide) (page : ℕ) → IsSoundCore core → core.prepares ≡ Some page → core.holds ≡ None
prepares_none core page sound is = elim sound.one [ inl none ↦ cc | inr none ↦ none ]

-- Boards: how many entries may still be drawn.

-- one for an entry that wasn't drawn
abbrev pub undrawn_one : BoardEntry → ℕ
undrawn_one entry = cond (not entry.drawn) 1 0

undrawn_same : (old new : List BoardEntry) → length new ≡ length old
    → ((i : ℕ) → (entry_at new i).drawn ≡ (entry_at old i).drawn) → undrawn_count new ≡ undrawn_count old
undrawn_same [] [] count same = refl
undrawn_same (x ∷ old) (y ∷ new) count same =
    let one : undrawn_one y ≡ undrawn_one x = ap (λ (b : Bool). cond (not b) 1 0) (same 0) in
    let rest = undrawn_same old new (omega arith) (λ i. same (suc i)) in
    let before = sum_by-cons undrawn_one x old in
    let after = sum_by-cons undrawn_one y new in
    omega arith
undrawn_same [] (y ∷ new) count same = absurd (omega arith)
undrawn_same (x ∷ old) [] count same = absurd (omega arith)

homed_drawn : (page : ℕ) (b : Bool) (entry : BoardEntry) → (entry.page == page) ≡ b
    → undrawn_one (homed page entry) ≡ undrawn_one entry
homed_drawn page true entry is = rw is refl
homed_drawn page false entry is = rw is refl

undrawn_homed : (page : ℕ) (board : List BoardEntry) → undrawn_count (brought_home board page) ≡ undrawn_count board
undrawn_homed page [] = refl
undrawn_homed page (entry ∷ board) =
    let one = homed_drawn page (entry.page == page) entry refl in
    let rest = undrawn_homed page board in
    let before = sum_by-cons undrawn_one entry board in
    let after = sum_by-cons undrawn_one (homed page entry) (brought_home board page) in
    omega arith

undrawn_fewer : (board : List BoardEntry) (entry : ℕ) → entry < length board → (entry_at board entry).drawn ≡ false
    → undrawn_count (with_drawn board entry) + 1 ≡ undrawn_count board
undrawn_fewer board entry below undrawn =
    let drawn : BoardEntry = record (entry_at board entry) { drawn = true } in
    let sums = sum_by-set undrawn_one board entry drawn no_entry below in
    let one : undrawn_one (entry_at board entry) ≡ 1 = rw undrawn refl in
    omega arith

-- the turns for entries that may be drawn, by whether the board is open
abbrev pub drawing : Bool → ℕ → ℕ
drawing is_open count = if is_open then COPY_TURNS * count else 0

drawing_most : (is_open : Bool) (board : List BoardEntry)
    → drawing is_open (undrawn_count board) ≤ COPY_TURNS * length board
drawing_most true board = let most = count_by-le-length (λ entry. not entry.drawn) board in omega arith
drawing_most false board = omega arith

-- The rows: `x` operations were counted before, and `y` after.

same_budget : (old new : Side) (x y n : ℕ) → budget new ≡ budget old → y ≤ x + n → y + budget new ≤ x + budget old + n
same_budget old new x y n is ops = omega arith

goes_on_paid : (old : Side) (core entry : ℕ) (new : Side) (x y : ℕ) → GoesOn old core entry new → y ≤ x + 1
    → y + budget new ≤ x + budget old
goes_on_paid old core entry new x y h ops =
    let sums = sum_but old core new (ap (λ (s : Side). s.cores) h.rest) in
    let held = holds_some (core_at old core) entry h.holds in
    let holds = copy_most (core_at new core) (core_at new core).holds refl in
    let less = h.due in
    let left : new.left ≡ old.left = ap (λ (s : Side). s.left) h.rest in
    let draw : draw_due new ≡ draw_due old = ap draw_due h.rest in
    omega arith

prepares_paid : (w : World) (old : Side) (core page : ℕ) (new : Side) (x y : ℕ) → IsSound old
    → Prepares w old core page new → y ≤ x + 1 → y + budget new ≤ x + budget old + 1
prepares_paid w old core page new x y sound h ops =
    let none : (core_at old core).holds ≡ None = elim h.why [
      | inl already ↦ prepares_none (core_at old core) page (sound.cores core) already
      | inr begins ↦ begins.at_tick.free.1
    ] in
    let sums = sum_but old core new (ap (λ (s : Side). s.cores) h.rest) in
    let before = holds_none (core_at old core) none in
    let after = holds_none (core_at new core) (h.holds ∙ none) in
    let left : new.left ≡ old.left = ap (λ (s : Side). s.left) h.rest in
    let draw : draw_due new ≡ draw_due old = ap draw_due h.rest in
    omega arith

home_paid : (w : World) (old : Side) (core page : ℕ) (new : Side) (x y : ℕ) → ComesHome w old core page new
    → y ≤ x + 0 → y + budget new ≤ x + budget old
home_paid w old core page new x y h ops =
    let sums = sum_but old core new (ap (λ (s : Side). s.cores) h.rest) in
    let before = holds_none (core_at old core) h.at_tick.free.1 in
    let after = holds_none (core_at new core) h.holds in
    let left : new.left ≡ old.left = ap (λ (s : Side). s.left) h.rest in
    let draw : draw_due new ≡ draw_due old =
    ap draw_due h.rest ∙ ap (λ (n : ℕ). drawing old.is_open n) (undrawn_homed page old.board) in
    omega arith

draws_paid : (old : Side) (core entry : ℕ) (new : Side) (x y : ℕ) → IsSound new → Draws old core entry new
    → y ≤ x + 0 → y + budget new ≤ x + budget old
draws_paid old core entry new x y sound h ops =
    let sums = sum_but old core new (ap (λ (s : Side). s.cores) h.rest) in
    let before = holds_none (core_at old core) h.none in
    let after = copy_few (core_at new core) (core_at new core).holds refl (sound.cores core) in
    let left : new.left ≡ old.left = ap (λ (s : Side). s.left) h.rest in
    let fewer = undrawn_fewer old.board entry h.in_range h.undrawn in
    let now : draw_due new ≡ drawing true (undrawn_count (with_drawn old.board entry)) =
    ap draw_due h.rest ∙ ap (λ (b : Bool). drawing b (undrawn_count (with_drawn old.board entry))) h.is_open in
    let was : draw_due old ≡ drawing true (undrawn_count old.board) =
    ap (λ (b : Bool). drawing b (undrawn_count old.board)) h.is_open in
    omega arith

-- the leader, by what it does with the board

keeps_draw : (old new : Side) → KeepsBoard old new → draw_due new ≡ draw_due old
keeps_draw old new keeps =
    ap (λ (b : Bool). drawing b (undrawn_count new.board)) keeps.is_open
    ∙ ap (λ (n : ℕ). drawing old.is_open n) (undrawn_same old.board new.board keeps.board.count keeps.board.drawn)

one_at_most : (b : Bool) → (if b then 1 else 0) ≤ 1
one_at_most true = omega arith
one_at_most false = omega arith

opens_paid : (old new : Side) (x y : ℕ) → new.cores ≡ old.cores → Opens old new → y ≤ x + 1
    → y + budget new ≤ x + budget old
opens_paid old new x y cores opens ops =
    let sums : sum_by copy_due new.cores ≡ sum_by copy_due old.cores =
    ap (λ (cs : List CoreSide). sum_by copy_due cs) cores in
    let was : draw_due old ≡ 0 = ap (λ (b : Bool). drawing b (undrawn_count old.board)) opens.closed in
    let now = drawing_most new.is_open new.board in
    let left = opens.left in
    omega arith

falls_paid : (old new : Side) (x y : ℕ) → new.cores ≡ old.cores → draw_due new ≡ draw_due old → new.left < old.left
    → y ≤ x + 1 → y + budget new ≤ x + budget old
falls_paid old new x y cores draw less ops =
    let sums : sum_by copy_due new.cores ≡ sum_by copy_due old.cores =
    ap (λ (cs : List CoreSide). sum_by copy_due cs) cores in
    omega arith

waits_paid : (old new : Side) (x y : ℕ) → new.cores ≡ old.cores → draw_due new ≡ draw_due old
    → new.left ≡ old.left → y ≤ x + (if nat_lt new.left old.left then 1 else 0) → y + budget new ≤ x + budget old
waits_paid old new x y cores draw left ops =
    let sums : sum_by copy_due new.cores ≡ sum_by copy_due old.cores =
    ap (λ (cs : List CoreSide). sum_by copy_due cs) cores in
    let none : nat_lt new.left old.left ≡ false = grind (arith, nat_tests) in
    let ops_none : y ≤ x + 0 = rw none at ops in
    omega arith

leads_paid : (old : Side) (core : ℕ) (new : Side) (x y : ℕ) → Leads old core new
    → y ≤ x + (if nat_lt new.left old.left then 1 else 0) → y + budget new ≤ x + budget old
leads_paid old core new x y h ops =
    let cores : new.cores ≡ old.cores = ap (λ (s : Side). s.cores) h.rest in
    let one = one_at_most (nat_lt new.left old.left) in
    let most : y ≤ x + 1 = omega arith in
    elim h.board [
      | inl keeps ↦ elim h.left [
        | inl less ↦ falls_paid old new x y cores (keeps_draw old new keeps) less most
        | inr waits ↦ waits_paid old new x y cores (keeps_draw old new keeps) waits.left ops
      ]
      | inr opens ↦ opens_paid old new x y cores opens most
    ]

step_paid : (old : Side) (core : ℕ) (new : Side) (x y : ℕ) → IsSound new → HelperSteps old core new
    → y ≤ x + (if is_some (core_at old core).holds then 1 else 0) → y + budget new ≤ x + budget old
step_paid old core new x y sound step ops = elim step [
  | inl on ↦
      let one = one_at_most (is_some (core_at old core).holds) in
      goes_on_paid old core on.0 new x y on.1 (omega arith)
  | inr rest ↦ elim rest [
    | inl draws ↦ draws_paid old core draws.0 new x y sound draws.1 (rw draws.1.none at ops)
    | inr none ↦
        let ops_none : y ≤ x + 0 = rw none.none at ops in
        let same : budget new ≡ budget old = ap budget none.rest in
        omega arith
  ]
]

inner_paid : (w : World) (old : Side) (core : ℕ) (answer : Why) (new : Side) (x y : ℕ) → IsSound old → IsSound new
    → IsLawful w old core (did.Inner answer) new → y ≤ x + inner_operations answer core old new
    → y + budget new ≤ x + budget old + did_allows (did.Inner answer)
inner_paid w old core (why.Copy entry) new x y before after h ops =
    let paid = goes_on_paid old core entry new x y h.step ops in omega arith
inner_paid w old core (why.Prepare page) new x y before after h ops =
    prepares_paid w old core page new x y before h ops
inner_paid w old core (why.Home page) new x y before after h ops =
    let paid = home_paid w old core page new x y h ops in omega arith
inner_paid w old core (why.Wait page other) new x y before after h ops =
    same_budget old new x y 0 (ap budget h.rest) ops
inner_paid w old core why.Lead new x y before after h ops =
    let paid = leads_paid old core new x y h ops in omega arith
inner_paid w old core why.Help new x y before after h ops =
    let paid = step_paid old core new x y after h.step ops in omega arith
inner_paid w old core why.Paused new x y before after h ops = same_budget old new x y 0 (ap budget h.rest) ops
inner_paid w old core why.Format new x y before after h ops =
    let paid = falls_paid old new x y (ap (λ (s : Side). s.cores) h.rest) (ap draw_due h.rest) h.left ops in
    omega arith
inner_paid w old core why.Recover new x y before after h ops =
    let paid = falls_paid old new x y (ap (λ (s : Side). s.cores) h.rest) (ap draw_due h.rest) h.left ops in
    omega arith

turn_paid : (w : World) (old : Side) (core : ℕ) (answer : Did) (new : Side) (x y : ℕ) → IsSound old → IsSound new
    → IsLawful w old core answer new → y ≤ x + operations answer core old new
    → y + budget new ≤ x + budget old + did_allows answer
turn_paid w old core did.Retired new x y before after h ops = same_budget old new x y 2 (ap budget h.rest) ops
turn_paid w old core did.Idle new x y before after h ops = same_budget old new x y 0 (ap budget h.rest) ops
turn_paid w old core (did.Inner answer) new x y before after h ops =
    inner_paid w old core answer new x y before after h ops
turn_paid w old core (did.Committed v) new x y before after h ops =
    let paid = falls_paid old new x y (ap (λ (s : Side). s.cores) h.rest) (ap draw_due h.rest) h.left ops in
    omega arith
turn_paid w old core (did.Up v) new x y before after h ops =
    let none : new.left ≡ 0 = ap (λ (s : Side). s.left) h.rest in
    let some = h.left in
    let less : new.left < old.left = omega arith in
    let paid = falls_paid old new x y (ap (λ (s : Side). s.cores) h.rest) (ap draw_due h.rest) less ops in
    omega arith

-- Other events.

asked_paid : (w : World) (old : Side) (answer : Asked) (new : Side) → IsLawfulAsked w old answer new
    → budget new ≤ budget old + asked_allows w answer
asked_paid w old asked.Started new h =
    let sums : sum_by copy_due new.cores ≡ sum_by copy_due old.cores =
    ap (λ (s : Side). sum_by copy_due s.cores) h.rest in
    let closed : new.is_open ≡ false = ap (λ (s : Side). s.is_open) h.rest in
    let draw : draw_due new ≡ 0 = ap (λ (b : Bool). drawing b (undrawn_count new.board)) closed in
    let left = h.left in
    omega arith
asked_paid w old asked.InFlight new h = let same : budget new ≡ budget old = ap budget h.1 in omega arith
asked_paid w old (asked.VersionSpent v) new h = let same : budget new ≡ budget old = ap budget h.rest in omega arith
asked_paid w old asked.Memory new h = let same : budget new ≡ budget old = ap budget h in omega arith

back_paid : (w : World) (old : Side) (version : Option ℕ) (new : Side) → IsLawfulBack w old version new
    → budget new ≡ budget old
back_paid w old None new h = ap budget h
back_paid w old (Some v) new h = ap budget h.rest

begun_budget : (mode : Mode) (left n : ℕ) (given : ℕ → Option ℕ) → budget (begun mode left n given) ≡ left
begun_budget mode left n given = let none = sum_by-replicate copy_due n free_core in omega arith

-- what is counted and the budget, of what is seen
abbrev pub spending : Seen → ℕ
spending m = m.ops + budget m.side

same_spending : (old new : Seen) → new ≡ old → spending new ≤ spending old + 0
same_spending old new is = let same : spending new ≡ spending old = ap spending is in omega arith

taken_paid : (w : World) (channel : ℕ) (entry : Option Entry) (old new : Seen) → IsTaken w channel entry old new
    → spending new ≤ spending old + 0
taken_paid w channel None old new h = same_spending old new h.rest
taken_paid w channel (Some entry) old new h =
    let same : spending new ≡ spending old = ap spending h.rest in omega arith

pub goes_paid : (format : Format) (event : Event) (answer : Answer) (old : Seen) (c : Course) (new : Seen)
    → IsSound old.side → IsSound new.side → Goes format event answer old c new
    → spending new ≤ spending old + allows c.world answer
goes_paid format (Turn core) (told.Did answer) old c new before after h =
    turn_paid c.world old.side core answer new.side old.ops new.ops before after h.lawful h.ops
goes_paid format Ask (told.Asked answer) old c new before after h =
    let ops : new.ops ≡ old.ops = ap (λ (s : Seen). s.ops) h.rest in
    let paid = asked_paid c.world old.side answer new.side h.lawful in
    omega arith
goes_paid format Ask told.NotUp old c new before after h = same_spending old new h.rest
goes_paid format TakeWish (told.Wish wish) old c new before after h =
    let ops : new.ops ≡ old.ops = ap (λ (s : Seen). s.ops) h.rest in
    let same : budget new.side ≡ budget old.side = ap budget h.lawful.rest in
    omega arith
goes_paid format (WriteBack word) (told.WroteBack version) old c new before after h =
    let ops : new.ops ≡ old.ops = ap (λ (s : Seen). s.ops) h.rest in
    let same = back_paid c.world old.side version new.side h.lawful in
    omega arith
goes_paid format (Input bytes) (told.Given given) old c new before after h = same_spending old new h.rest
goes_paid format (Input bytes) told.NotUp old c new before after h = same_spending old new h.rest
goes_paid format (Accept channel) (told.Accepted entry) old c new before after h =
    taken_paid c.world channel entry old new h.taken
goes_paid format (Accept channel) told.NotUp old c new before after h = same_spending old new h.rest
goes_paid format Cut (told.Restarted version) old c new before after h =
    let ops = h.ops in
    let most = h.begins.left in
    let left : budget new.side ≡ new.side.left =
    ap budget h.begins.side
    ∙ begun_budget new.side.mode new.side.left (length new.side.cores) new.side.given in
    omega arith
goes_paid format event answer old c new before after h = absurd h

module _ {M : Type 0} (format : Format) (seen : M → Seen) (Shows : M → Course → Type 0) where
  pub plays_paid : (events : List Event) (answers : List Answer) (old : M) (c : Course) (new : M)
      → IsPlayed format seen Shows events answers old c new → IsSound (seen old).side
      → spending (seen new) ≤ spending (seen old) + allowed events answers c
  plays_paid [] [] old c new h sound =
      let same : spending (seen new) ≡ spending (seen old) = ap (λ (m : M). spending (seen m)) (sym h) in omega arith
  plays_paid (event ∷ events) (answer ∷ answers) old c new h sound =
      let first = goes_paid format event answer (seen old) c (seen h.0) sound h.1.shown.sound h.1.goes in
      let rest = plays_paid events answers h.0 (after c (label_of event answer)) new h.2 h.1.shown.sound in
      omega arith
  plays_paid [] (answer ∷ answers) old c new h sound = absurd h
  plays_paid (event ∷ events) [] old c new h sound = absurd h

pub booted_paid : (cores : ℕ) (nvm : Memory) (m : Seen) → IsBooted cores nvm m → spending m ≤ nvm.ops + START_TURNS
booted_paid cores nvm m booted =
    let ops : m.ops ≡ nvm.ops = ap (λ (s : Seen). s.ops) booted.rest in
    let left : budget m.side ≡ m.side.left =
    ap budget booted.side ∙ begun_budget Formatting m.side.left cores none_given in
    let most = booted.left in
    omega arith
