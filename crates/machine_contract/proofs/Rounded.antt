-- A checkpoint that is still in flight has had few rounds of turns.
use Rattle.std.proofs.Common.{◌≡◌, ◌≢◌, inl, inr, ◌⊎◌, ⊎_elim, ℕ, zero, suc, ◌+◌, ◌-◌, ◌<◌, ◌≤◌, ◌∙◌, sym, ap, refl, subst, true, false, arith, List, [], ◌∷◌, length, Option, Some, None, slice_index_or}
use Rattle.std.proofs.lemmas.Bool.{cases_lt, cases_eq, cases_Bool}
use Rattle.std.proofs.lemmas.List.{get_or_past}
use Rattle.sls_base.specs.declared.fixed.TheConstants.{LEADER}
use Rattle.plain_model.specs.Worlds.{World}
use Rattle.machine_contract.specs.declared.bounds.TheConstants.{MOST_DUE}
use Rattle.machine_contract.specs.declared.answers.Did.{Did}
use Rattle.machine_contract.specs.declared.answers.Did.TheVariants as did
use Rattle.machine_contract.specs.declared.answers.Why.{Why}
use Rattle.machine_contract.specs.declared.answers.Why.TheVariants as why
use Rattle.machine_contract.specs.declared.answers.Event.{Event}
use Rattle.machine_contract.specs.declared.answers.Event.TheVariants.{Turn}
use Rattle.machine_contract.specs.declared.answers.Answer.{Answer}
use Rattle.machine_contract.specs.declared.answers.Answer.TheVariants as told
use Rattle.machine_contract.specs.Side.{Mode, Running, Side, CoreSide, InCheckpoint, IsStarting, IsSound, core_at, free_core}
use Rattle.machine_contract.specs.Lawful.{IsLawful, Helps, Leads, LeaderGoes, Prepares, Opens, NonePrepares}
use Rattle.machine_contract.specs.Courses.{Course, turn_label, after}
use Rattle.machine_contract.specs.Shown.{Seen, Format}
use Rattle.machine_contract.specs.Play.{IsPlayed}
use Rattle.machine_contract.specs.Laws.{AreTurns, LetsGo}
use Rattle.machine_contract.specs.Rounds.{turns_then, rounds}
use Rattle.machine_contract.proofs.Apart.{others}
use Rattle.machine_contract.proofs.Hands.{checkpoint_not, checkpoint_starts, not_running, leader_free, turn_owes}
use Rattle.machine_contract.proofs.Labels.{turn_cores}

-- What is left of a checkpoint: a bound on what cores owe while the board isn't open, and the turns of the leader, are
-- together within a number; and once the board is open, no core prepares a page.
record Within (side : Side) (number : ℕ) : Type 0 where
  bound : ℕ
  left : side.left + bound ≤ number
  due : side.is_open ≡ false → (core : ℕ) → (core_at side core).due ≤ bound
  opened : side.is_open ≡ true → NonePrepares side

-- In a round in which the leader waited or prepared a page, the cores before one have let go of a turn.
record Letting (side : Side) (number core : ℕ) : Type 0 where
  bound : ℕ
  left : side.left + suc bound ≤ suc number
  closed : side.is_open ≡ false
  due : (i : ℕ) → (core_at side i).due ≤ suc bound
  less : (i : ℕ) → i < core → (core_at side i).due ≤ bound

-- within a round: a turn of the leader is gone, or cores let go
abbrev InRound : Side → ℕ → ℕ → Type 0
InRound side number core = Within side number ⊎ Letting side number core

-- at the end of a round one turn less is left
round_ends : (side : Side) (number : ℕ) → InRound side number (length side.cores) → Within side number
round_ends side number round = elim round [
  | inl within ↦ within
  | inr letting ↦ record {
    bound = letting.bound;
    left = let left = letting.left in omega arith;
    due = λ closed core.
        ⊎_elim
        (λ (below : core < length side.cores). letting.less core below)
        (λ (past : length side.cores ≤ core).
        let none : (core_at side core).due ≡ 0 =
        ap (λ (c : CoreSide). c.due) (get_or_past side.cores core free_core past) in
        omega arith)
        (cases_lt core (length side.cores));
    opened = λ opened. absurd (let two : false ≡ true = sym letting.closed ∙ opened in cc);
  }
]

-- A turn of another core than the leader.

-- it changes the hands of that core, and neither the mode, the turns of the leader, nor whether the board is open
record Follows (old : Side) (core : ℕ) (new : Side) : Type 0 where
  mode : new.mode ≡ old.mode
  left : new.left ≡ old.left
  is_open : new.is_open ≡ old.is_open
  others : (i : ℕ) → i ≢ core → core_at new i ≡ core_at old i
  prepares : NonePrepares old → (core_at new core).prepares ≡ None

same_follows : (old : Side) (core : ℕ) (new : Side) → new ≡ old → Follows old core new
same_follows old core new is = record {
  mode = ap (λ (s : Side). s.mode) is;
  left = ap (λ (s : Side). s.left) is;
  is_open = ap (λ (s : Side). s.is_open) is;
  others = λ i ne. ap (λ (s : Side). core_at s i) is;
  prepares = λ none. ap (λ (s : Side). (core_at s core).prepares) is ∙ none core;
}

help_follows : (old : Side) (core : ℕ) (new : Side) → Helps old core new → Follows old core new
help_follows old core new h = elim h.step [
  | inl on ↦ record {
    mode = ap (λ (s : Side). s.mode) on.1.rest;
    left = ap (λ (s : Side). s.left) on.1.rest;
    is_open = ap (λ (s : Side). s.is_open) on.1.rest;
    others = others old core new (ap (λ (s : Side). s.cores) on.1.rest);
    prepares = λ none. on.1.prepares ∙ none core;
  }
  | inr rest ↦ elim rest [
    | inl draws ↦ record {
      mode = ap (λ (s : Side). s.mode) draws.1.rest;
      left = ap (λ (s : Side). s.left) draws.1.rest;
      is_open = ap (λ (s : Side). s.is_open) draws.1.rest;
      others = others old core new (ap (λ (s : Side). s.cores) draws.1.rest);
      prepares = λ none. draws.1.prepares;
    }
    | inr none ↦ same_follows old core new none.rest
  ]
]

not_some : (o : Option ℕ) (k : ℕ) → o ≡ Some k → o ≡ None → ⊥
not_some o k some none = cc

inner_follows : (w : World) (old : Side) (core : ℕ) (answer : Why) (new : Side) → InCheckpoint old.mode
    → core ≢ LEADER → IsLawful w old core (did.Inner answer) new → Follows old core new
inner_follows w old core (why.Copy entry) new mode other h = absurd (checkpoint_not old.mode mode h.runs)
inner_follows w old core (why.Prepare page) new mode other h = elim h.why [
  | inl already ↦ record {
    mode = ap (λ (s : Side). s.mode) h.rest;
    left = ap (λ (s : Side). s.left) h.rest;
    is_open = ap (λ (s : Side). s.is_open) h.rest;
    others = others old core new (ap (λ (s : Side). s.cores) h.rest);
    prepares = λ none. absurd (not_some (core_at old core).prepares page already (none core));
  }
  | inr begins ↦ absurd (checkpoint_not old.mode mode begins.at_tick.runs)
]
inner_follows w old core (why.Home page) new mode other h = absurd (checkpoint_not old.mode mode h.at_tick.runs)
inner_follows w old core (why.Wait page on) new mode other h = absurd (checkpoint_not old.mode mode h.at_tick.runs)
inner_follows w old core why.Help new mode other h = help_follows old core new h
inner_follows w old core why.Paused new mode other h = same_follows old core new h.rest
inner_follows w old core answer new mode other h = absurd (other h.leader)

turn_follows : (w : World) (old : Side) (core : ℕ) (answer : Did) (new : Side) → InCheckpoint old.mode
    → core ≢ LEADER → IsLawful w old core answer new → Follows old core new
turn_follows w old core did.Retired new mode other h = absurd (checkpoint_not old.mode mode h.at_tick.runs)
turn_follows w old core did.Idle new mode other h = absurd (checkpoint_not old.mode mode h.at_tick.runs)
turn_follows w old core (did.Inner answer) new mode other h = inner_follows w old core answer new mode other h
turn_follows w old core answer new mode other h = absurd (other h.leader)

lets_go_most : (old : Side) (core : ℕ) (new : Side) (bound : ℕ) → LetsGo old core new
    → (core_at old core).due ≤ bound → (core_at new core).due ≤ bound
lets_go_most old core new bound lets few = elim lets [ inl less ↦ omega arith | inr none ↦ omega arith ]

lets_go_less : (old : Side) (core : ℕ) (new : Side) (bound : ℕ) → LetsGo old core new
    → (core_at old core).due ≤ suc bound → (core_at new core).due ≤ bound
lets_go_less old core new bound lets few = elim lets [ inl less ↦ omega arith | inr none ↦ omega arith ]

-- what is so of the core and of each other is so of all
each_core : (core : ℕ) (P : ℕ → Type 0) → P core → ((i : ℕ) → i ≢ core → P i) → (i : ℕ) → P i
each_core core P here there i =
    ⊎_elim (λ (is : i ≡ core). subst P (sym is) here) (λ (ne : i ≢ core). there i ne) (cases_eq i core)

follow_round : (w : World) (old : Side) (core : ℕ) (answer : Did) (new : Side) (number : ℕ) → IsSound old
    → InCheckpoint old.mode → core ≢ LEADER → IsLawful w old core answer new → InRound old number core
    → InRound new number (core + 1)
follow_round w old core answer new number sound mode other h round =
    let follows = turn_follows w old core answer new mode other h in
    let lets = λ (closed : old.is_open ≡ false). turn_owes w old core answer new sound mode closed other h in
    elim round [
      | inl within ↦ inl (record {
        bound = within.bound;
        left = let left = within.left in let same = follows.left in omega arith;
        due = λ closed.
            let was = sym follows.is_open ∙ closed in
            each_core core (λ i. (core_at new i).due ≤ within.bound)
            (lets_go_most old core new within.bound (lets was) (within.due was core))
            (λ i ne. subst (λ (c : CoreSide). c.due ≤ within.bound) (sym (follows.others i ne)) (within.due was i));
        opened = λ opened.
            let none = within.opened (sym follows.is_open ∙ opened) in
            each_core core (λ i. (core_at new i).prepares ≡ None) (follows.prepares none)
            (λ i ne. subst (λ (c : CoreSide). c.prepares ≡ None) (sym (follows.others i ne)) (none i));
      })
      | inr letting ↦ inr (record {
        bound = letting.bound;
        left = let left = letting.left in let same = follows.left in omega arith;
        closed = follows.is_open ∙ letting.closed;
        due = each_core core (λ i. (core_at new i).due ≤ suc letting.bound)
            (lets_go_most old core new (suc letting.bound) (lets letting.closed) (letting.due core))
            (λ i ne. subst (λ (c : CoreSide). c.due ≤ suc letting.bound) (sym (follows.others i ne)) (letting.due i));
        less = each_core core (λ i. i < core + 1 → (core_at new i).due ≤ letting.bound)
            (λ below. lets_go_less old core new letting.bound (lets letting.closed) (letting.due core))
            (λ i ne below. subst (λ (c : CoreSide). c.due ≤ letting.bound) (sym (follows.others i ne))
            (letting.less i (omega arith)));
      })
    ]

-- A turn of the leader.

-- the same hands, and fewer turns
falls_within : (old new : Side) (number : ℕ) → new.cores ≡ old.cores → new.is_open ≡ old.is_open
    → new.left < old.left → Within old (suc number) → Within new number
falls_within old new number cores is_open less within = record {
  bound = within.bound;
  left = let left = within.left in omega arith;
  due = λ closed i.
      subst (λ (cs : List CoreSide). (slice_index_or cs i free_core).due ≤ within.bound) (sym cores)
      (within.due (sym is_open ∙ closed) i);
  opened = λ opened i.
      subst (λ (cs : List CoreSide). (slice_index_or cs i free_core).prepares ≡ None) (sym cores)
      (within.opened (sym is_open ∙ opened) i);
}

opens_within : (old new : Side) (number : ℕ) → new.cores ≡ old.cores → Opens old new → Within old (suc number)
    → Within new number
opens_within old new number cores opens within = record {
  bound = within.bound;
  left = let left = within.left in let less = opens.left in omega arith;
  due = λ closed. absurd (let two : true ≡ false = sym opens.opened ∙ closed in cc);
  opened = λ opened i.
      subst (λ (cs : List CoreSide). (slice_index_or cs i free_core).prepares ≡ None) (sym cores) (opens.free i).0;
}

-- some core owes a turn, and the leader none any more: the round lets go
lets_go : (old new : Side) (number other : ℕ) → new.left ≡ old.left → new.is_open ≡ false → old.is_open ≡ false
    → 0 < (core_at old other).due → ((bound i : ℕ) → (core_at old i).due ≤ bound → (core_at new i).due ≤ bound)
    → (core_at new LEADER).due < (core_at old other).due ⊎ ((core_at new LEADER).due ≡ 0) → Within old (suc number)
    → Letting new number 1
lets_go old new number other left closed was some most leader within =
    let few = within.due was other in
    let pred : suc (within.bound - 1) ≡ within.bound = omega arith in record {
      bound = within.bound - 1;
      left = let before = within.left in omega arith;
      closed = closed;
      due = λ i. let here = most within.bound i (within.due was i) in omega arith;
      less = λ i below.
          let first : i ≡ LEADER = omega arith in
          subst (λ (k : ℕ). (core_at new k).due ≤ within.bound - 1) (sym first)
          (elim leader [ inl less ↦ omega arith | inr none ↦ omega arith ]);
    }

lead_round : (old : Side) (core : ℕ) (new : Side) (number : ℕ) → IsSound old → Leads old core new
    → Within old (suc number) → InRound new number 1
lead_round old core new number sound h within =
    let cores : new.cores ≡ old.cores = ap (λ (s : Side). s.cores) h.rest in
    let hands = λ (bound i : ℕ) (few : (core_at old i).due ≤ bound).
    subst (λ (cs : List CoreSide). (slice_index_or cs i free_core).due ≤ bound) (sym cores) few in
    let none : (core_at new LEADER).due ≡ 0 =
    ap (λ (cs : List CoreSide). (slice_index_or cs LEADER free_core).due) cores
    ∙ (sound.cores LEADER).due.1 (rw h.leader at (leader_free old core sound h.leader h.prepares)) in
    elim h.board [
      | inl keeps ↦ elim h.left [
        | inl less ↦ inl (falls_within old new number cores keeps.is_open less within)
        | inr waits ↦
            inr (lets_go old new number waits.due.0 waits.left waits.closed (sym keeps.is_open ∙ waits.closed)
            waits.due.2
            hands (inr none) within)
      ]
      | inr opens ↦ inl (opens_within old new number cores opens within)
    ]

prepare_round : (w : World) (old : Side) (core page : ℕ) (new : Side) (number : ℕ) → InCheckpoint old.mode
    → core ≡ LEADER → Prepares w old core page new → Within old (suc number) → InRound new number 1
prepare_round w old core page new number mode leader h within = elim h.why [
  | inl already ↦
      ⊎_elim
      (λ (opened : old.is_open ≡ true).
      absurd (not_some (core_at old core).prepares page already (within.opened opened core)))
      (λ (closed : old.is_open ≡ false).
      let less = h.due already in
      let cores = others old core new (ap (λ (s : Side). s.cores) h.rest) in
      let now : (core_at new LEADER).due < (core_at old core).due =
      subst (λ (k : ℕ). (core_at new k).due < (core_at old core).due) leader less in
      inr (lets_go old new number core (ap (λ (s : Side). s.left) h.rest)
      (ap (λ (s : Side). s.is_open) h.rest ∙ closed) closed (omega arith)
      (λ bound. each_core core (λ i. (core_at old i).due ≤ bound → (core_at new i).due ≤ bound)
      (λ few. omega arith)
      (λ i ne few. subst (λ (c : CoreSide). c.due ≤ bound) (sym (cores i ne)) few))
      (inl now) within))
      (cases_Bool old.is_open)
  | inr begins ↦ absurd (checkpoint_not old.mode mode begins.at_tick.runs)
]

leader_inner : (w : World) (old : Side) (core : ℕ) (answer : Why) (new : Side) (number : ℕ) → IsSound old
    → InCheckpoint old.mode → core ≡ LEADER → IsLawful w old core (did.Inner answer) new → Within old (suc number)
    → InRound new number 1
leader_inner w old core (why.Copy entry) new number s mode leader h within =
    absurd (checkpoint_not old.mode mode h.runs)
leader_inner w old core (why.Prepare page) new number s mode leader h within =
    prepare_round w old core page new number mode leader h within
leader_inner w old core (why.Home page) new number s mode leader h within =
    absurd (checkpoint_not old.mode mode h.at_tick.runs)
leader_inner w old core (why.Wait page other) new number s mode leader h within =
    absurd (checkpoint_not old.mode mode h.at_tick.runs)
leader_inner w old core why.Lead new number s mode leader h within = lead_round old core new number s h within
leader_inner w old core why.Help new number s mode leader h within = absurd (h.other leader)
leader_inner w old core why.Paused new number s mode leader h within = absurd (h.other leader)
leader_inner w old core why.Format new number s mode leader h within =
    absurd (checkpoint_starts old.mode mode (inl h.mode_is))
leader_inner w old core why.Recover new number s mode leader h within =
    absurd (checkpoint_starts old.mode mode (inr h.mode_is))

leader_round : (w : World) (old : Side) (core : ℕ) (answer : Did) (new : Side) (number : ℕ) → IsSound old
    → InCheckpoint old.mode → core ≡ LEADER → IsLawful w old core answer new → Within old (suc number)
    → InRound new number 1
leader_round w old core did.Retired new number s mode leader h within =
    absurd (checkpoint_not old.mode mode h.at_tick.runs)
leader_round w old core did.Idle new number s mode leader h within =
    absurd (checkpoint_not old.mode mode h.at_tick.runs)
leader_round w old core (did.Inner answer) new number s mode leader h within =
    leader_inner w old core answer new number s mode leader h within
leader_round w old core (did.Committed v) new number s mode leader h within =
    inl (falls_within old new number (ap (λ (s : Side). s.cores) h.rest) (ap (λ (s : Side). s.is_open) h.rest) h.left
    within)
leader_round w old core (did.Up v) new number s mode leader h within =
    absurd (checkpoint_starts old.mode mode h.mode)

-- Modes: a turn in a checkpoint stays in it or ends it, and a machine that runs goes on running.

goes_mode : (old new : Mode) → InCheckpoint old → LeaderGoes old new → InCheckpoint new ⊎ (new ≡ Running)
goes_mode old new mode goes = elim goes [ inl same ↦ inl (rw same mode) | inr ends ↦ inr ends.1 ]

kept_mode : (old new : Mode) → InCheckpoint old → new ≡ old → InCheckpoint new ⊎ (new ≡ Running)
kept_mode old new mode same = inl (rw same mode)

inner_mode : (w : World) (old : Side) (core : ℕ) (answer : Why) (new : Side) → InCheckpoint old.mode
    → IsLawful w old core (did.Inner answer) new → InCheckpoint new.mode ⊎ (new.mode ≡ Running)
inner_mode w old core why.Lead new mode h = goes_mode old.mode new.mode mode h.goes
inner_mode w old core why.Help new mode h =
    kept_mode old.mode new.mode mode (help_follows old core new h).mode
inner_mode w old core (why.Copy entry) new mode h =
    kept_mode old.mode new.mode mode (ap (λ (s : Side). s.mode) h.step.rest)
inner_mode w old core answer new mode h = kept_mode old.mode new.mode mode (ap (λ (s : Side). s.mode) h.rest)

turn_mode : (w : World) (old : Side) (core : ℕ) (answer : Did) (new : Side) → InCheckpoint old.mode
    → IsLawful w old core answer new → InCheckpoint new.mode ⊎ (new.mode ≡ Running)
turn_mode w old core (did.Inner answer) new mode h = inner_mode w old core answer new mode h
turn_mode w old core (did.Committed v) new mode h = elim h.goes [
  | inl after ↦ inl (inr after)
  | inr runs ↦ inr runs
]
turn_mode w old core (did.Up v) new mode h = absurd (checkpoint_starts old.mode mode h.mode)
turn_mode w old core answer new mode h = kept_mode old.mode new.mode mode (ap (λ (s : Side). s.mode) h.rest)

starts_not : (mode : Mode) → IsStarting mode → mode ≡ Running → ⊥
starts_not mode starts runs = not_running mode starts runs

inner_runs : (w : World) (old : Side) (core : ℕ) (answer : Why) (new : Side) → old.mode ≡ Running
    → IsLawful w old core (did.Inner answer) new → new.mode ≡ Running
inner_runs w old core (why.Copy entry) new runs h = ap (λ (s : Side). s.mode) h.step.rest ∙ runs
inner_runs w old core why.Lead new runs h = absurd (checkpoint_not old.mode h.mode runs)
inner_runs w old core why.Help new runs h = absurd (checkpoint_not old.mode h.mode runs)
inner_runs w old core answer new runs h = ap (λ (s : Side). s.mode) h.rest ∙ runs

turn_runs : (w : World) (old : Side) (core : ℕ) (answer : Did) (new : Side) → old.mode ≡ Running
    → IsLawful w old core answer new → new.mode ≡ Running
turn_runs w old core (did.Inner answer) new runs h = inner_runs w old core answer new runs h
turn_runs w old core (did.Committed v) new runs h = absurd (checkpoint_not old.mode (inl h.mode) runs)
turn_runs w old core (did.Up v) new runs h = ap (λ (s : Side). s.mode) h.rest
turn_runs w old core answer new runs h = ap (λ (s : Side). s.mode) h.rest ∙ runs

-- Plays of rounds.

turns_are : (more core : ℕ) (events : List Event) → AreTurns events → AreTurns (turns_then more core events)
turns_are zero core events turns = turns
turns_are (suc more) core events turns = turns_are more (core + 1) events turns

rounds_are : (cores count : ℕ) → AreTurns (rounds cores count)
rounds_are cores zero = tt
rounds_are cores (suc count) = turns_are cores 0 (rounds cores count) (rounds_are cores count)

module _ {M : Type 0} (format : Format) (seen : M → Seen) (Shows : M → Course → Type 0) where
  runs_on : (events : List Event) (answers : List Answer) (old : M) (c : Course) (new : M)
      → IsPlayed format seen Shows events answers old c new → AreTurns events → (seen old).side.mode ≡ Running
      → (seen new).side.mode ≡ Running
  runs_on [] [] old c new h turns runs = subst (λ (m : M). (seen m).side.mode ≡ Running) h runs
  runs_on (Turn core ∷ events) (told.Did answer ∷ answers) old c new h turns runs =
      runs_on events answers h.0 (after c (turn_label core answer)) new h.2 turns
      (turn_runs c.world (seen old).side core answer (seen h.0).side runs h.1.goes.lawful)
  runs_on (Turn core ∷ events) (answer ∷ answers) old c new h turns runs = absurd h.1.goes
  runs_on (event ∷ events) (answer ∷ answers) old c new h turns runs = absurd turns
  runs_on (event ∷ events) [] old c new h turns runs = absurd h
  runs_on [] (answer ∷ answers) old c new h turns runs = absurd h

  -- a checkpoint in which the machine is at the end, it was in after the turns before
  still_in : (events : List Event) (answers : List Answer) (old : M) (c : Course) (new : M)
      → IsPlayed format seen Shows events answers old c new → AreTurns events → InCheckpoint (seen new).side.mode
      → InCheckpoint (seen old).side.mode ⊎ ((seen old).side.mode ≡ Running) → InCheckpoint (seen old).side.mode
  still_in events answers old c new h turns in_one goes = elim goes [
    | inl mode ↦ mode
    | inr runs ↦ absurd (checkpoint_not (seen new).side.mode in_one (runs_on events answers old c new h turns runs))
  ]

  -- what is known of a machine in a checkpoint of which so much is left
  record Goes (m : M) (number cores : ℕ) : Type 0 where
    sound : IsSound (seen m).side
    count : length (seen m).side.cores ≡ cores
    mode : InCheckpoint (seen m).side.mode

  within_round : (Goal : Type 0) (more core : ℕ) (events : List Event) (answers : List Answer) (old : M) (c : Course)
      (new : M) (number cores : ℕ) → AreTurns events → InCheckpoint (seen new).side.mode
      → ((rest : List Answer) (mid : M) (k : Course) → IsPlayed format seen Shows events rest mid k new
      → Goes mid number cores → Within (seen mid).side number → Goal)
      → IsPlayed format seen Shows (turns_then more core events) answers old c new → Goes old number cores
      → InRound (seen old).side number core → core + more ≡ cores → 0 < core → Goal
  within_round Goal zero core events answers old c new number cores turns in_one then h goes round at some =
      let all : core ≡ length (seen old).side.cores = let count = goes.count in omega arith in
      then answers old c h goes (round_ends (seen old).side number
      (subst (λ (k : ℕ). InRound (seen old).side number k) all round))
  within_round Goal (suc more) core events (told.Did answer ∷ answers) old c new number cores turns in_one then h goes
      round at some =
      let lawful = h.1.goes.lawful in
      let mode = still_in (turns_then more (core + 1) events) answers h.0 (after c (turn_label core answer)) new h.2
      (turns_are more (core + 1) events turns) in_one
      (turn_mode c.world (seen old).side core answer (seen h.0).side goes.mode lawful) in
      let other : core ≢ LEADER = omega arith in
      within_round Goal more (core + 1) events answers h.0 (after c (turn_label core answer)) new number cores turns
      in_one
      then h.2 (record {
        sound = h.1.shown.sound;
        count = turn_cores c.world (seen old).side core answer (seen h.0).side lawful ∙ goes.count;
        mode = mode;
      })
      (follow_round c.world (seen old).side core answer (seen h.0).side number goes.sound goes.mode other lawful round)
      (omega arith) (omega arith)
  within_round Goal (suc more) core events (answer ∷ answers) old c new number cores turns in_one then h goes round at
      some = absurd h.1.goes
  within_round Goal (suc more) core events [] old c new number cores turns in_one then h goes round at some = absurd h

  pub left_some : (m : M) → IsSound (seen m).side → InCheckpoint (seen m).side.mode → 0 < (seen m).side.left
  left_some m sound mode =
      ⊎_elim
      (λ (some : 0 < (seen m).side.left). some)
      (λ (none : (seen m).side.left ≤ 0).
      absurd (checkpoint_not (seen m).side.mode mode (sound.left.0 (omega arith))))
      (cases_lt 0 (seen m).side.left)

  rounds_within : (count : ℕ) (answers : List Answer) (old : M) (c : Course) (new : M) (number more : ℕ)
      → IsPlayed format seen Shows (rounds (suc more) count) answers old c new → Goes old number (suc more)
      → InCheckpoint (seen new).side.mode → Within (seen old).side number
      → count + (seen new).side.left ≤ number
  rounds_within zero [] old c new number more h goes in_one within =
      let left = within.left in
      let same : (seen new).side.left ≡ (seen old).side.left = ap (λ (m : M). (seen m).side.left) (sym h) in
      omega arith
  rounds_within zero (answer ∷ answers) old c new number more h goes in_one within = absurd h
  rounds_within (suc count) answers old c new zero more h goes in_one within =
      absurd (let left = within.left in let some = left_some old goes.sound goes.mode in omega arith)
  rounds_within (suc count) (told.Did answer ∷ answers) old c new (suc number) more h goes in_one within =
      let lawful = h.1.goes.lawful in
      let rest = rounds (suc more) count in
      let turns = rounds_are (suc more) count in
      let mode = still_in (turns_then more 1 rest) answers h.0 (after c (turn_label 0 answer)) new h.2
      (turns_are more 1 rest turns) in_one
      (turn_mode c.world (seen old).side 0 answer (seen h.0).side goes.mode lawful) in
      within_round (suc count + (seen new).side.left ≤ suc number) more 1 rest answers h.0
      (after c (turn_label 0 answer)) new number (suc more) turns in_one
      (λ last mid k then at_mid mid_within.
      let few = rounds_within count last mid k new number more then at_mid in_one mid_within in omega arith)
      h.2 (record {
        sound = h.1.shown.sound;
        count = turn_cores c.world (seen old).side 0 answer (seen h.0).side lawful ∙ goes.count;
        mode = mode;
      })
      (leader_round c.world (seen old).side 0 answer (seen h.0).side number goes.sound goes.mode refl lawful within)
      (omega arith) (omega arith)
  rounds_within (suc count) (answer ∷ answers) old c new (suc number) more h goes in_one within = absurd h.1.goes
  rounds_within (suc count) [] old c new (suc number) more h goes in_one within = absurd h

  -- before the board is open, this much is left
  closed_within : (m : M) → IsSound (seen m).side → (seen m).side.is_open ≡ false
      → Within (seen m).side ((seen m).side.left + MOST_DUE)
  closed_within m sound closed = record {
    bound = MOST_DUE;
    left = omega arith;
    due = λ is core. (sound.cores core).most;
    opened = λ opened. absurd (let two : false ≡ true = sym closed ∙ opened in cc);
  }

  pub rounds_end : (count : ℕ) (answers : List Answer) (old : M) (c : Course) (new : M) (cores : ℕ)
      → IsPlayed format seen Shows (rounds cores count) answers old c new → length (seen old).side.cores ≡ cores
      → 0 < cores → IsSound (seen old).side → InCheckpoint (seen old).side.mode → (seen old).side.is_open ≡ false
      → InCheckpoint (seen new).side.mode → count + (seen new).side.left ≤ (seen old).side.left + MOST_DUE
  rounds_end count answers old c new zero h is some sound mode closed in_one = absurd (omega arith)
  rounds_end count answers old c new (suc more) h is some sound mode closed in_one =
      rounds_within count answers old c new ((seen old).side.left + MOST_DUE) more h
      (record { sound = sound; count = is; mode = mode }) in_one (closed_within old sound closed)
