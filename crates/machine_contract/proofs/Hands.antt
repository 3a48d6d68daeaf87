-- What cores have in hand.
use Rattle.std.proofs.Common.{◌≡◌, ◌≢◌, inl, inr, ◌⊎◌, ⊎_elim, ℕ, zero, suc, ◌<◌, ◌≤◌, ◌∙◌, sym, ap, refl, true, false, arith, replicate, slice_index_or, Option, Some, None}
use Rattle.std.proofs.lemmas.Bool.{cases_lt}
use Rattle.sls_base.specs.declared.fixed.TheConstants.{LEADER}
use Rattle.plain_model.specs.Worlds.{World}
use Rattle.machine_contract.specs.declared.answers.Did.{Did}
use Rattle.machine_contract.specs.declared.answers.Did.TheVariants as did
use Rattle.machine_contract.specs.declared.answers.Why.{Why}
use Rattle.machine_contract.specs.declared.answers.Why.TheVariants as why
use Rattle.machine_contract.specs.Side.{Mode, Side, CoreSide, Running, IsStarting, InCheckpoint, IsUp, IsFree, IsSoundCore, IsSound, begun, core_at, free_core}
use Rattle.machine_contract.specs.Lawful.{IsLawful, Helps, HoldsPage, OwesLess}
use Rattle.machine_contract.specs.Laws.{LetsGo}

-- What a machine begins with is sound.

pub begun_core : (n i : ℕ) → slice_index_or (replicate n free_core) i free_core ≡ free_core
begun_core zero i = refl
begun_core (suc n) zero = refl
begun_core (suc n) (suc i) = begun_core n i

pub not_running : (mode : Mode) → IsStarting mode → mode ≡ Running → ⊥
not_running mode starts runs = elim starts [ inl f ↦ cc | inr r ↦ cc ]

free_holds : (core : CoreSide) (entry : ℕ) → core ≡ free_core → core.holds ≡ Some entry → ⊥
free_holds core entry is h = let none : core.holds ≡ None = ap (λ (x : CoreSide). x.holds) is in cc

free_sound : IsSoundCore free_core
free_sound = record {
  due = (λ e. (refl, refl), λ e. refl);
  most = omega arith;
  copies = λ entry h. cc;
  one = inl refl;
}

pub begun_sound : (mode : Mode) (left cores : ℕ) (given : ℕ → Option ℕ) → IsStarting mode → 0 < left
    → IsSound (begun mode left cores given)
begun_sound mode left cores given starts some = record {
  left = (λ none. absurd (omega arith), λ runs. absurd (not_running mode starts runs));
  cores = λ core. rw (begun_core cores core) free_sound;
  leader = ap (λ (x : CoreSide). x.holds) (begun_core cores LEADER);
  held = λ core entry h.
      absurd (free_holds (slice_index_or (replicate cores free_core) core free_core) entry (begun_core cores core) h);
}

-- Before the board opens each turn of a core that owes turns lowers what it owes, and no core comes to owe any.

pub checkpoint_not : (mode : Mode) → InCheckpoint mode → mode ≡ Running → ⊥
checkpoint_not mode in_one runs = elim in_one [ inl b ↦ cc | inr a ↦ cc ]

pub checkpoint_starts : (mode : Mode) → InCheckpoint mode → IsStarting mode → ⊥
checkpoint_starts mode in_one starts = elim in_one [
  | inl b ↦ elim starts [ inl f ↦ cc | inr r ↦ cc ]
  | inr a ↦ elim starts [ inl f ↦ cc | inr r ↦ cc ]
]

help_owes : (old : Side) (core : ℕ) (new : Side) → IsSound old → old.is_open ≡ false → Helps old core new
    → LetsGo old core new
help_owes old core new sound closed h = elim h.step [
  | inl on ↦ inl on.1.due
  | inr rest ↦ elim rest [
    | inl draws ↦ absurd (let e : false ≡ true = sym closed ∙ draws.1.is_open in cc)
    | inr none ↦
        inr (ap (λ (x : Side). (core_at x core).due) none.rest ∙ (sound.cores core).due.1 (h.prepares, none.none))
  ]
]

inner_owes : (w : World) (old : Side) (core : ℕ) (answer : Why) (new : Side) → IsSound old
    → InCheckpoint old.mode → old.is_open ≡ false → core ≢ LEADER → IsLawful w old core (did.Inner answer) new
    → LetsGo old core new
inner_owes w old core (why.Copy entry) new s mode closed other h = absurd (checkpoint_not old.mode mode h.runs)
inner_owes w old core (why.Prepare page) new s mode closed other h =
    elim h.why [
      | inl already ↦ inl (h.due already)
      | inr begins ↦ absurd (checkpoint_not old.mode mode begins.at_tick.runs)
    ]
inner_owes w old core (why.Home page) new s mode closed other h = absurd (checkpoint_not old.mode mode h.at_tick.runs)
inner_owes w old core (why.Wait page on) new s mode closed other h =
    absurd (checkpoint_not old.mode mode h.at_tick.runs)
inner_owes w old core why.Help new s mode closed other h = help_owes old core new s closed h
inner_owes w old core why.Paused new s mode closed other h = elim h.why [
  | inl starts ↦ absurd (checkpoint_starts old.mode mode starts)
  | inr free ↦ inr (ap (λ (x : Side). (core_at x core).due) h.rest ∙ (s.cores core).due.1 free.1)
]
inner_owes w old core answer new s mode closed other h = absurd (other h.leader)

pub turn_owes : (w : World) (old : Side) (core : ℕ) (answer : Did) (new : Side) → IsSound old
    → InCheckpoint old.mode → old.is_open ≡ false → core ≢ LEADER → IsLawful w old core answer new
    → LetsGo old core new
turn_owes w old core did.Retired new s mode closed other h = absurd (checkpoint_not old.mode mode h.at_tick.runs)
turn_owes w old core did.Idle new s mode closed other h = absurd (checkpoint_not old.mode mode h.at_tick.runs)
turn_owes w old core (did.Inner answer) new s mode closed other h =
    inner_owes w old core answer new s mode closed other h
turn_owes w old core answer new s mode closed other h = absurd (other h.leader)

-- While the machine is up each turn of a core that owes turns lowers what it owes.

free_owes : (old : Side) (core : ℕ) → IsSound old → IsFree (core_at old core) → 0 < (core_at old core).due → ⊥
free_owes old core sound free busy = let none = (sound.cores core).due.1 free in absurd (omega arith)

pub leader_free : (old : Side) (core : ℕ) → IsSound old → core ≡ LEADER → (core_at old core).prepares ≡ None
    → IsFree (core_at old core)
leader_free old core sound leader none = (none, rw leader sound.leader)

up_starts : (mode : Mode) → IsUp mode → IsStarting mode → ⊥
up_starts mode up starts = elim up [
  | inl runs ↦ not_running mode starts runs
  | inr in_one ↦ checkpoint_starts mode in_one starts
]

help_busy : (old : Side) (core : ℕ) (new : Side) → IsSound old → 0 < (core_at old core).due → Helps old core new
    → OwesLess old core new
help_busy old core new sound busy h = elim h.step [
  | inl on ↦ on.1.due
  | inr rest ↦ elim rest [
    | inl draws ↦ absurd (free_owes old core sound (h.prepares, draws.1.none) busy)
    | inr none ↦ absurd (free_owes old core sound (h.prepares, none.none) busy)
  ]
]

inner_busy : (w : World) (old : Side) (core : ℕ) (answer : Why) (new : Side) → IsSound old → IsUp old.mode
    → 0 < (core_at old core).due → IsLawful w old core (did.Inner answer) new → OwesLess old core new
inner_busy w old core (why.Copy entry) new s up busy h = h.step.due
inner_busy w old core (why.Prepare page) new s up busy h = elim h.why [
  | inl already ↦ h.due already
  | inr begins ↦ absurd (free_owes old core s begins.at_tick.free busy)
]
inner_busy w old core (why.Home page) new s up busy h = absurd (free_owes old core s h.at_tick.free busy)
inner_busy w old core (why.Wait page on) new s up busy h = absurd (free_owes old core s h.at_tick.free busy)
inner_busy w old core why.Lead new s up busy h =
    absurd (free_owes old core s (leader_free old core s h.leader h.prepares) busy)
inner_busy w old core why.Help new s up busy h = help_busy old core new s busy h
inner_busy w old core why.Paused new s up busy h = elim h.why [
  | inl starts ↦ absurd (up_starts old.mode up starts)
  | inr free ↦ absurd (free_owes old core s free.1 busy)
]
inner_busy w old core why.Format new s up busy h = absurd (up_starts old.mode up (inl h.mode_is))
inner_busy w old core why.Recover new s up busy h = absurd (up_starts old.mode up (inr h.mode_is))

pub turn_busy : (w : World) (old : Side) (core : ℕ) (answer : Did) (new : Side) → IsSound old → IsUp old.mode
    → 0 < (core_at old core).due → IsLawful w old core answer new → OwesLess old core new
turn_busy w old core did.Retired new s up busy h = absurd (free_owes old core s h.at_tick.free busy)
turn_busy w old core did.Idle new s up busy h = absurd (free_owes old core s h.at_tick.free busy)
turn_busy w old core (did.Inner answer) new s up busy h = inner_busy w old core answer new s up busy h
turn_busy w old core (did.Committed v) new s up busy h =
    absurd (free_owes old core s (leader_free old core s h.leader (h.prepares core)) busy)
turn_busy w old core (did.Up v) new s up busy h = absurd (up_starts old.mode up h.mode)

-- Who is waited for owes turns.

some_owes : (core : CoreSide) → IsSoundCore core → (IsFree core → ⊥) → 0 < core.due
some_owes core sound busy =
    ⊎_elim
    (λ (some : 0 < core.due). some)
    (λ (none : core.due ≤ 0). absurd (busy (sound.due.0 (omega arith))))
    (cases_lt 0 core.due)

not_some : (o : Option ℕ) (k : ℕ) → o ≡ Some k → o ≡ None → ⊥
not_some o k some none = cc

waits_busy : (old : Side) (page other : ℕ) → ((core_at old other).prepares ≡ Some page) ⊎ HoldsPage old other page
    → IsFree (core_at old other) → ⊥
waits_busy old page other why free = elim why [
  | inl prepares ↦ not_some (core_at old other).prepares page prepares free.0
  | inr holds ↦ not_some (core_at old other).holds holds.0 holds.1 free.1
]

pub waits_owes : (w : World) (old : Side) (core page other : ℕ) (new : Side) → IsSound old
    → IsLawful w old core (did.Inner (why.Wait page other)) new → (0 < (core_at old other).due) × (other ≢ core)
waits_owes w old core page other new sound h = (
  some_owes (core_at old other) (sound.cores other) (waits_busy old page other h.why),
  λ same. waits_busy old page other h.why (rw same h.at_tick.free),
)
