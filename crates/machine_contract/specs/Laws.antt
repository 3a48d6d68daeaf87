-- What the laws speak of.
use Rattle.std.specs.Prelude.{◌≡◌, ◌⊎◌, ℕ, ◌+◌, ◌==◌, nat_lt, not, if◌then◌else◌, count_by, List, [], ◌∷◌, Option, Some, None}
use Rattle.plain_state.specs.declared.label.Label.{Label}
use Rattle.plain_state.specs.declared.label.Label.TheVariants as label
use Rattle.plain_model.specs.Worlds.{World}
use Rattle.plain_model.specs.MayStep.{MayStep}
use Rattle.machine_contract.specs.declared.answers.Event.{Event}
use Rattle.machine_contract.specs.declared.answers.Event.TheVariants.{Turn}
use Rattle.machine_contract.specs.declared.answers.Answer.{Answer}
use Rattle.machine_contract.specs.declared.answers.Answer.TheVariants as told
use Rattle.machine_contract.specs.declared.answers.Did.{Did}
use Rattle.machine_contract.specs.declared.answers.Did.TheVariants as did
use Rattle.machine_contract.specs.declared.answers.Why.TheVariants as why
use Rattle.machine_contract.specs.Side.{Side, core_at}
use Rattle.machine_contract.specs.Lawful.{IsAway, OwesLess}
use Rattle.machine_contract.specs.Courses.{Course, label_of, after}
use Rattle.machine_contract.specs.Shown.{Seen, Format}
use Rattle.machine_contract.specs.Play.{IsPlayed}

-- Labels.

-- the label may befall the world, if there is one
abbrev pub MayStepIf : World → Option Label → Type 0
MayStepIf w None = Unit {0}
MayStepIf w (Some label) = MayStep w label

-- no label is a commit
abbrev pub NoCommit : List Label → Type 0
NoCommit [] = Unit {0}
NoCommit (label.Commit ∷ labels) = ⊥
NoCommit (label ∷ labels) = NoCommit labels

-- Turns.

-- all events are turns
abbrev pub AreTurns : List Event → Type 0
AreTurns [] = Unit {0}
AreTurns (Turn core ∷ events) = AreTurns events
AreTurns (event ∷ events) = ⊥

-- by how many of the events fewer turns of the leader are left
abbrev pub fallen : {M : Type 0} (format : Format) (seen : M → Seen) (Shows : M → Course → Type 0)
    (events : List Event) (answers : List Answer) (old : M) (c : Course) (new : M)
    → IsPlayed format seen Shows events answers old c new → ℕ
fallen format seen Shows [] [] old c new h = 0
fallen format seen Shows (event ∷ events) (answer ∷ answers) old c new h =
    (if nat_lt (seen h.0).side.left (seen old).side.left then 1 else 0)
    + fallen format seen Shows events answers h.0 (after c (label_of event answer)) new h.2
fallen format seen Shows [] (answer ∷ answers) old c new h = absurd h
fallen format seen Shows (event ∷ events) [] old c new h = absurd h

-- a step of the leader, or the commit
abbrev pub IsLead : Did → Type 0
IsLead (did.Inner why.Lead) = Unit {0}
IsLead (did.Committed version) = Unit {0}
IsLead _ = ⊥

-- each answer is one
abbrev pub AreLeads : List Answer → Type 0
AreLeads [] = Unit {0}
AreLeads (told.Did did ∷ answers) = IsLead did × AreLeads answers
AreLeads (answer ∷ answers) = ⊥

-- Epochs.

-- how often a turn prepared a page: once or not
abbrev pub prepared : Did → ℕ → ℕ
prepared (did.Inner (why.Prepare k)) page = if page == k then 1 else 0
prepared _ page = 0

-- by how many of the answers a page was prepared
abbrev pub prepared_by : List Answer → ℕ → ℕ
prepared_by [] page = 0
prepared_by (told.Did did ∷ answers) page = prepared did page + prepared_by answers page
prepared_by (answer ∷ answers) page = prepared_by answers page

-- the turn doesn't end the epoch
abbrev pub StaysDid : Did → Type 0
StaysDid (did.Committed version) = ⊥
StaysDid (did.Up version) = ⊥
StaysDid _ = Unit {0}

-- no turn ends the epoch
abbrev pub StaysInEpoch : List Answer → Type 0
StaysInEpoch [] = Unit {0}
StaysInEpoch (told.Did did ∷ answers) = StaysDid did × StaysInEpoch answers
StaysInEpoch (answer ∷ answers) = StaysInEpoch answers

-- What cores have in hand.

-- a core owes fewer turns than before, or none
abbrev pub LetsGo : Side → ℕ → Side → Type 0
LetsGo old core new = OwesLess old core new ⊎ ((core_at new core).due ≡ 0)

-- No page is prepared by two cores, and none that is away is; no entry is held by two.
pub record AreApart (side : Side) : Type 0 where
  pub pages : (a b page : ℕ) → (core_at side a).prepares ≡ Some page → (core_at side b).prepares ≡ Some page → a ≡ b
  pub home : (core page : ℕ) → (core_at side core).prepares ≡ Some page → IsAway side.board page → ⊥
  pub entries : (a b entry : ℕ) → (core_at side a).holds ≡ Some entry → (core_at side b).holds ≡ Some entry → a ≡ b

-- how many entries are away
abbrev pub away_count : Side → ℕ
away_count side = count_by (λ entry. not entry.home) side.board
