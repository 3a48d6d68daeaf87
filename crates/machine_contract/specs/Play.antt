-- Lists of events, with an answer to each: a chain over machines, of which each shows the course so far.
use Rattle.std.specs.Prelude.{◌≡◌, ℕ, ◌<◌, ◌≤◌, List, [], ◌∷◌, length}
use Rattle.sls_base.specs.declared.limits.TheConstants.{WORDS, OUTPUT_CHANNELS, ENTRY_BYTES}
use Rattle.plain_model.specs.Worlds.{World}
use Rattle.plain_laws.specs.Laws.{IsFirstPart}
use Rattle.machine_contract.specs.declared.answers.Event.{Event}
use Rattle.machine_contract.specs.declared.answers.Event.TheVariants.{Turn, Ask, TakeWish, WriteBack, Input, Accept, Cut}
use Rattle.machine_contract.specs.declared.answers.Answer.{Answer}
use Rattle.machine_contract.specs.Courses.{Course, label_of, after}
use Rattle.machine_contract.specs.Shown.{Seen, Format, IsShown}
use Rattle.machine_contract.specs.Goes.{Goes}

-- an event names a core, a word or a channel that there is, and an input has 1 to 56 bytes
abbrev pub IsPossible : ℕ → Event → Type 0
IsPossible cores (Turn core) = core < cores
IsPossible cores Ask = Unit {0}
IsPossible cores TakeWish = Unit {0}
IsPossible cores (WriteBack word) = word < WORDS
IsPossible cores (Input bytes) = (1 ≤ length bytes.items) × (length bytes.items ≤ ENTRY_BYTES)
IsPossible cores (Accept channel) = channel < OUTPUT_CHANNELS
IsPossible cores Cut = Unit {0}

-- One event with its answer: it does what it may in the course and from the side that those before it leave; and the
-- machine then shows the course after it. `M` are the machines, `seen` is what is seen of one, and `Shows` says which
-- courses it shows.
pub record Happens {M : Type 0} (format : Format) (seen : M → Seen) (Shows : M → Course → Type 0)
    (event : Event) (answer : Answer) (old : M) (c : Course) (new : M) : Type 0 where
  pub goes : Goes format event answer (seen old) c (seen new)
  pub shows : Shows new (after c (label_of event answer))
  pub shown : IsShown format (seen new) (after c (label_of event answer))

-- All events with an answer to each, one after another, from one machine to another. No event is left out or put off:
-- the next machine is the one that the event before it left.
abbrev pub IsPlayed : {M : Type 0} → Format → (M → Seen) → (M → Course → Type 0) → List Event → List Answer
    → M → Course → M → Type 0
IsPlayed format seen Shows [] [] old c new = old ≡ new
IsPlayed {M = M} format seen Shows (event ∷ events) (answer ∷ answers) old c new =
    (next : M) × Happens format seen Shows event answer old c next
    × IsPlayed format seen Shows events answers next (after c (label_of event answer)) new
IsPlayed format seen Shows events answers old c new = ⊥

-- What the device accepted of each channel is a first part of what the saved copy has put.
abbrev pub IsReleased : World → Type 0
IsReleased w = (channel : ℕ) → IsFirstPart (w.released channel) (w.saved.out channel)
