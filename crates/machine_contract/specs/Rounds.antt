-- Rounds of turns.
use Rattle.std.specs.Prelude.{ℕ, zero, suc, ◌+◌, List, [], ◌∷◌}
use Rattle.machine_contract.specs.declared.answers.Event.{Event}
use Rattle.machine_contract.specs.declared.answers.Event.TheVariants.{Turn}

-- so many cores, from one on, take a turn each, and then further events come
abbrev pub turns_then : ℕ → ℕ → List Event → List Event
turns_then zero core events = events
turns_then (suc more) core events = Turn core ∷ turns_then more (core + 1) events

-- so many rounds, in each of which each core takes a turn, from core 0 on
abbrev pub rounds : ℕ → ℕ → List Event
rounds cores zero = []
rounds cores (suc more) = turns_then cores 0 (rounds cores more)
