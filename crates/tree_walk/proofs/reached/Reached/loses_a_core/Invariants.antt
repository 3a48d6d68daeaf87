use Rattle.std.proofs.Common.{◌≡◌, take, false}
use Rattle.std.specs.Prelude.{map, option_map}
use Rattle.std.specs.List.{list_any}
use Rattle.plain_model.specs.States.{State}
use Rattle.plain_model.specs.Sweep.{is_lost, thread_on}
use Rattle.kobj_table.specs.Slots.{occupant_of}
use Rattle.tree_walk.specs.Reached.{TellsReached}
use Rattle.tree_walk.proofs.reached.Reached.loses_a_core.Given as goal

abbrev pub invariant-loop-core : goal.invariant-loop-core
invariant-loop-core l =
    (s : State) → TellsReached l.self s → list_any (λ core. is_lost s (thread_on core)) (take l.core (map (option_map occupant_of) l.cores.running)) ≡ false
