-- What the slow form's choice of a thread means.
use Rattle.plain_state.specs.declared.tick.Chosen.{Chosen as SlowChosen}
use Rattle.plain_state.specs.Ticks.{Chosen}

abbrev pub chosen_of : SlowChosen → Chosen
chosen_of c = record { occupant = c.occupant; queue = c.queue.items }
