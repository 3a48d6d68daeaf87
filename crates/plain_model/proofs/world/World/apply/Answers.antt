use Rattle.std.proofs.Common.{◌==◌, ℕ}
use Rattle.std.specs.Prelude.{◌||◌}
use Rattle.plain_state.specs.Slow.{state_of, effect_of}
use Rattle.plain_state.specs.SlowChosen.{chosen_of}
use Rattle.plain_model.specs.SlowWorld.{world_of, is_in}
use Rattle.plain_state.specs.Ticks.{state_of_effect, stores_to, writes}
use Rattle.plain_model.proofs.SlowWorlds.{world_same}
use Rattle.plain_model.proofs.world.World.apply.Goals as goal

pub returns-clause-world : goal.returns-clause-world
unfolding world_of
returns-clause-world c =
    let w = c.args.self.now in
    let e = effect_of c.args.effect in
    world_same (world_of w) (state_of c.in_ok-self.field-0) (state_of_effect (state_of w.running) c.args.core (chosen_of c.args.chosen) e)
    (is_in c.in_ok-stored.stored.items) (λ (page : ℕ). is_in w.stored.items page || stores_to (state_of w.running) e page)
    (is_in c.in_ok-changed.changed.items) (λ (i : ℕ). is_in w.changed.items i || ((i == 1) || ((i == c.args.chosen.occupant.thread) || writes e i)))
    c.in_ok-self.ensures c.in_ok-stored.ensures c.in_ok-changed.ensures
