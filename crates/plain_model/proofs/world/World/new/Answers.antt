use Rattle.std.proofs.Common.{◌∙◌}
use Rattle.plain_model.specs.Initial as plain
use Rattle.plain_state.specs.Slow.{state_of}
use Rattle.plain_model.specs.SlowWorld.{world_of}
use Rattle.plain_model.proofs.SlowInitial.{first_world}
use Rattle.plain_model.proofs.world.World.new.Goals as goal

pub returns : goal.returns
unfolding world_of state_of
returns c =
    first_world (state_of c.in_ok-now.now) (state_of c.in_ok-saved.saved) (plain.initial c.args.image.now c.args.cores) c.new.result.items c.new-2.result.items c.new-3.result.items
    c.in_ok-now.ensures (c.in_ok-saved.ensures ∙ c.in_ok-now.ensures) c.new.ensures.items c.new-2.ensures.items c.new-3.ensures.items
