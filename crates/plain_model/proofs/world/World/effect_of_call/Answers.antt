use Rattle.plain_model.specs.SlowWorld.{world_of}
use Rattle.plain_model.proofs.SlowRefusals.{put_size, signal_room}
use Rattle.plain_model.proofs.world.World.effect_of_call.Goals as goal

pub put_effect-requires : goal.put_effect-requires
unfolding world_of
put_effect-requires c = put_size (world_of c.args.self.now) c.args.id c.args.thread.now (cc)

pub signal_effect-requires : goal.signal_effect-requires
unfolding world_of
signal_effect-requires c = signal_room (world_of c.args.self.now) c.args.id c.args.thread.now (cc)
