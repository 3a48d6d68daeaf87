use Rattle.std.proofs.Common.{◌∙◌, ◌+◌, refl, ap, map, arith}
use Rattle.std.proofs.lemmas.List.{map_push}
use Rattle.plain_state.specs.Objects as plain
use Rattle.plain_state.specs.Slow.{object_of}
use Rattle.plain_state.specs.declared.object.Object.TheVariants as slow
use Rattle.plain_model.proofs.SlowInitial.{behind_more}
use Rattle.plain_model.proofs.initial.fixed_objects.Goals as goal

pub loop-channel-preserved : goal.loop-channel-preserved
loop-channel-preserved c =
    let list = c.loop-channel.list.items in
    let ring = slow.OutputRing c.loop-channel.channel in
    behind_more plain.OutputRing (map object_of c.push-2.new.self.items) (map object_of list) (map object_of c.push-in-loop-channel.new.self.items) (object_of ring) 0 c.loop-channel.channel (c.loop-channel.channel + 1)
    c.loop-channel.invariant (ap (map object_of) c.in_ok-push-3.ensures.items ∙ map_push object_of list ring) (ap plain.OutputRing (omega arith)) refl
