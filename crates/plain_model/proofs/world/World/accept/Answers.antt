use Rattle.std.proofs.Common.{◌≡◌, ◌∙◌, List, Some, length, ap, refl, sym, arith}
use Rattle.std.specs.Prelude.{slice_get}
use Rattle.plain_state.specs.declared.effect.Output.{Output}
use Rattle.plain_state.specs.Slow.{state_of, entries_of}
use Rattle.plain_model.specs.SlowWorld.{world_of}
use Rattle.plain_model.proofs.SlowWorlds.{one_released, accept_some, reply_some}
use Rattle.plain_model.proofs.world.World.accept.Goals as goal

pub returns : goal.returns
unfolding world_of state_of
returns c =
    let w = c.args.self.now in
    let channel = c.args.channel in
    let number = c.accepted-number.result in
    let bytes = c.in-Some.bytes in
    let count : length (entries_of w.released.items channel) ≡ number = omega (arith, c.accepted-number.ensures) in
    let found : slice_get (entries_of w.saved.out.items channel) (length (entries_of w.released.items channel)) ≡ Some bytes.items =
    ap (slice_get (entries_of w.saved.out.items channel)) count
    ∙ ap (λ (l : List Output). slice_get (entries_of l channel) number) (sym c.as_slice.ensures.value)
    ∙ sym c.in-Some.ensures in
    let released = one_released w.released.items c.push.new.self.items (record { channel = channel; bytes = c.copy_of_bytes.result }) channel bytes.items refl (ap (λ b. b.items) c.copy_of_bytes.ensures) c.in_ok-push.ensures.items in
    record {
      reply = reply_some (world_of w) channel number bytes.items found c.accepted-number.ensures;
      world = accept_some (world_of w) channel bytes.items (entries_of c.push.new.self.items) found released;
      refused = tt;
    }
