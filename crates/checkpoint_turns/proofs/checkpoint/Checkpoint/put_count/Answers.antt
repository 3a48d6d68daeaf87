use Rattle.std.specs.Prelude.{◌≡◌, ◌+◌}
use Rattle.std.proofs.Common.{subst, sym}
use Rattle.sls_base.specs.declared.fixed.TheConstants.{FIRST_OUTPUT_RING}
use Rattle.kobj_table.specs.declared.objects.Objects.{Objects}
use Rattle.kobj_table.specs.declared.slot.Slot.{Slot}
use Rattle.kobj_table.specs.Objects.{slot_at}
use Rattle.checkpoint_turns.proofs.DeviceOffers.{put_is}
use Rattle.checkpoint_turns.proofs.checkpoint.Checkpoint.put_count.Goals as goal

pub returns : goal.returns
returns c = λ accepted m w h.
    let channel = c.args.channel in
    put_is c.args.self.now accepted m w h channel c.count_of.result c.requires.channel (λ ring is.
    c.count_of.ensures ring
    (subst (λ (o : Objects). slot_at o (FIRST_OUTPUT_RING + channel) ≡ Slot.Ring ring) (sym c.objects.ensures) is))
