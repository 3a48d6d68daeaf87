use Rattle.std.proofs.Common.{arith}
use Rattle.kobj_codec.proofs.Heads.{notification_head}
use Rattle.kobj_codec.proofs.Parts.{same_notification}
use Rattle.kobj_codec.proofs.notification.read_notification.Goals as goal

pub returns : goal.returns
returns c = λ x i r. same_notification (notification_head x r) (c.read_list.ensures x.waiters.items i.waiters (λ k lt. r.behind k (omega arith)))
