use Rattle.std.proofs.Common.{rules}
use Rattle.kobj_table.specs.declared.slot.Slot.{Slot}
use Rattle.kobj_table.proofs.States.{put_whole}
use Rattle.kobj_table.proofs.objects.Objects.take.Goals as goal

pub returns-clause-empty : goal.returns-clause-empty
returns-clause-empty c = search rules

pub returns-clause-state : goal.returns-clause-state
returns-clause-state c rest elsewhere = put_whole c.args.self.now _ c.args.id Slot.Empty rest (returns-clause-empty c) elsewhere
