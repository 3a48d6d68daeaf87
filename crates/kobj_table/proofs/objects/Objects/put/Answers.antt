use Rattle.std.proofs.Common.{rules}
use Rattle.kobj_table.proofs.States.{put_state, put_whole, no_strays_kept}
use Rattle.kobj_table.proofs.objects.Objects.put.Goals as goal

pub returns-clause-puts : goal.returns-clause-puts
returns-clause-puts c = search rules

pub returns-clause-state : goal.returns-clause-state
returns-clause-state c rest object elsewhere is =
    put_state c.args.self.now _ c.args.id c.args.slot object rest (returns-clause-puts c) elsewhere is

pub returns-clause-whole : goal.returns-clause-whole
returns-clause-whole c rest elsewhere = put_whole c.args.self.now _ c.args.id c.args.slot rest (returns-clause-puts c) elsewhere

pub returns-clause-strays : goal.returns-clause-strays
returns-clause-strays c none at = no_strays_kept c.args.self.now _ c.args.id c.args.slot (returns-clause-puts c) none at
