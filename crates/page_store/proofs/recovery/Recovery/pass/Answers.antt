use Rattle.std.proofs.Common.{sym}
use Rattle.page_store.proofs.BackSteps.{passes}
use Rattle.page_store.proofs.recovery.Recovery.pass.Goals as goal

pub returns-clause-moves : goal.returns-clause-moves
returns-clause-moves c = rw (sym c.requires.at)
    (passes c.args.self.now.pages c.enter.new.self c.args.self.now.page c.args.self.now.next c.args.self.now.is_fenced c.args.stage
    (rw (sym c.requires.at) at c.enter.ensures))
