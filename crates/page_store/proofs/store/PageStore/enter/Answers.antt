use Rattle.std.proofs.Common.{rules}
use Rattle.page_store.proofs.Moves.{moved}
use Rattle.page_store.proofs.store.PageStore.enter.Goals as goal

pub returns : goal.returns
returns c = moved c.args.self.now.entries c.args.self.now.version c.args.page c.args.stage (search rules)
