use Rattle.page_store.proofs.Moves.{new_stage, new_at, new_shows}
use Rattle.page_store.proofs.store.PageStore.new.Goals as goal

pub returns-clause-fresh : goal.returns-clause-fresh
returns-clause-fresh c = λ page lt. new_stage c.args.version page lt

pub returns-clause-shows : goal.returns-clause-shows
returns-clause-shows c = λ f tags. new_shows f c.args.version (new_at c.args.version) (new_stage c.args.version) tags

pub returns-clause-at : goal.returns-clause-at
returns-clause-at c = new_at c.args.version
