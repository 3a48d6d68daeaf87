use Rattle.std.proofs.Common.{◌∙◌, ap, Some}
use Rattle.sls_io.proofs.ShelfLemmas.{entry_of-put, entry_of-put_other}
use Rattle.sls_io.proofs.memory.shelf.MemShelfShelf.put.Goals as goal

pub returns-clause-puts : goal.returns-clause-puts
returns-clause-puts c = entry_of-put c.args.self.now.names c.insert.new.self c.in_ok-key.key c.in_ok-value.value c.in_ok-insert.ensures.updates c.args.name.now c.in_ok-key.ensures.ok ∙ ap Some c.in_ok-value.ensures.items

pub returns-clause-others : goal.returns-clause-others
returns-clause-others c = λ other apart. entry_of-put_other c.args.self.now.names c.insert.new.self c.in_ok-key.key c.in_ok-value.value c.in_ok-insert.ensures.updates other (rw c.in_ok-key.ensures.ok apart)
