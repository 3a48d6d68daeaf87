use Rattle.rv_asm.specs.Names.{mnemonic_of}
use Rattle.rv_asm.proofs.Table.{mnemonic_known}
use Rattle.rv_asm.proofs.mnemonic.mnemonic_of.Goals as goal

pub returns-clause-in_range : goal.returns-clause-in_range
unfolding mnemonic_of
returns-clause-in_range c = rw c.named.ensures (mnemonic_known c.args.name.now)
