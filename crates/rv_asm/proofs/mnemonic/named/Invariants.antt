use Rattle.std.proofs.Common.{◌≡◌, map, drop}
use Rattle.rv_asm.specs.Names.{named}
use Rattle.rv_asm.specs.Table.{entry_of}
use Rattle.rv_asm.proofs.mnemonic.named.Given as goal

-- the name is looked up among the entries that are left
abbrev pub invariant-loop-known : goal.invariant-loop-known
invariant-loop-known l = named (map entry_of (drop l.known-index l.table)) l.name ≡ named (map entry_of l.table) l.name
