-- The code's table of mnemonics.
use Rattle.std.specs.Prelude.{ℕ, List}
use Rattle.std.specs.Borrow.{Bor}
use Rattle.rv_asm.specs.declared.mnemonic.Mnemonic.{Mnemonic}
use Rattle.rv_asm.specs.Names.{Entry}

-- an entry without where its name lies in memory
abbrev pub entry_of : Bor (List ℕ) × Mnemonic → Entry
entry_of entry = (entry.0.now, entry.1)
