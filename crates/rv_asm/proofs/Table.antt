-- The ops of the mnemonics are those of the table of instructions.
use Rattle.std.proofs.Common.{ℕ, IfSome, List, [], ◌∷◌, rules}
use Rattle.std.proofs.lemmas.Bool.{cond_both}
use Rattle.std.specs.List.{AllByRecursion}
use Rattle.std.specs.Str.{bytes_eq}
use Rattle.rv_asm.specs.Names.{Entry, mnemonics, named, mnemonic_of, IsMnemonic}

abbrev AreKnown : List Entry → Type 0
AreKnown entries = AllByRecursion (λ (e : Entry). IsMnemonic e.1) entries

all_known : AreKnown mnemonics
all_known = search rules

-- what a list has is one of its entries
named_known : (entries : List Entry) (name : List ℕ) → AreKnown entries → IfSome (named entries name) IsMnemonic
named_known [] name h = tt
named_known (e ∷ es) name h =
    cond_both (bytes_eq e.0 name) _ _ (λ found. IfSome found IsMnemonic) (λ _. h.0) (λ _. named_known es name h.1)

pub mnemonic_known : (name : List ℕ) → IfSome (mnemonic_of name) IsMnemonic
unfolding mnemonic_of
mnemonic_known name = named_known mnemonics name all_known
