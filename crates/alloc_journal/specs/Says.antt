-- What a change says that is read from an entry.
use Rattle.std.specs.Prelude.{◌≡◌, ℕ}
use Rattle.alloc_journal.specs.declared.entry.Change.{Change}
use Rattle.alloc_journal.specs.Format.{number_of, comes}

abbrev pub Says : Change → ℕ → Type 0
Says change entry = (change.number ≡ number_of entry) × (change.comes ≡ comes entry)
