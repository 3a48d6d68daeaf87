-- A shelf in memory.
use Rattle.std.specs.Prelude.{ℕ, map, String, string_bytes, Vec}
use Rattle.std.specs.BTreeMap.{BTreeMap}
use Rattle.sls_io.specs.Shelf.{Names}

module _ {A B : Type 0} where
  -- the names of a map with what stands under them
  abbrev pub names_of : BTreeMap (String A) (Vec ℕ B) → Names
  names_of names = map (λ entry. (string_bytes entry.0, entry.1.items)) names.entries
