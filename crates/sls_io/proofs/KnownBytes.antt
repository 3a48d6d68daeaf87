-- Bytes before bytes that may be told.
use Rattle.std.proofs.Common.{◌≡◌, ℕ, List, ◌++◌, None, Some, refl, ap, append_assoc}
use Rattle.std.specs.declared.option.Option.{Option}
use Rattle.std.specs.Io.KnownBytes.{prepend_known}

-- first some bytes and then others are left, as all of them at once
pub prepend_known-append : (first second : List ℕ) (known : Option (List ℕ)) → prepend_known (first ++ second) known ≡ prepend_known first (prepend_known second known)
prepend_known-append first second None = refl
prepend_known-append first second (Some rest) = ap Some (append_assoc first second rest)
