-- A list after a call has written it.
use Rattle.std.proofs.Common.{◌≡◌, ℕ, sym, List, ◌++◌, length, take, drop}
use Rattle.std.proofs.Math.Seq.{take-append_seam}

-- the whole of a list is written
pub whole_written : {A : Type 0} (len : ℕ) (new old : List A) → length new ≡ length old → len ≡ length old → take len (new ++ drop (length new) old) ≡ new
whole_written len new old same is = rw (is, sym same) (take-append_seam new (drop (length new) old))
