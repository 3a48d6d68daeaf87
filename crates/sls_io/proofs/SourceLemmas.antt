-- What a read of bytes in memory gives and leaves.
use Rattle.std.proofs.Common.{◌≡◌, ◌≤◌, ◌<◌, ◌+◌, ◌-◌, min, ℕ, List, ◌++◌, Some, Result, Ok, Err, IfOk, length, take, drop, sym, ap, ◌∙◌, arith, take_at, take-append-drop, drop-drop, length-take-le, length-append, length-drop}
use Rattle.std.proofs.lemmas.List.{drop_all}
use Rattle.std.specs.Io.{ReadsAtMost}
use Rattle.std.specs.Io.KnownBytes.{prepend_known, IsAtEnd}

-- as many bytes as are left and have room stand in the front of the buffer, and the place moves past them
record Copies (bytes old new : List ℕ) (at next count : ℕ) : Type 0 where
  size : count ≡ min (length bytes - at) (length old)
  given : new ≡ take count (drop at bytes) ++ drop count old
  moved : next ≡ at + count

module _ {bytes old new : List ℕ} {at next count : ℕ} (copies : Copies bytes old new at next count) where
  length_front : length (take count (drop at bytes)) ≡ count
  length_front = length-take-le count (drop at bytes) (omega (arith, length-drop at bytes, copies.size))

  length_buffer : length new ≡ length old
  length_buffer = ap length copies.given ∙ length-append (take count (drop at bytes)) (drop count old) ∙ omega (arith, length_front, length-drop count old, copies.size)

  front : take count new ≡ take count (drop at bytes)
  front = ap (take count) copies.given ∙ take_at (take count (drop at bytes)) (drop count old) count length_front

  -- the count fits the buffer
  within : (count ≤ length new) × (count ≡ length (take count new))
  within = (omega (arith, length_buffer, copies.size), sym (ap length front ∙ length_front))

  -- the bytes left were the ones given and then the ones that are left now
  consumed : drop at bytes ≡ take count new ++ drop next bytes
  consumed = rw (front, copies.moved, ← drop-drop count at bytes) (sym (take-append-drop count (drop at bytes)))

  -- none given into a buffer with room, so none is left
  at_end : count ≡ 0 → 0 < length new → length bytes ≤ next
  at_end none room = omega (arith, copies.size, copies.moved, length_buffer)

module _ {E : Type 0} (bytes old new : List ℕ) (at next : ℕ) where
  -- the same of what a call answers
  pub bound_from_copies : (result : Result ℕ E) → IfOk result (λ count. count ≡ min (length bytes - at) (length old)) → IfOk result (λ count. new ≡ take count (drop at bytes) ++ drop count old)
      → IfOk result (λ count. next ≡ at + count) → ReadsAtMost result new
  bound_from_copies (Ok count) size given moved = within (record { size = size; given = given; moved = moved })
  bound_from_copies (Err error) size given moved = tt

  pub bytes_from_copies : (result : Result ℕ E) → IfOk result (λ count. count ≡ min (length bytes - at) (length old)) → IfOk result (λ count. new ≡ take count (drop at bytes) ++ drop count old)
      → IfOk result (λ count. next ≡ at + count) → IfOk result (λ count. Some (drop at bytes) ≡ prepend_known (take count new) (Some (drop next bytes)))
  bytes_from_copies (Ok count) size given moved = ap Some (consumed (record { size = size; given = given; moved = moved }))
  bytes_from_copies (Err error) size given moved = tt

  pub end_from_copies : (result : Result ℕ E) → IfOk result (λ count. count ≡ min (length bytes - at) (length old)) → IfOk result (λ count. new ≡ take count (drop at bytes) ++ drop count old)
      → IfOk result (λ count. next ≡ at + count) → IfOk result (λ count. count ≡ 0 → 0 < length new → IsAtEnd (Some (drop next bytes)) × (length bytes ≤ next))
  end_from_copies (Ok count) size given moved = λ none room. let past = at_end (record { size = size; given = given; moved = moved }) none room in (drop_all next bytes past, past)
  end_from_copies (Err error) size given moved = tt
