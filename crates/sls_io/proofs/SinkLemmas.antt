-- What a writer has taken of some bytes, piece by piece.
use Rattle.std.proofs.Common.{◌≡◌, ℕ, ◌+◌, List, ◌++◌, length, take, drop, subst, sym, ap, ◌∙◌, append_assoc, take-append-drop}
use Rattle.std.proofs.KnownBytes.{Appends-trans, Appends-kept}
use Rattle.std.proofs.Math.Seq.{take-append-add}
use Rattle.std.specs.declared.option.Option.{Option}
use Rattle.std.specs.Io.KnownBytes.{Appends, Keeps}

-- the writer has all the bytes before the rest
abbrev pub TakesBefore : Option (List ℕ) → Option (List ℕ) → List ℕ → List ℕ → Type 0
TakesBefore before now bytes rest = (count : ℕ) × Appends before now (take count bytes) × (take count bytes ++ rest ≡ bytes)

module _ (before now after : Option (List ℕ)) (bytes rest : List ℕ) (taken : TakesBefore before now bytes rest) where
  -- then it takes the first ones of the rest
  pub takes_more : (count : ℕ) → Appends now after (take count rest) → TakesBefore before after bytes (drop count rest)
  takes_more count more =
      let front = take taken.0 bytes in
      let joined : take (length front + count) bytes ≡ front ++ take count rest = ap (take (length front + count)) (sym taken.2) ∙ take-append-add front rest count in (
        length front + count,
        subst (Appends before after) (sym joined) (Appends-trans before now after front (take count rest) taken.1 more),
        ap (λ bs. bs ++ drop count rest) joined ∙ append_assoc front (take count rest) (drop count rest) ∙ ap (λ bs. front ++ bs) (take-append-drop count rest) ∙ taken.2,
      )

  -- then it takes nothing
  pub takes_none : Keeps now after → TakesBefore before after bytes rest
  takes_none kept = (taken.0, Appends-kept before now after (take taken.0 bytes) taken.1 kept, taken.2)
