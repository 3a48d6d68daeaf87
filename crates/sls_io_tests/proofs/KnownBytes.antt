-- Bytes behind bytes that may be told.
use Rattle.std.proofs.Common.{◌≡◌, ℕ, ◌+◌, min, List, ◌++◌, None, Some, length, take, refl, sym, ap, ◌∙◌, append_assoc, arith}
use Rattle.std.proofs.lemmas.List.{take-append-le, take_min}
use Rattle.std.proofs.Math.Seq.{take-append-add}
use Rattle.std.specs.declared.option.Option.{Option}
use Rattle.std.specs.Io.KnownBytes.{append_known}
use Rattle.sls_io.specs.Sink.{AppendsPrefix}

-- first some bytes and then others were written, as all of them at once
pub append_known-append : (known : Option (List ℕ)) (first second : List ℕ) → append_known known (first ++ second) ≡ append_known (append_known known first) second
append_known-append None first second = refl
append_known-append (Some before) first second = ap Some (sym (append_assoc before first second))

-- first some bytes were written and then a prefix of others, as a prefix of all of them
pub AppendsPrefix-append : (before now after : Option (List ℕ)) (first second : List ℕ) → now ≡ append_known before first → AppendsPrefix now after second → AppendsPrefix before after (first ++ second)
AppendsPrefix-append before now after first second whole prefix =
    let count = prefix.0 in
    (length first + count, prefix.1 ∙ ap (λ known. append_known known (take count second)) whole ∙ sym (append_known-append before first (take count second)) ∙ ap (append_known before) (sym (take-append-add first second count)))

-- a prefix of some bytes, as a prefix of longer ones
pub AppendsPrefix-longer : (before after : Option (List ℕ)) (bytes more : List ℕ) → AppendsPrefix before after bytes → AppendsPrefix before after (bytes ++ more)
AppendsPrefix-longer before after bytes more prefix =
    let count = min prefix.0 (length bytes) in
    (count, prefix.1 ∙ ap (append_known before) (sym (take-append-le count bytes more (omega arith) ∙ take_min prefix.0 bytes)))
