use Rattle.std.proofs.Common.{arith, refl, sym}
use Rattle.std.specs.Prelude.{slice_index_or}
use Rattle.call_readings.proofs.Members.{least_found, none_found}
use Rattle.call_readings.proofs.numbers.least_absent.Goals as goal

pub returns-then-word-clause-absent : goal.returns-then-word-clause-absent
returns-then-word-clause-absent c =
    let words = c.args.words.now in
    let place = c.loop-place.place in
    let least = least_found words place (slice_index_or words place 0) c.loop-place.invariant (omega arith) refl (omega arith) (omega arith) in
    rw c.trailing_ones.ensures least.0

pub returns-then-word-clause-least : goal.returns-then-word-clause-least
returns-then-word-clause-least c =
    let words = c.args.words.now in
    let place = c.loop-place.place in
    let least = least_found words place (slice_index_or words place 0) c.loop-place.invariant (omega arith) refl (omega arith) (omega arith) in
    rw c.trailing_ones.ensures (sym least.2)

pub returns-clause-least : goal.returns-clause-least
returns-clause-least c = sym (none_found c.args.words.now (λ j l. c.loop-place.invariant j (omega arith)))
