use Rattle.std.proofs.Common.{◌≡◌, ◌*◌, ◌≤◌, length}
use Rattle.std.specs.Prelude.{filter, not}
use Rattle.std.specs.List.{range_with_len}
use Rattle.call_readings.specs.NumberSets.{is_in}
use Rattle.call_readings.proofs.numbers.count_of_absent.Given as goal

abbrev pub invariant-loop-word : goal.invariant-loop-word
invariant-loop-word l =
    (l.count ≡ length (filter (λ number. not (is_in l.words number)) (range_with_len 0 (64 * l.word-index))))
    × (l.count ≤ 64 * l.word-index)
