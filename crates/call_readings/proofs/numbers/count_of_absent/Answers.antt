use Rattle.std.proofs.Common.{◌∙◌, ◌+◌, ◌*◌, ℕ, length, ap, refl, arith}
use Rattle.std.specs.Prelude.{slice_index_or, filter, not}
use Rattle.std.specs.List.{range_with_len}
use Rattle.call_readings.specs.NumberSets.{is_in}
use Rattle.call_readings.proofs.Members.{one_word_more}
use Rattle.call_readings.proofs.numbers.count_of_absent.Goals as goal

pub overflow_add-count : goal.overflow_add-count
overflow_add-count c = omega (arith, c.loop-word.invariant.1, c.count_zeros.ensures.bound)

pub loop-word-preserved : goal.loop-word-preserved
loop-word-preserved c =
    let words = c.args.words.now in
    let place = c.loop-word.word-index in (
      ap (λ n. c.loop-word.count + n) c.count_zeros.ensures.value
          ∙ one_word_more words place (slice_index_or words place 0) c.loop-word.count refl (omega arith) c.loop-word.invariant.0,
      omega (arith, c.loop-word.invariant.1, c.count_zeros.ensures.bound),
    )

pub returns : goal.returns
returns c = c.loop-word.invariant.0 ∙ ap (λ (n : ℕ). length (filter (λ number. not (is_in c.args.words.now number)) (range_with_len 0 (64 * n)))) (omega arith)
