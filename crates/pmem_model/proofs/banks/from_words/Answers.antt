use Rattle.std.proofs.Common.{true, is_some, ◌≡◌, ℕ, ◌+◌, ◌-◌, ◌<◌, ◌≤◌, arith, get_or, None, ⊎_elim, refl, length, take, drop}
use Rattle.std.proofs.lemmas.Grind.{common_steps}
use Rattle.std.proofs.lemmas.Bool.{cases_lt}
use Rattle.std.proofs.lemmas.List.{get_or_past}
use Rattle.std.proofs.lemmas.List.Edits.{get_or-between}
use Rattle.pmem_model.specs.Words.{Word, bank_len}
use Rattle.pmem_model.specs.Places.{bank_of, offset_of, bank_size, bank_start, word_of, HasSize}
use Rattle.sls_base.specs.declared.limits.TheConstants.{FRAMES, WORDS}
use Rattle.pmem_model.proofs.PlaceLemmas.{place_sum, offset_of_lt, bank_of_lt, bank_of_ge, bank_end}
use Rattle.pmem_model.proofs.PartLemmas.{parts_whole}
use Rattle.pmem_model.proofs.Pushes.{each_pushed, all_pushed}
use Rattle.pmem_model.proofs.banks.from_words.Goals as goal

abbrev clean : ℕ → Word
clean x = record { cached = x; durable = x; marks = 0 }

pub from_words-requires : goal.from_words-requires
from_words-requires c =
    let k = c.loop-k.k in
    let words = c.args.words.now in
    let from = c.start-from.result in
    let end = bank_end k (omega arith) in
    let len : length (take (from + c.size.result - from) (drop from words)) ≡ bank_size k = grind (arith, common_steps, end) in
    rw len (parts_whole k)

pub loop-k-preserved : goal.loop-k-preserved
loop-k-preserved c =
    let banks = c.loop-k.banks.items in
    let bank = c.in_ok-from_words.field-0 in
    let words = c.args.words.now in
    let k = c.loop-k.k in
    let before = c.loop-k.invariant in
    let len : bank_len bank ≡ bank_size k = grind (arith, common_steps) in
    rw c.in_ok-push.ensures.items (record {
      count = grind (arith, common_steps);
      words = λ j o lt inside. each_pushed (λ n b. o < bank_size n → word_of b o ≡ clean (get_or words (bank_start n + o) 0)) banks bank k before.count
          (λ n below within. before.words n o below within)
          (λ within. let each = c.in_ok-from_words.ensures.words in let part = get_or-between words (bank_start k) (bank_start k + bank_size k) o 0 (omega arith) in
          rw part at (rw (c.start-from.ensures, c.size.ensures) at each o))
          j lt inside;
      home = each_pushed (λ n b. is_some b ≡ true) banks bank k before.count before.home refl;
      sizes = all_pushed (λ n b. HasSize b (bank_size n)) banks bank k before.count before.sizes len (λ n. tt);
    })

pub returns-clause-words : goal.returns-clause-words
returns-clause-words c = λ i.
    let count : c.loop-k.k ≡ 1 + FRAMES = omega arith in
    ⊎_elim
    (λ (low : i < WORDS). let w = c.loop-k.invariant.words (bank_of i) (offset_of i) (omega (arith, bank_of_lt i low)) (offset_of_lt i) in rw (place_sum i) at w)
    (λ (high : WORDS ≤ i). rw (get_or_past c.loop-k.banks.items (bank_of i) None (omega (arith, bank_of_ge i high)), get_or_past c.args.words.now i 0 (omega arith)) refl)
    (cases_lt i WORDS)
