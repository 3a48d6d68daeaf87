use Rattle.std.proofs.Common.{◌≡◌, ℕ, ◌+◌, ◌*◌, ◌<◌, List, [], ◌∷◌, ◌++◌, length, length-append, slice_index, arith, sym, subst, ap, ◌∙◌, ⊎_elim}
use Rattle.std.proofs.lemmas.Grind.{common_steps}
use Rattle.std.proofs.lemmas.Bool.{cases_lt}
use Rattle.std.proofs.Math.ListN.{get_or-append}
use Rattle.std.proofs.Math.Seq.{get_or-append_seam}
use Rattle.sls_kernel.specs.Words.{byte_of}
use Rattle.sls_kernel.proofs.Begins.{page_of}
use Rattle.sls_kernel.proofs.program.page_words.Goals as goal

-- a word has these bytes
HasBytes : List ℕ → ℕ → ℕ → Type 0
HasBytes content j word = (k : ℕ) → k < 8 → byte_of word k ≡ slice_index content (8 * j + k)

-- what each word of a list has, and one more behind them, each word of both has
pushed : (content words : List ℕ) (word : ℕ) → ((j : ℕ) → j < length words → HasBytes content j (slice_index words j)) → HasBytes content (length words) word
    → (j : ℕ) → j < length words + 1 → HasBytes content j (slice_index (words ++ word ∷ []) j)
unfolding HasBytes
pushed content words word before last j below = ⊎_elim
    (λ (early : j < length words). subst (HasBytes content j) (sym (get_or-append words (word ∷ []) 0 j early)) (before j early))
    (λ late.
    let at : length words ≡ j = omega arith in
    subst (λ (i : ℕ). HasBytes content i (slice_index (words ++ word ∷ []) i)) at (subst (HasBytes content (length words)) (sym (get_or-append_seam words word [] 0)) last))
    (cases_lt j (length words))

pub loop-i-preserved : goal.loop-i-preserved
unfolding HasBytes
loop-i-preserved c =
    let content = c.content-content.result.now in
    let words = c.loop-i.words.items in
    let word = c.word_from.result in
    let count : length words ≡ c.loop-i.i = c.loop-i.invariant.count in
    let both : (j : ℕ) → j < length words + 1 → HasBytes content j (slice_index (words ++ word ∷ []) j) =
    pushed content words word (rw count c.loop-i.invariant.bytes) (rw count c.word_from.ensures) in
    let items = c.in_ok-push.ensures.items in
    let bytes : (j : ℕ) → j < length words + 1 → HasBytes content j (slice_index c.push.new.self.items j) =
    subst (λ (xs : List ℕ). (j : ℕ) → j < length words + 1 → HasBytes content j (slice_index xs j)) (sym items) both in
    record {
      count = ap length items ∙ length-append words (word ∷ []) ∙ ap (λ (n : ℕ). n + 1) count;
      bytes = rw count at bytes;
      range = λ j. grind (arith, common_steps, c.loop-i.invariant.range j);
    }

pub returns-clause-bytes : goal.returns-clause-bytes
returns-clause-bytes c =
    let bytes = rw c.content-content.ensures at c.loop-i.invariant.bytes in
    page_of _ _ (omega arith) (λ j k below in_word. bytes j (omega arith) k in_word)
