use Rattle.std.proofs.Common.{◌∙◌, ◌+◌, ℕ, ap, arith, inl, inr, length-set, sym}
use Rattle.std.proofs.lemmas.Bool.{cases_eq}
use Rattle.std.proofs.lemmas.List.{get_or-set_other}
use Rattle.std.proofs.lemmas.Grind.{get_or-set_at}
use Rattle.pmem_model.specs.Memory.{word_at}
use Rattle.tree_restore.proofs.records.slot_words.Goals as goal

pub loop-j-preserved : goal.loop-j-preserved
loop-j-preserved c =
    let words = c.loop-j.words in
    let j = c.loop-j.j in
    let so_far = c.loop-j.invariant in
    record {
      size = length-set words j c.read.result ∙ so_far.size;
      read = λ k below. elim (cases_eq k j) [
        | inl here ↦ get_or-set_at words j k c.read.result 0 here (omega (arith, so_far.size, c.loop-j-test.true))
            ∙ (c.read.ensures ∙ ap (λ (n : ℕ). (word_at c.args.nvm.now (c.object_slot_at-at.result + n)).cached) (sym here))
        | inr other ↦ get_or-set_other words j k c.read.result 0 other ∙ so_far.read k (omega (arith, below, other))
      ];
    }
