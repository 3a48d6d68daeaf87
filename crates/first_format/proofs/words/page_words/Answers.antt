use Rattle.std.proofs.Common.{◌≡◌, ◌+◌, ◌*◌, ◌∙◌, ap, slice_index, arith}
use Rattle.std.proofs.lemmas.Grind.{common_steps}
use Rattle.first_format.specs.Parts.{page_word}
use Rattle.first_format.proofs.Pages.{word_told}
use Rattle.first_format.proofs.words.page_words.Goals as goal

pub loop-j-preserved : goal.loop-j-preserved
loop-j-preserved c =
    let told : c.word_from.result ≡ page_word c.args.image.now c.args.page c.loop-j.j =
    word_told c.args.image.now c.args.page c.loop-j.j c.word_from.result (omega arith)
    (λ k inside. c.word_from.ensures k inside ∙ ap (λ content. slice_index content (8 * c.loop-j.j + k)) c.content_on-content.ensures) in
    record {
      size = grind (arith, common_steps);
      filled = λ i inside. grind (arith, common_steps, told);
    }
