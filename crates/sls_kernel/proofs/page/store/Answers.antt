use Rattle.std.proofs.Common.{ap, ℕ, ◌/◌, ◌%◌, ◌∙◌}
use Rattle.pmem_model.specs.Memory.{word_at}
use Rattle.sls_kernel.specs.Words.{byte_of, running_words}
use Rattle.sls_kernel.specs.Plain.{stored_at}
use Rattle.sls_kernel.proofs.Bytes.{IsPage-stored, aligned_fits}
use Rattle.sls_kernel.proofs.Bursts.{running_words-stored}
use Rattle.sls_kernel.proofs.page.store.Goals as goal

pub returns-clause-page : goal.returns-clause-page
returns-clause-page c byte page =
    let a = c.args in
    IsPage-stored (running_words (word_at a.nvm.now) 4) (running_words (word_at c.store.new.nvm) 4) byte a.at a.size a.value c.with_number-word.result
    (aligned_fits a.at a.size c.requires.size c.requires.aligned) page
    (λ j h. c.with_number-word.ensures j h ∙ ap (λ (w : ℕ). stored_at (byte_of w) (a.at % 8) a.size a.value j) c.read.ensures)
    (running_words-stored _ _ 4 (a.at / 8) c.with_number-word.result c.store.ensures.words)
