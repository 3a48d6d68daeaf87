use Rattle.std.proofs.Common.{◌/◌, ◌%◌, sym, ◌∙◌, arith}
use Rattle.sls_kernel.specs.Words.{byte_of, running_words}
use Rattle.pmem_model.specs.Memory.{word_at}
use Rattle.sls_kernel.proofs.Bytes.{number_at-same, IsPage-within, aligned_fits}
use Rattle.sls_kernel.proofs.page.load.Goals as goal

pub returns : goal.returns
returns c byte page =
    let a = c.args in
    c.number_in.ensures ∙ rw c.read.ensures (sym (number_at-same byte (byte_of (running_words (word_at a.nvm.now) 4 (a.at / 8))) a.at (a.at % 8) a.size
    (λ j h. let fits = aligned_fits a.at a.size c.requires.size c.requires.aligned in IsPage-within (running_words (word_at a.nvm.now) 4) byte a.at j page (omega arith) (omega arith))))
