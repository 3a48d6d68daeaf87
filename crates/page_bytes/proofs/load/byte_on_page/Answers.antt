use Rattle.std.proofs.Common.{◌≡◌, ◌∙◌, ◌+◌, ◌/◌, ◌%◌, ◌≤◌, ◌<◌, false, ap, sym, arith, slice_index_or}
use Rattle.sls_base.specs.declared.limits.TheConstants.{PAGES}
use Rattle.pmem_layout.specs.Places.{frame_at, runtime_frame}
use Rattle.pmem_model.specs.Memory.{word_at}
use Rattle.pmem_model.specs.PlaceLaws.{home-at}
use Rattle.call_readings.specs.Content.{byte_of}
use Rattle.page_bytes.proofs.load.byte_on_page.Goals as goal

pub read-word-requires-clause-home : goal.read-word-requires-clause-home
read-word-requires-clause-home c =
    let page = c.args.page.page in
    let inside : page < PAGES = omega arith in
    let at = c.frame_at.result + c.args.offset / 8 in
    home-at c.args.nvm.now at (runtime_frame page) (c.args.offset / 8) (omega arith) (omega arith) ∙ c.requires.home inside

pub returns : goal.returns
returns c content reads =
    let page = c.args.page.page in
    let inside : page < PAGES = omega arith in
    let old : c.args.page.fresh ≡ false = c.if-page.false in
    let k = c.args.offset % 8 in
    let word_is : c.read-word.result ≡ (word_at c.args.nvm.now (frame_at (runtime_frame page) + c.args.offset / 8)).cached =
    c.read-word.ensures ∙ ap (λ at. (word_at c.args.nvm.now (at + c.args.offset / 8)).cached) (c.frame_at.ensures.at ∙ ap frame_at c.runtime_frame.ensures.frame) in
    rw old (ap (λ bytes. slice_index_or bytes k 0) c.to_le_bytes.ensures ∙ ap (λ word. byte_of word k) word_is
    ∙ sym (reads.home page c.args.offset inside c.requires.offset (c.requires.home inside)))
