use Rattle.std.proofs.Common.{◌≡◌, ◌∙◌, ◌+◌, ◌/◌, ◌%◌, ◌≤◌, ◌<◌, true, false, ap, sym, refl, arith}
use Rattle.sls_base.specs.declared.limits.TheConstants.{PAGES}
use Rattle.pmem_layout.specs.Places.{frame_at, runtime_frame}
use Rattle.pmem_model.specs.Memory.{word_at}
use Rattle.pmem_model.specs.PlaceLaws.{home-at}
use Rattle.call_readings.specs.Content.{byte_of, number_in}
use Rattle.call_readings.proofs.Words.{number_of_page, number_of_zeros, zeros_of_none}
use Rattle.call_readings.proofs.content.number_on_page.Goals.{then-page-via-then-page, then-page-via-else-page+then-from-ge-PAGES}
use Rattle.call_readings.proofs.content.number_on_page.Goals as goal

pub returns-then-page : goal.returns-then-page
returns-then-page c content reads fits = elim c.then-page.branch [
  | then-page-via-then-page w ↦
      let fresh : c.args.page.fresh ≡ true = w.if-page.true in
      rw fresh (number_of_zeros (λ offset. 0) c.args.offset c.args.size (λ j. refl))
  | then-page-via-else-page+then-from-ge-PAGES w ↦
      let past : PAGES ≤ c.args.page.page = omega arith in
      number_of_zeros _ c.args.offset c.args.size (zeros_of_none content c.args.nvm.now c.args.page.page c.args.page.fresh reads past)
]

pub read-word-requires-clause-home : goal.read-word-requires-clause-home
read-word-requires-clause-home c =
    let page = c.args.page.page in
    let inside : page < PAGES = omega arith in
    let at = c.frame_at.result + c.args.offset / 8 in
    home-at c.args.nvm.now at (runtime_frame page) (c.args.offset / 8) (omega arith) (omega arith) ∙ c.requires.home inside

pub returns : goal.returns
returns c content reads fits =
    let page = c.args.page.page in
    let inside : page < PAGES = omega arith in
    let old : c.args.page.fresh ≡ false = c.if-page.false in
    let offset = c.args.offset in
    let word_is : c.read-word.result ≡ (word_at c.args.nvm.now (frame_at (runtime_frame page) + offset / 8)).cached =
    c.read-word.ensures ∙ ap (λ at. (word_at c.args.nvm.now (at + offset / 8)).cached) (c.frame_at.ensures.at ∙ ap frame_at c.runtime_frame.ensures.frame) in
    rw old (c.number_in_word.ensures fits ∙ ap (λ word. number_in (byte_of word) (offset % 8) c.args.size) word_is
    ∙ sym (number_of_page content c.args.nvm.now page offset c.args.size reads inside (c.requires.home inside) c.requires.offset fits))
