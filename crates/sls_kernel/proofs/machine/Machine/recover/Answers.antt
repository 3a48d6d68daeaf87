use Rattle.std.proofs.Common.{◌∙◌, refl}
use Rattle.pmem_model.specs.Memory.{word_at}
use Rattle.sls_kernel.specs.Shows.{put_count}
use Rattle.sls_kernel.specs.declared.stage.Stage.TheVariants.{Recover}
use Rattle.sls_kernel.proofs.Facts.{words_at, stage_at, shows_on}
use Rattle.sls_kernel.proofs.Recovers.{copies_back, some_recovered, all_recovered, page_below, area_is, saved_record, runs_again}
use Rattle.sls_kernel.proofs.machine.Machine.recover.Goals as goal

pub returns-then-page-lt-STATE_PAGES-clause-world : goal.returns-then-page-lt-STATE_PAGES-clause-world
returns-then-page-lt-STATE_PAGES-clause-world c = λ w s.
    let m = c.args.self.now in
    let page = c.args.page in
    let known = words_at m w s (Recover page) c.requires in
    let at = stage_at m w s (Recover page) c.requires in
    let f = word_at m.nvm in
    let g = word_at c.copy.new.nvm in
    let below = page_below m.stage page c.requires m.staged in
    let area = area_is w.version (f 1) c.area_of_version-area.ensures.area c.table_durable-version.ensures known.version_durable in
    let event = copies_back w.version page f g _ _ _ area c.area_frame.ensures c.running_frame.ensures c.copy.ensures.words in
    (tt, shows_on m _ w s refl c.copy.ensures.counts (some_recovered page w.version f g s.now_words s.saved_words at.words event below known) at)

pub returns-clause-world : goal.returns-clause-world
returns-clause-world c = λ w s.
    let m = c.args.self.now in
    let page = c.args.page in
    let known = words_at m w s (Recover page) c.requires in
    let at = stage_at m w s (Recover page) c.requires in
    let f = word_at m.nvm in
    let g = word_at c.copy.new.nvm in
    let below = page_below m.stage page c.requires m.staged in
    let area = area_is w.version (f 1) c.area_of_version-area.ensures.area c.table_durable-version.ensures known.version_durable in
    let event = copies_back w.version page f g _ _ _ area c.area_frame.ensures c.running_frame.ensures c.copy.ensures.words in
    let words = all_recovered page w.version f g s.now_words s.saved_words at.words event below c.if-page-lt-STATE_PAGES.false known in
    let thread_record = saved_record w.version c.area_frame-2.result c.area_of_version-area.result g s.saved_words _ w.saved area c.area_frame-2.ensures words.saved_area s.saved_is in
    let read = c.read_back.ensures w.saved.thread (put_count w.saved) s.saved_is.holds.thread (λ channel lt. (s.saved_is.holds.rings channel lt).number) thread_record in (
      c.table_durable-version.ensures ∙ known.version_durable,
      shows_on m _ w s refl c.copy.ensures.counts words
          (runs_again w.saved w.now c.read_back.result.0 c.read_back.result.1 at.world read),
    )
