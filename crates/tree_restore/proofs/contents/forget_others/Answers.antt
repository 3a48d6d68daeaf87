use Rattle.std.proofs.Common.{arith, refl}
use Rattle.page_store.specs.Known.{Open}
use Rattle.page_store.specs.Back.{filled}
use Rattle.tree_restore.specs.Contents.{first_of}
use Rattle.tree_restore.proofs.Forgetting.{whole}
use Rattle.tree_restore.proofs.contents.forget_others.Goals as goal

pub loop-page-preserved : goal.loop-page-preserved
loop-page-preserved c =
    let page = c.loop-page.page in
    let so_far = c.loop-page.invariant in
    record {
      settled = λ all i lt. c.forget_other.ensures.others i (so_far.settled all i lt);
      recovered = λ i lt at_first. c.forget_other.ensures.recovered i (so_far.recovered i lt at_first);
      shows = λ f v saved told all shown.
          c.forget_other.ensures.shows f v saved (told page (omega arith)) (so_far.settled all page (omega arith)) (so_far.shows f v saved told all shown);
    }

pub returns-clause-recovered : goal.returns-clause-recovered
returns-clause-recovered c = c.loop-page.invariant.recovered

pub returns-clause-shows : goal.returns-clause-shows
returns-clause-shows c = λ f v saved told all shown.
    let count = c.loop-page.page in
    c.page_versions.ensures.same c.loop-page.pages f v saved (first_of count saved (filled saved f)) saved saved Open
    (λ page lt. (refl, whole count page saved (filled saved f) (omega (arith, lt, c.loop-page.auto)))) (c.loop-page.invariant.shows f v saved told all shown)
