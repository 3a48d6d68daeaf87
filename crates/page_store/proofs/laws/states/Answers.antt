use Rattle.page_store.specs.declared.stage.PageStage.TheVariants.{Protected, Preparing, Writable}
use Rattle.page_store.proofs.Places.{page_owner}
use Rattle.page_store.proofs.PageLaws.{page_below, protected_page, prepared_page, writable_page}
use Rattle.page_store.proofs.Moves.{at_stage}
use Rattle.page_store.proofs.laws.states.Goals as goal

pub returns-clause-protected : goal.returns-clause-protected
returns-clause-protected c = λ s f v saved now phase page lt is h. protected_page (at_stage page Protected lt is h)

pub returns-clause-prepared : goal.returns-clause-prepared
returns-clause-prepared c = λ s f v saved now phase page core next lt is h. prepared_page (at_stage page (Preparing core next) lt is h)

pub returns-clause-writable : goal.returns-clause-writable
returns-clause-writable c = λ s f v saved now phase page origin writes lt is some h.
    writable_page origin writes some (at_stage page (Writable origin writes) lt is h)

pub returns-clause-below : goal.returns-clause-below
returns-clause-below c = λ s f left v saved now phase page slot lt may h.
    page_below (λ word own. may.at word (page_owner page word lt own)) (h.each page lt) slot
