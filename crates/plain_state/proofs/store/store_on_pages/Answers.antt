use Rattle.plain_state.proofs.SlowMemory.{memory_stored}
use Rattle.plain_state.proofs.store.store_on_pages.Goals as goal

pub returns-then-at-pages : goal.returns-then-at-pages
returns-then-at-pages c =
    memory_stored c.args.pages.now c.args.store.place.page c.store_on_page.new.page c.index-pages-at.result c.args.store.place.offset c.args.store.value
    c.if-at-pages.true c.store_on_page.ensures
