use Rattle.page_store.specs.Known.{Open}
use Rattle.version_rooms.proofs.rooms.Rooms.flush_page.Goals as goal

pub returns-clause-shows : goal.returns-clause-shows
returns-clause-shows c = λ v cont h.
    c.rooms_are_apart.ensures.pages c.args.self.now c.flush.new.self _ _ v cont cont.pages Open Open c.requires.rest c.flush.ensures.rest h
    (c.flush.ensures.shows v cont.saved.pages cont.pages h.keep.pages)
