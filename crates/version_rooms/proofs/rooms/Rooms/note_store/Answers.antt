use Rattle.pmem_layout.specs.Places.{runtime_frame}
use Rattle.page_store.specs.Known.{Open}
use Rattle.version_rooms.proofs.rooms.Rooms.note_store.Goals as goal

pub returns-clause-shows : goal.returns-clause-shows
returns-clause-shows c = λ f g v cont at count value within burst h.
    c.rooms_are_apart.ensures.pages c.args.self.now c.note_store.new.self f g v cont _ Open Open c.requires.rest
    (c.burst_on_page.ensures f g (runtime_frame c.args.page) at count value burst) h
    (c.note_store.ensures.shows f g v cont.saved.pages cont.pages at count value within burst h.keep.pages)
