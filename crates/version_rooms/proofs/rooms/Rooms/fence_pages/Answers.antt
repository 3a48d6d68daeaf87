use Rattle.page_store.specs.Known.{Open}
use Rattle.version_rooms.proofs.rooms.Rooms.fence_pages.Goals as goal

pub returns-clause-shows : goal.returns-clause-shows
returns-clause-shows c = λ v cont h. c.fenced_rooms.ensures.pages c.args.self.now _ _ v cont Open c.requires.rest c.fence.ensures.fenced h
