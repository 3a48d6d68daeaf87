use Rattle.version_rooms.proofs.Redone.{shows_redone}
use Rattle.version_rooms.proofs.rooms.Rooms.apply_step.Goals as goal

pub returns-clause-shows : goal.returns-clause-shows
returns-clause-shows c = λ phase v cont h.
    c.rooms_are_apart.ensures.numbers c.args.self.now c.apply_step.new.self _ _ v cont phase c.requires.rest c.apply_step.ensures.rest h
    (c.apply_step.ensures.shows v cont.saved.numbers (shows_redone c.args.self.now.numbers.work _ v cont.saved.numbers c.requires.log h.keep.numbers))
