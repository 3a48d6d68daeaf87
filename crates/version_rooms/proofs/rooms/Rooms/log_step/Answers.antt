use Rattle.version_rooms.proofs.rooms.Rooms.log_step.Goals as goal

pub returns-clause-shows : goal.returns-clause-shows
returns-clause-shows c = λ phase v cont h.
    c.rooms_are_apart.ensures.numbers c.args.self.now c.log_step.new.self _ _ v cont phase c.requires.rest c.log_step.ensures.rest h
    (c.log_step.ensures.shows v cont.saved.numbers h.keep.numbers)
