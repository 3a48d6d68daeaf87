use Rattle.version_rooms.proofs.rooms.Rooms.tag_step.Goals as goal

pub returns-clause-shows : goal.returns-clause-shows
returns-clause-shows c = λ phase v cont h.
    c.rooms_are_apart.ensures.objects c.args.self.now c.tag_step.new.self _ _ v cont phase c.requires.rest c.tag_step.ensures.rest h
    (c.tag_step.ensures.shows v cont.saved.objects cont.objects h.keep.objects)
