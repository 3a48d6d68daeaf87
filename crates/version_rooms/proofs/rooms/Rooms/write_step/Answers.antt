use Rattle.version_rooms.proofs.rooms.Rooms.write_step.Goals as goal

pub returns-clause-shows : goal.returns-clause-shows
returns-clause-shows c = λ v cont phase record_of h.
    c.rooms_are_apart.ensures.objects c.args.self.now c.write_step.new.self _ _ v cont phase c.requires.rest c.write_step.ensures.rest h
    (c.write_step.ensures.shows v cont.saved.objects cont.objects record_of h.keep.objects)
