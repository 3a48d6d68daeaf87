use Rattle.version_rooms.proofs.rooms.Rooms.fence_objects.Goals as goal

pub returns-clause-shows : goal.returns-clause-shows
returns-clause-shows c = λ phase v cont h.
    c.fenced_rooms.ensures.objects c.args.self.now c.fenced.new.self _ _ v cont phase c.requires.rest c.fence.ensures.fenced c.fenced.ensures.passed h
