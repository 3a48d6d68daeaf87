use Rattle.version_rooms.proofs.rooms.Rooms.forget.Goals as goal

pub returns-clause-shows : goal.returns-clause-shows
returns-clause-shows c = λ f v cont phase h.
    let k = h.keep in
    record {
      version = h.version;
      keep = record {
        in_range = k.in_range;
        fixed = k.fixed;
        numbers = k.numbers;
        objects = k.objects;
        pages = c.forget.ensures.shows f v cont.saved.pages cont.pages phase k.pages;
      };
    }
