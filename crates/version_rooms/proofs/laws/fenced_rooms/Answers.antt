use Rattle.pmem_layout.specs.Owners.{Owner}
use Rattle.pmem_layout.specs.Rooms.{CalmIn}
use Rattle.version_rooms.proofs.Parted.{at_rest, either, fixed_kept, from_rest}
use Rattle.version_rooms.proofs.laws.fenced_rooms.Goals as goal

pub returns-clause-pages : goal.returns-clause-pages
returns-clause-pages c = λ r f g v cont phase rest fence h.
    let part = λ (p : Owner). c.owners_take_part.ensures.fenced p _ f g fence in
    let apart : (p : Owner) → CalmIn p f g = λ p. c.owners_take_part.ensures.fence_is_calm p _ f g (part p) in
    record {
      version = from_rest r.committer.version rest
          (either (c.version_word.ensures.calm r.committer f g v v (apart _) (at_rest r.committer.version rest h.version)));
      keep = record {
        in_range = h.keep.in_range;
        fixed = fixed_kept c.owners.ensures.format (apart _) (apart _) h.keep.fixed;
        numbers = c.calm.ensures.calm r.numbers.work f g v cont.saved.numbers (apart _) h.keep.numbers;
        objects = c.room.ensures.calm r.roots f g v cont.saved.objects cont.objects (apart _) h.keep.objects;
        pages = c.page_versions.ensures.fenced r.pages f g v cont.saved.pages cont.pages phase (part _) h.keep.pages;
      };
    }

pub returns-clause-objects : goal.returns-clause-objects
returns-clause-objects c = λ r roots f g v cont phase rest fence passes h.
    let part = λ (p : Owner). c.owners_take_part.ensures.fenced p _ f g fence in
    let apart : (p : Owner) → CalmIn p f g = λ p. c.owners_take_part.ensures.fence_is_calm p _ f g (part p) in
    record {
      version = from_rest r.committer.version rest
          (either (c.version_word.ensures.calm r.committer f g v v (apart _) (at_rest r.committer.version rest h.version)));
      keep = record {
        in_range = h.keep.in_range;
        fixed = fixed_kept c.owners.ensures.format (apart _) (apart _) h.keep.fixed;
        numbers = c.calm.ensures.calm r.numbers.work f g v cont.saved.numbers (apart _) h.keep.numbers;
        objects = c.room.ensures.fenced r.roots roots f g v cont.saved.objects cont.objects passes (part _) h.keep.objects;
        pages = c.page_versions.ensures.fenced r.pages f g v cont.saved.pages cont.pages phase (part _) h.keep.pages;
      };
    }
