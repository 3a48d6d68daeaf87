use Rattle.version_rooms.proofs.Parted.{at_rest, either, fixed_kept, from_rest}
use Rattle.version_rooms.proofs.laws.calm.Goals as goal

pub returns : goal.returns
returns c = λ r f g v cont phase rest calm h.
    let part = c.owners_take_part.ensures.calm in
    record {
      version = from_rest r.committer.version rest
          (either (c.version_word.ensures.calm r.committer f g v v (part _ f g calm) (at_rest r.committer.version rest h.version)));
      keep = record {
        in_range = h.keep.in_range;
        fixed = fixed_kept c.owners.ensures.format (part _ f g calm) (part _ f g calm) h.keep.fixed;
        numbers = c.calm.ensures.calm r.numbers.work f g v cont.saved.numbers (part _ f g calm) h.keep.numbers;
        objects = c.room.ensures.calm r.roots f g v cont.saved.objects cont.objects (part _ f g calm) h.keep.objects;
        pages = c.page_versions.ensures.calm r.pages f g v cont.saved.pages cont.pages phase (part _ f g calm) h.keep.pages;
      };
    }
