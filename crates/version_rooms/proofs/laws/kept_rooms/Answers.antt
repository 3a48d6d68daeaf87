use Rattle.version_rooms.proofs.Parted.{fixed_kept}
use Rattle.version_rooms.proofs.laws.kept_rooms.Goals as goal

pub returns : goal.returns
returns c = λ r f g v cont phase calm h.
    let part = c.owners_take_part.ensures.calm in
    record {
      in_range = h.in_range;
      fixed = fixed_kept c.owners.ensures.format (part _ f g calm) (part _ f g calm) h.fixed;
      numbers = c.calm.ensures.calm r.numbers.work f g v cont.saved.numbers (part _ f g calm) h.numbers;
      objects = c.room.ensures.calm r.roots f g v cont.saved.objects cont.objects (part _ f g calm) h.objects;
      pages = c.page_versions.ensures.calm r.pages f g v cont.saved.pages cont.pages phase (part _ f g calm) h.pages;
    }
