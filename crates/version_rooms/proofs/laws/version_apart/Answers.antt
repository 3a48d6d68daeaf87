use Rattle.std.proofs.Common.{◌≡◌, refl, true}
use Rattle.pmem_layout.specs.Owners.{Owner, Version}
use Rattle.pmem_layout.specs.Rooms.{CalmIn, is_other}
use Rattle.version_rooms.proofs.Parted.{fixed_kept}
use Rattle.version_rooms.proofs.laws.version_apart.Goals as goal

pub returns-clause-keep : goal.returns-clause-keep
returns-clause-keep c = λ r committer f g v cont phase stores h.
    let apart : (p : Owner) → is_other p Version ≡ true → CalmIn p f g =
    λ p other. c.owners_are_apart.ensures.spared Version p f g stores other in
    record {
      in_range = h.in_range;
      fixed = fixed_kept c.owners.ensures.format (apart _ refl) (apart _ refl) h.fixed;
      numbers = c.calm.ensures.calm r.numbers.work f g v cont.saved.numbers (apart _ refl) h.numbers;
      objects = c.room.ensures.calm r.roots f g v cont.saved.objects cont.objects (apart _ refl) h.objects;
      pages = c.page_versions.ensures.calm r.pages f g v cont.saved.pages cont.pages phase (apart _ refl) h.pages;
    }
