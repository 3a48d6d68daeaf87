use Rattle.std.proofs.Common.{◌≡◌, refl, true}
use Rattle.pmem_layout.specs.Owners as owners
use Rattle.pmem_layout.specs.Owners.{Owner}
use Rattle.pmem_layout.specs.Rooms.{CalmIn, is_other}
use Rattle.version_rooms.proofs.Parted.{at_rest, either, fixed_kept, from_rest}
use Rattle.version_rooms.proofs.laws.rooms_are_apart.Goals as goal

pub returns-clause-numbers : goal.returns-clause-numbers
returns-clause-numbers c = λ r numbers f g v cont phase rest stores h shows.
    let apart : (p : Owner) → is_other p owners.Numbers ≡ true → CalmIn p f g =
    λ p other. c.owners_are_apart.ensures.spared owners.Numbers p f g stores other in
    record {
      version = from_rest r.committer.version rest
          (either (c.version_word.ensures.calm r.committer f g v v (apart _ refl) (at_rest r.committer.version rest h.version)));
      keep = record {
        in_range = h.keep.in_range;
        fixed = fixed_kept c.owners.ensures.format (apart _ refl) (apart _ refl) h.keep.fixed;
        numbers = shows;
        objects = c.room.ensures.calm r.roots f g v cont.saved.objects cont.objects (apart _ refl) h.keep.objects;
        pages = c.page_versions.ensures.calm r.pages f g v cont.saved.pages cont.pages phase (apart _ refl) h.keep.pages;
      };
    }

pub returns-clause-objects : goal.returns-clause-objects
returns-clause-objects c = λ r roots f g v cont phase rest stores h shows.
    let apart : (p : Owner) → is_other p owners.Objects ≡ true → CalmIn p f g =
    λ p other. c.owners_are_apart.ensures.spared owners.Objects p f g stores other in
    record {
      version = from_rest r.committer.version rest
          (either (c.version_word.ensures.calm r.committer f g v v (apart _ refl) (at_rest r.committer.version rest h.version)));
      keep = record {
        in_range = h.keep.in_range;
        fixed = fixed_kept c.owners.ensures.format (apart _ refl) (apart _ refl) h.keep.fixed;
        numbers = c.calm.ensures.calm r.numbers.work f g v cont.saved.numbers (apart _ refl) h.keep.numbers;
        objects = shows;
        pages = c.page_versions.ensures.calm r.pages f g v cont.saved.pages cont.pages phase (apart _ refl) h.keep.pages;
      };
    }

pub returns-clause-pages : goal.returns-clause-pages
returns-clause-pages c = λ r pages f g v cont now phase then rest stores h shows.
    let apart : (p : Owner) → is_other p owners.Pages ≡ true → CalmIn p f g =
    λ p other. c.owners_are_apart.ensures.spared owners.Pages p f g stores other in
    record {
      version = from_rest r.committer.version rest
          (either (c.version_word.ensures.calm r.committer f g v v (apart _ refl) (at_rest r.committer.version rest h.version)));
      keep = record {
        in_range = h.keep.in_range;
        fixed = fixed_kept c.owners.ensures.format (apart _ refl) (apart _ refl) h.keep.fixed;
        numbers = c.calm.ensures.calm r.numbers.work f g v cont.saved.numbers (apart _ refl) h.keep.numbers;
        objects = c.room.ensures.calm r.roots f g v cont.saved.objects cont.objects (apart _ refl) h.keep.objects;
        pages = shows;
      };
    }
