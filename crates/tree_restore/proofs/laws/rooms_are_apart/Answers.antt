use Rattle.std.proofs.Common.{◌≡◌, refl, true}
use Rattle.sls_base.specs.declared.fixed.TheConstants.{LEADER}
use Rattle.sls_base.specs.declared.limits.TheConstants.{VERSION_AT}
use Rattle.pmem_model.specs.Events.{Clean, calm_word}
use Rattle.pmem_layout.specs.Owners as owners
use Rattle.pmem_layout.specs.Owners.{Owner}
use Rattle.pmem_layout.specs.Rooms.{CalmIn, is_other}
use Rattle.version_rooms.proofs.Parted.{fixed_kept}
use Rattle.tree_restore.proofs.laws.rooms_are_apart.Goals as goal

pub returns-clause-numbers : goal.returns-clause-numbers
returns-clause-numbers c = λ r numbers f g v saved stores h shows redone.
    let apart : (p : Owner) → is_other p owners.Numbers ≡ true → CalmIn p f g =
    λ p other. c.owners_are_apart.ensures.spared owners.Numbers p f g stores other in
    record {
      in_range = h.in_range;
      version = calm_word LEADER Clean (f VERSION_AT) (g VERSION_AT) v ((apart owners.Version refl).at VERSION_AT c.owners.ensures.version) h.version;
      fixed = fixed_kept c.owners.ensures.format (apart _ refl) (apart _ refl) h.fixed;
      numbers = shows;
      redone = redone;
      objects = λ next. c.room.ensures.calm r.roots f g v saved.objects next (apart _ refl) (h.objects next);
      cleared = h.cleared;
      pages = c.recovery.ensures.calm r.pages f g v saved.pages (apart _ refl) h.pages;
    }

pub returns-clause-objects : goal.returns-clause-objects
returns-clause-objects c = λ r roots f g v saved stores h shows cleared.
    let apart : (p : Owner) → is_other p owners.Objects ≡ true → CalmIn p f g =
    λ p other. c.owners_are_apart.ensures.spared owners.Objects p f g stores other in
    record {
      in_range = h.in_range;
      version = calm_word LEADER Clean (f VERSION_AT) (g VERSION_AT) v ((apart owners.Version refl).at VERSION_AT c.owners.ensures.version) h.version;
      fixed = fixed_kept c.owners.ensures.format (apart _ refl) (apart _ refl) h.fixed;
      numbers = c.calm.ensures.calm r.numbers.work f g v saved.numbers (apart _ refl) h.numbers;
      redone = h.redone;
      objects = shows;
      cleared = cleared;
      pages = c.recovery.ensures.calm r.pages f g v saved.pages (apart _ refl) h.pages;
    }

pub returns-clause-pages : goal.returns-clause-pages
returns-clause-pages c = λ r pages f g v saved stores h shows.
    let apart : (p : Owner) → is_other p owners.Pages ≡ true → CalmIn p f g =
    λ p other. c.owners_are_apart.ensures.spared owners.Pages p f g stores other in
    record {
      in_range = h.in_range;
      version = calm_word LEADER Clean (f VERSION_AT) (g VERSION_AT) v ((apart owners.Version refl).at VERSION_AT c.owners.ensures.version) h.version;
      fixed = fixed_kept c.owners.ensures.format (apart _ refl) (apart _ refl) h.fixed;
      numbers = c.calm.ensures.calm r.numbers.work f g v saved.numbers (apart _ refl) h.numbers;
      redone = h.redone;
      objects = λ next. c.room.ensures.calm r.roots f g v saved.objects next (apart _ refl) (h.objects next);
      cleared = h.cleared;
      pages = shows;
    }
