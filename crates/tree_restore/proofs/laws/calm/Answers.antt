use Rattle.sls_base.specs.declared.fixed.TheConstants.{LEADER}
use Rattle.sls_base.specs.declared.limits.TheConstants.{VERSION_AT}
use Rattle.pmem_model.specs.Events.{Clean, calm_word}
use Rattle.version_rooms.proofs.Parted.{fixed_kept}
use Rattle.tree_restore.proofs.laws.calm.Goals as goal

pub returns : goal.returns
returns c = λ r f g v saved calm h.
    let part = c.owners_take_part.ensures.calm in
    record {
      in_range = h.in_range;
      version = calm_word LEADER Clean (f VERSION_AT) (g VERSION_AT) v (calm.at VERSION_AT) h.version;
      fixed = fixed_kept c.owners.ensures.format (part _ f g calm) (part _ f g calm) h.fixed;
      numbers = c.calm.ensures.calm r.numbers.work f g v saved.numbers (part _ f g calm) h.numbers;
      redone = h.redone;
      objects = λ next. c.room.ensures.calm r.roots f g v saved.objects next (part _ f g calm) (h.objects next);
      cleared = h.cleared;
      pages = c.recovery.ensures.calm r.pages f g v saved.pages (part _ f g calm) h.pages;
    }
