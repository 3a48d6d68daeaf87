use Rattle.std.specs.Prelude.{None}
use Rattle.sls_base.specs.declared.fixed.TheConstants.{LEADER}
use Rattle.sls_base.specs.declared.limits.TheConstants.{VERSION_AT}
use Rattle.pmem_model.specs.Events.{Clean, left_word}
use Rattle.version_rooms.proofs.Points.{fixed_stand}
use Rattle.tree_restore.proofs.laws.recovery_is_clean.Goals as goal

pub returns : goal.returns
returns c = λ r f left v saved may h.
    let part = c.owners_take_part.ensures.left in (
      left_word LEADER Clean (f VERSION_AT) v (left VERSION_AT) h.version (may VERSION_AT),
      record {
        in_range = h.in_range;
        fixed = fixed_stand may h.fixed;
        numbers = c.stands.ensures r.numbers.work f left v saved.numbers (part _ f left may) h.numbers;
        objects = c.room.ensures.stands r.roots f v saved.objects (λ i. None) left (part _ f left may) (h.objects (λ i. None));
        pages = c.recovery.ensures.stands r.pages f left v saved.pages (part _ f left may) h.pages;
      },
    )
