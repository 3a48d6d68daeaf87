use Rattle.std.proofs.Common.{◌≤◌, ◌∙◌, ap, refl, arith, subst, sym}
use Rattle.object_root.specs.declared.roots.Progress.{Progress}
use Rattle.object_root.specs.Room.{stage_under}
use Rattle.object_root.proofs.RoomLaws.{objects_begin}
use Rattle.object_root.proofs.Progress.{stage_in, nothing_idle}
use Rattle.object_root.proofs.roots.Roots.new.Goals as goal

pub invariant_of-result : goal.invariant_of-result
invariant_of-result c = record {
  range = c.requires;
  none_later = λ id. subst (λ (p : Progress). p.version ≤ c.args.version) (sym (c.no_progress.ensures id))
      (omega arith);
}

pub returns-clause-idle : goal.returns-clause-idle
returns-clause-idle c = λ id. stage_in c.args.version c.no_progress.result id ∙ ap (stage_under c.args.version)
    (c.no_progress.ensures id) ∙ nothing_idle c.args.version

pub returns-clause-shows : goal.returns-clause-shows
returns-clause-shows c = λ f saved next clean stood. objects_begin next refl refl (returns-clause-idle c) clean stood
