use Rattle.std.proofs.Common.{◌∙◌, ap, ℕ}
use Rattle.sls_base.specs.declared.fixed.TheConstants.{LEADER}
use Rattle.pmem_model.specs.Memory.{Memory, word_at, count_up}
use Rattle.pmem_model.specs.Events.{cut_left, cut_clean}
use Rattle.pmem_layout.specs.Owners.{Pages}
use Rattle.pmem_layout.specs.Rooms.{LeftIn}
use Rattle.page_store.specs.Slots.{durable_words}
use Rattle.page_store.specs.Known.{Open}
use Rattle.pmem_model.specs.PlaceLaws.{all_home_kept}
use Rattle.page_store.proofs.BackSteps.{cut_once, cut_again}
use Rattle.page_store.proofs.history.cut_and_recover.Goals as goal

pub loop-steps-init : goal.loop-steps-init
loop-steps-init c = record {
  cuts = ap (λ (m : Memory). m.cuts) c.cut.ensures.counts ∙ cut_once c.args.nvm.now.cuts;
  home = all_home_kept c.args.nvm.now c.cut.new.self c.cut.ensures.homes c.requires.home;
  clean = record { at = cut_clean (word_at c.args.nvm.now) (word_at c.cut.new.self) c.cut.ensures.words LEADER };
  stands = λ saved now h.
      let left : LeftIn Pages (word_at c.args.nvm.now) (durable_words (word_at c.cut.new.self)) =
      record { at = λ i own. cut_left (word_at c.args.nvm.now) (word_at c.cut.new.self) c.cut.ensures.words i } in
      c.page_versions.ensures.stands c.args.pages.now (word_at c.args.nvm.now) (durable_words (word_at c.cut.new.self)) c.args.version saved now
      Open left h;
}

pub loop-steps-preserved : goal.loop-steps-preserved
loop-steps-preserved c = record {
  cuts = c.cut_recovery.ensures.cuts ∙ (ap (λ (n : ℕ). count_up n) c.loop-steps.invariant.cuts
      ∙ cut_again c.args.nvm.now.cuts c.loop-steps.steps-index);
  home = c.cut_recovery.ensures.home;
  clean = c.cut_recovery.ensures.clean;
  stands = λ saved now h. c.cut_recovery.ensures.stands saved (c.loop-steps.invariant.stands saved now h);
}

pub returns-clause-shows : goal.returns-clause-shows
returns-clause-shows c = λ saved now h. c.recover.ensures.shows saved (c.loop-steps.invariant.stands saved now h)
