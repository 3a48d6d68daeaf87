use Rattle.std.proofs.Common.{◌≡◌, ◌∙◌, ℕ, ap, arith, subst, sym, true≢false}
use Rattle.sls_base.specs.declared.limits.TheConstants.{VERSION_AT}
use Rattle.pmem_model.specs.Memory.{word_at}
use Rattle.pmem_layout.specs.declared.places.TheConstants.{FORMAT_AT}
use Rattle.alloc_journal.specs.Format.{NumbersStand}
use Rattle.alloc_journal.specs.Shows.{NumbersShow}
use Rattle.object_root.specs.Format.{ObjectsStand}
use Rattle.object_root.specs.Shows.{ObjectsShow}
use Rattle.object_root.specs.Steps.{steps_left as tags_left}
use Rattle.page_store.specs.Format.{PagesStand}
use Rattle.page_store.specs.Back.{RecoveryShows}
use Rattle.page_store.specs.Slots.{durable_words}
use Rattle.tree_restore.proofs.recovery.Recovery.new.Goals as goal

pub returns-clause-shows : goal.returns-clause-shows
returns-clause-shows c = λ v saved clean at parts.
    let f = word_at c.args.nvm.now in
    let left = durable_words f in
    let version = c.min-version.result in
    let least = c.min-version.ensures in
    let read = c.version.ensures in
    let most = parts.in_range in
    let is : version ≡ v = grind (arith, least, read, at, most) in
    record {
      in_range = most;
      version = ((clean.at VERSION_AT).0 ∙ at, at);
      fixed = record {
        some = parts.fixed.some;
        most = parts.fixed.most;
        format = ((clean.at FORMAT_AT).0 ∙ parts.fixed.format, parts.fixed.format);
        each = λ word own. ((clean.at word).0 ∙ parts.fixed.each word own, parts.fixed.each word own);
      };
      numbers = subst (λ (n : ℕ). NumbersShow c.recover.result.work f n saved.numbers) is
          (c.recover.ensures.shows saved.numbers (λ i own. clean.at i) (subst (λ (n : ℕ). NumbersStand left n saved.numbers) (sym is) parts.numbers));
      redone = record { running = c.recover.ensures.running; log = λ done. absurd (true≢false (sym c.recover.ensures.redo ∙ done)) };
      objects = λ next. subst (λ (n : ℕ). ObjectsShow c.new.result f n saved.objects next) is
          (c.new.ensures.shows f saved.objects next (record { at = λ i own. (clean.at i).0 }) (subst (λ (n : ℕ). ObjectsStand left n saved.objects) (sym is) parts.objects));
      cleared = record { idle = c.new.ensures.idle; records = λ none. absurd (omega (arith, ap tags_left (sym c.new.ensures.phase) ∙ none)) };
      pages = subst (λ (n : ℕ). RecoveryShows c.new-2.result f n saved.pages) is
          (c.new-2.ensures.shows f saved.pages clean (subst (λ (n : ℕ). PagesStand left n saved.pages) (sym is) parts.pages));
    }
