use Rattle.std.proofs.Common.{◌≡◌, ◌≢◌, ℕ, ◌<◌, refl, sym, subst, arith, ⊎_elim}
use Rattle.std.proofs.lemmas.Bool.{cases_eq}
use Rattle.sls_base.specs.declared.limits.TheConstants.{PAGES}
use Rattle.sls_base.specs.declared.fixed.TheConstants.{LEADER}
use Rattle.pmem_model.specs.Memory.{word_at}
use Rattle.pmem_model.specs.Events.{calm_then, fence_all}
use Rattle.pmem_model.specs.PlaceLaws.{all_home_kept}
use Rattle.pmem_layout.specs.Owners.{Pages}
use Rattle.pmem_layout.specs.Rooms.{FencedIn}
use Rattle.page_store.specs.Stages.{stage_of, IsSettled, IsFlushed}
use Rattle.page_store.specs.Known.{Open}
use Rattle.page_store.specs.declared.stage.PageStage.{PageStage}
use Rattle.page_store.proofs.PageLaws.{flushed_settled}
use Rattle.page_store.proofs.history.commit.Goals as goal

pub loop-stored-preserved : goal.loop-stored-preserved
loop-stored-preserved c =
    let page = c.loop-stored.stored in
    let before = c.loop-stored.invariant in
    let lt : page < PAGES = c.loop-stored-test.true in
    record {
      home = all_home_kept c.loop-stored.nvm c.flush.new.nvm c.flush.ensures.homes before.home;
      flushed = λ i low.
          ⊎_elim
          (λ (is : i ≡ page).
          subst (λ (k : ℕ). IsFlushed (stage_of c.flush.new.self k)) (sym is)
          (subst (λ (u : PageStage). IsFlushed u) (sym c.flush.ensures.stage)
          (flushed_settled (stage_of c.loop-stored.pages page) (before.settled page (omega arith) lt))))
          (λ (other : i ≢ page).
          subst (λ (u : PageStage). IsFlushed u) (sym (c.flush.ensures.others i other)) (before.flushed i (omega (arith, low, other))))
          (cases_eq i page);
      settled = λ i high in_range.
          let other : i ≢ page = λ is. absurd (omega (arith, is, high)) in
          subst (λ (u : PageStage). IsSettled u) (sym (c.flush.ensures.others i other)) (before.settled i (omega (arith, high)) in_range);
      rest = record { at = λ i other. calm_then _ _ _ (before.rest.at i other) (c.flush.ensures.rest.at i other) };
      shows = λ saved now h. c.flush.ensures.shows c.args.version saved now (before.shows saved now h);
    }

pub returns-clause-shows : goal.returns-clause-shows
returns-clause-shows c = λ done saved now h.
    let before = c.loop-stored.invariant in
    let end = c.loop-stored-test.false in
    let fence : FencedIn Pages LEADER (word_at c.loop-stored.nvm) (word_at c.fence.new.self) =
    record { at = λ i own. fence_all (word_at c.loop-stored.nvm) (word_at c.fence.new.self) LEADER c.fence.ensures.words i } in
    c.committed.ensures.shows (word_at c.fence.new.self) c.args.version saved now refl
    (λ page lt. before.flushed page (omega (arith, lt, end)))
    (c.page_versions.ensures.fenced c.loop-stored.pages (word_at c.loop-stored.nvm) (word_at c.fence.new.self) c.args.version
    saved now Open fence (before.shows saved now h))
