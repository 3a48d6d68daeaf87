use Rattle.std.proofs.Common.{◌≡◌, ◌+◌, ◌∙◌, ap, arith, subst, sym, true≢false}
use Rattle.sls_base.specs.declared.limits.TheConstants.{VERSION_AT}
use Rattle.pmem_model.specs.Memory.{word_at}
use Rattle.version_commit.specs.declared.committer.Committer.{Committer}
use Rattle.version_commit.specs.declared.step.Step.{Step}
use Rattle.version_commit.specs.OnWay.{IsOnWay, durable_after, reads_after}
use Rattle.page_store.specs.Known.{Fenced}
use Rattle.version_rooms.specs.Rooms.{reads_at}
use Rattle.version_rooms.proofs.Parted.{fenced_word, stepped}
use Rattle.version_rooms.proofs.rooms.Rooms.commit_step.Goals as goal

pub returns-then-not-last-clause-settles : goal.returns-then-not-last-clause-settles
returns-then-not-last-clause-settles c = λ v cont next ready h.
    let r = c.args.self.now in
    let g = word_at c.commit_step-last.new.nvm in
    let step = r.committer.version in
    let value = c.saturating_add-version.result in
    let most = c.version.ensures.most in
    let is = c.version.ensures.version ∙ h.keep.numbers.version_is in
    let added = c.saturating_add-version.ensures in
    let next_value : value ≡ v + 1 = grind (arith, added, is, most) in
    let steps = ap (λ (x : Committer). x.version) c.commit_step-last.ensures.steps in
    let shown = c.commit_step-last.ensures.shows v (reads_at step v) h.version in
    record {
      version = subst (λ (s : Step). IsOnWay s (g VERSION_AT) v (reads_at s v)) (sym steps)
          (stepped step next_value (λ fence. true≢false (sym (c.commit_step-last.ensures.last.1 fence) ∙ c.if-not-last.true))
          (subst (λ (s : Step). IsOnWay s (g VERSION_AT) (durable_after step v (reads_at step v)) (reads_after step value (reads_at step v))) steps shown));
      keep = c.version_apart.ensures.keep r c.commit_step-last.new.self _ g v cont Fenced c.commit_step-last.ensures.rest h.keep;
    }

pub returns-clause-settles : goal.returns-clause-settles
returns-clause-settles c = λ v cont next ready h.
    let r = c.args.self.now in
    let g = word_at c.commit_step-last.new.nvm in
    let step = r.committer.version in
    let value = c.saturating_add-version.result in
    let steps = ap (λ (x : Committer). x.version) c.commit_step-last.ensures.steps in
    let shown = c.commit_step-last.ensures.shows v (reads_at step v) h.version in
    let fenced = fenced_word v value step (c.commit_step-last.ensures.last.0 c.if-not-last.false)
    (subst (λ (s : Step). IsOnWay s (g VERSION_AT) (durable_after step v (reads_at step v)) (reads_after step value (reads_at step v))) steps shown) in
    let kept = c.version_apart.ensures.keep r c.commit_step-last.new.self _ g v cont Fenced c.commit_step-last.ensures.rest h.keep in
    let whole = c.version_apart.ensures.ready r c.commit_step-last.new.self v cont next ready in
    (c.commit.ensures.committed v cont next whole, λ after. c.commit.ensures.shows g v cont next whole kept fenced.known after)

pub returns-clause-stages : goal.returns-clause-stages
returns-clause-stages c = λ v cont next ready h last page lt.
    let r = c.args.self.now in
    let kept = c.version_apart.ensures.keep r c.commit_step-last.new.self _ (word_at c.commit_step-last.new.nvm) v cont Fenced c.commit_step-last.ensures.rest h.keep in
    let whole = c.version_apart.ensures.ready r c.commit_step-last.new.self v cont next ready in
    c.commit.ensures.stages (word_at c.commit_step-last.new.nvm) v cont next whole kept page lt
