use Rattle.std.proofs.Common.{◌∙◌, ◌+◌, ℕ, None, inl, inr, refl, subst, sym, true≢false}
use Rattle.std.proofs.lemmas.Bool.{cases_eq}
use Rattle.page_store.specs.declared.stage.PageStage.{PageStage}
use Rattle.page_store.specs.Known.{Open}
use Rattle.page_store.specs.Back.{filled}
use Rattle.page_store.specs.Shows.{with_page}
use Rattle.page_store.specs.Stages.{IsAsRecovered, IsSettled, stage_of}
use Rattle.tree_restore.specs.Contents.{first_of}
use Rattle.tree_restore.proofs.Forgetting.{filled_whole, forgotten, forgotten_saved, kept, no_content}
use Rattle.tree_restore.proofs.contents.forget_other.Goals as goal

pub returns-then-is_content-clause-shows : goal.returns-then-is_content-clause-shows
returns-then-is_content-clause-shows c = λ f v saved told settled shown.
    let page = c.args.page in
    let full = filled_whole saved f page (told ∙ (sym c.is_content.ensures ∙ c.if-is_content.true)) in
    c.page_versions.ensures.same c.args.pages.now f v saved (first_of page saved (filled saved f)) saved (first_of (page + 1) saved (filled saved f)) Open
    (λ i lt. (refl, kept page i saved (filled saved f) full)) shown

pub returns-then-is_settled-clause-others : goal.returns-then-is_settled-clause-others
returns-then-is_settled-clause-others c = λ i settled. elim (cases_eq i c.args.page) [
  | inl here ↦ subst (λ (n : ℕ). IsSettled (stage_of c.forget.new.self n)) (sym here)
      (subst (λ (stage : PageStage). IsSettled stage) (sym c.forget.ensures.stage) tt)
  | inr other ↦ subst (λ (stage : PageStage). IsSettled stage) (sym (c.forget.ensures.others i other)) settled
]

pub returns-then-is_settled-clause-recovered : goal.returns-then-is_settled-clause-recovered
returns-then-is_settled-clause-recovered c = λ i recovered. elim (cases_eq i c.args.page) [
  | inl here ↦ subst (λ (n : ℕ). IsAsRecovered (stage_of c.forget.new.self n)) (sym here)
      (subst (λ (stage : PageStage). IsAsRecovered stage) (sym c.forget.ensures.stage) tt)
  | inr other ↦ subst (λ (stage : PageStage). IsAsRecovered stage) (sym (c.forget.ensures.others i other)) recovered
]

pub returns-then-is_settled-clause-shows : goal.returns-then-is_settled-clause-shows
returns-then-is_settled-clause-shows c = λ f v saved told settled shown.
    let page = c.args.page in
    let none = no_content (saved page) (told ∙ (sym c.is_content.ensures ∙ c.if-is_content.false)) in
    let now = first_of page saved (filled saved f) in
    c.page_versions.ensures.same c.forget.new.self f v (with_page saved page None) (with_page now page None) saved (first_of (page + 1) saved (filled saved f)) Open
    (λ i lt. (forgotten_saved page i saved none, forgotten page i saved (filled saved f) none)) (c.forget.ensures.shows f v saved now Open shown)

pub returns-else-is_settled-clause-shows : goal.returns-else-is_settled-clause-shows
returns-else-is_settled-clause-shows c = λ f v saved told settled shown.
    let is = c.is_settled.ensures.1 (subst (λ (stage : PageStage). IsSettled stage) (sym c.stage.ensures) settled) in
    absurd (true≢false (sym is ∙ c.if-is_settled.false))
