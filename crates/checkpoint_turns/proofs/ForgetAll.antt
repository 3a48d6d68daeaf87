-- How far the pages are forgotten on which no object has content.
use Rattle.std.specs.Prelude.{◌≡◌, ◌≢◌, ◌+◌, ◌<◌, ◌≤◌, ℕ, true, false, Option}
use Rattle.std.proofs.Common.{refl, sym, subst, ◌∙◌, arith, inl, inr}
use Rattle.std.proofs.lemmas.Bool.{cases_eq}
use Rattle.pmem_model.specs.Words.{Word}
use Rattle.kobj_codec.specs.declared.obj.Obj.{Obj}
use Rattle.object_records.specs.Pages.{is_content}
use Rattle.page_store.specs.declared.stage.PageStage.TheVariants as stages
use Rattle.page_store.specs.Stages.{stage_of}
use Rattle.durable_state.specs.Parts.{Parts}
use Rattle.version_rooms.specs.declared.rooms.Rooms.{Rooms}
use Rattle.version_rooms.specs.Rest.{AreAtRest}
use Rattle.saved_state.specs.State.{AreOfRecords}

-- Of the first pages those are kept on which records have content, and the others are fresh. The rooms stay at rest.
pub record HasForgotten (records : ℕ → Option Obj) (r s : Rooms) (many : ℕ) : Type 0 where
  pub kept : (page : ℕ) → page < many → is_content records page ≡ true
      → stage_of s.pages page ≡ stage_of r.pages page
  pub fresh : (page : ℕ) → page < many → is_content records page ≡ false
      → stage_of s.pages page ≡ stages.Fresh
  pub behind : (page : ℕ) → many ≤ page → stage_of s.pages page ≡ stage_of r.pages page
  pub at_rest : (f : ℕ → Word) (v : ℕ) (saved : Parts) (pages : ℕ → Option (ℕ → ℕ))
      → AreOfRecords records saved.pages → AreAtRest r f v saved pages
      → (after : ℕ → Option (ℕ → ℕ)) × AreAtRest s f v saved after

pub none_forgotten : (records : ℕ → Option Obj) (r : Rooms) → HasForgotten records r r 0
none_forgotten records r = record {
  kept = λ page below. absurd (omega (arith, below));
  fresh = λ page below. absurd (omega (arith, below));
  behind = λ page past. refl;
  at_rest = λ f v saved pages are h. (pages, h);
}

-- One more page.
pub one_forgotten : (records : ℕ → Option Obj) (r s t : Rooms) (page : ℕ) → HasForgotten records r s page
    → (is_content records page ≡ true → stage_of t.pages page ≡ stage_of s.pages page)
    → (is_content records page ≡ false → stage_of t.pages page ≡ stages.Fresh)
    → ((other : ℕ) → other ≢ page → stage_of t.pages other ≡ stage_of s.pages other)
    → ((f : ℕ → Word) (v : ℕ) (saved : Parts) (pages : ℕ → Option (ℕ → ℕ))
    → AreOfRecords records saved.pages → AreAtRest s f v saved pages
    → (after : ℕ → Option (ℕ → ℕ)) × AreAtRest t f v saved after)
    → HasForgotten records r t (page + 1)
one_forgotten records r s t page h kept fresh others at_rest = record {
  kept = λ i below is. elim (cases_eq i page) [
    | inl here ↦ subst (λ (p : ℕ). is_content records p ≡ true → stage_of t.pages p ≡ stage_of r.pages p) (sym here)
        (λ this. kept this ∙ h.behind page (omega arith)) is
    | inr apart ↦ others i apart ∙ h.kept i (omega (arith, below, apart)) is
  ];
  fresh = λ i below none. elim (cases_eq i page) [
    | inl here ↦ subst (λ (p : ℕ). is_content records p ≡ false → stage_of t.pages p ≡ stages.Fresh) (sym here)
        fresh none
    | inr apart ↦ others i apart ∙ h.fresh i (omega (arith, below, apart)) none
  ];
  behind = λ i past. others i (omega (arith, past)) ∙ h.behind i (omega (arith, past));
  at_rest = λ f v saved pages are was.
      let before = h.at_rest f v saved pages are was in at_rest f v saved before.0 are before.1;
}
