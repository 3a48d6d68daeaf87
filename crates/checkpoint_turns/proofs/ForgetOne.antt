-- A page is forgotten on which no object has content, and of which nothing is saved then.
use Rattle.std.specs.Prelude.{◌≡◌, ◌<◌, ◌==◌, ℕ, Bool, true, false, if◌then◌else◌, Option, Some, None, is_some}
use Rattle.std.proofs.Common.{refl, ap, sym, subst, ◌∙◌, inl, inr}
use Rattle.std.proofs.lemmas.Bool.{cases_eq, eq-eqb, ne_eqb}
use mathlib.Core.Path.{fun_ext}
use Rattle.sls_base.specs.declared.limits.TheConstants.{PAGES}
use Rattle.pmem_model.specs.Words.{Word}
use Rattle.kobj_codec.specs.declared.obj.Obj.{Obj}
use Rattle.object_records.specs.Pages.{is_content}
use Rattle.object_root.specs.Room.{AllIdle}
use Rattle.page_store.specs.Known.{Open}
use Rattle.page_store.specs.Shows.{with_page}
use Rattle.durable_state.specs.Parts.{Parts}
use Rattle.version_rooms.specs.declared.rooms.Rooms.{Rooms}
use Rattle.version_rooms.specs.Rest.{AreAtRest}
use Rattle.version_rooms.specs.Rooms.{Contents, RoomsShow, without_page}
use Rattle.saved_state.specs.State.{AreOfRecords}

none_of : (words : Option (ℕ → ℕ)) → is_some words ≡ false → words ≡ None
none_of None none = refl
none_of (Some words) none = absurd (cc)

-- the pages that are saved are the same without one that isn't among them
same_without : (pages : ℕ → Option (ℕ → ℕ)) (page : ℕ) → pages page ≡ None → with_page pages page None ≡ pages
same_without pages page none = fun_ext (λ i. elim (cases_eq i page) [
  | inl here ↦
      let is : (i == page) ≡ true = eq-eqb i page here in
      ap (λ (b : Bool). if b then None else pages i) is ∙ sym (ap pages here ∙ none)
  | inr apart ↦
      let isnt : (i == page) ≡ false = ne_eqb i page apart in
      ap (λ (b : Bool). if b then None else pages i) isnt
])

module _ (r s : Rooms) (page : ℕ) (below : page < PAGES) (records : ℕ → Option Obj)
    (none : is_content records page ≡ false)
    (rooms : s ≡ record r { pages = s.pages })
    (shows : (f : ℕ → Word) (v : ℕ) (c : Contents) → RoomsShow r f v c Open
    → RoomsShow s f v (without_page c page) Open) where
  saved_same : (saved : Parts) → AreOfRecords records saved.pages
      → record saved { pages = with_page saved.pages page None } ≡ saved
  saved_same saved are =
      ap (λ (pages : ℕ → Option (ℕ → ℕ)). record saved { pages = pages })
      (same_without saved.pages page (none_of (saved.pages page) (are.each page below ∙ none)))

  pub still_at_rest : (f : ℕ → Word) (v : ℕ) (saved : Parts) (pages : ℕ → Option (ℕ → ℕ))
      → AreOfRecords records saved.pages → AreAtRest r f v saved pages
      → AreAtRest s f v saved (with_page pages page None)
  still_at_rest f v saved pages are h = record {
    shows = λ objects. subst (λ (parts : Parts).
        RoomsShow s f v (record { saved = parts; objects = objects; pages = with_page pages page None }) Open)
        (saved_same saved are)
        (shows f v (record { saved = saved; objects = objects; pages = pages }) (h.shows objects));
    committer = ap (λ (t : Rooms). t.committer.version) rooms ∙ h.committer;
    records = ap (λ (t : Rooms). t.roots.phase) rooms ∙ h.records;
    idle = subst (λ (t : Rooms). AllIdle t.roots) (sym rooms) h.idle;
    log = ap (λ (t : Rooms). t.numbers.work.stage) rooms ∙ h.log;
  }
