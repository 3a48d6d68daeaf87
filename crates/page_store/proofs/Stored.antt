-- Pages to which words were stored in their runtime frames.
use Rattle.std.specs.Prelude.{◌≡◌, ℕ, ◌+◌, ◌<◌, Bool, true, false, if◌then◌else◌, Option, Some}
use Rattle.std.proofs.Common.{refl, sym, subst, inl, arith, ⊎_elim}
use Rattle.std.proofs.lemmas.Bool.{cases_Bool}
use Rattle.sls_base.specs.declared.limits.TheConstants.{FRAME_WORDS, PAGES}
use Rattle.sls_base.specs.declared.fixed.TheConstants.{LEADER}
use Rattle.pmem_model.specs.Words.{Word}
use Rattle.pmem_model.specs.Events.{WordCalm, calm_same}
use Rattle.pmem_model.specs.Maps.{known_calm}
use Rattle.pmem_layout.specs.Places.{runtime_frame, frame_at}
use Rattle.page_store.specs.Slots.{Backup, slot_frame, slot_tag_at}
use Rattle.page_store.specs.Known.{Open, slot_map}
use Rattle.page_store.specs.Stores.{IsInPage, IsStored, StoresInPages, after_stores}
use Rattle.page_store.specs.Shows.{PageShows}
use Rattle.page_store.specs.declared.stage.PageStage.{PageStage}
use Rattle.page_store.specs.declared.stage.PageStage.TheVariants.{Fresh, Protected, Preparing, Writable}
use Rattle.page_store.specs.declared.stage.Writes.TheVariants.{Nothing, Stored, Flushed}
use Rattle.page_store.proofs.Places.{IsOfPage, pages_apart}
use Rattle.page_store.proofs.PageLaws.{page_calm}

module _ {test : ℕ → Bool} {f g : ℕ → Word} (only : StoresInPages test f g) where
  -- a word of pages that stands in no such frame stays
  stays : (i : ℕ) → (IsInPage test i → ⊥) → WordCalm (f i) (g i)
  stays i off = ⊎_elim (λ (same : g i ≡ f i). calm_same (f i) (g i) same) (λ (is : IsInPage test i). absurd (off is)) (only i)

  -- what stands in such a frame is of that page
  of_page : (i : ℕ) (is : IsInPage test i) → IsOfPage is.page i
  of_page i is =
      let place = is.place in
      let within = is.within in
      inl (omega (arith, place, within), omega (arith, place, within))

  -- a page that fails the test
  spared : (page i : ℕ) → page < PAGES → test page ≡ false → IsOfPage page i → IsInPage test i → ⊥
  spared page i lt fails of is =
      let same : is.page ≡ page = pages_apart is.page page i is.inside lt (of_page i is) of in
      let passes : test page ≡ true = subst (λ (p : ℕ). test p ≡ true) same is.passes in
      absurd (cc)

  -- the slot of any page, and its tag

  slot_spared : (page j : ℕ) → page < PAGES → j < FRAME_WORDS → IsInPage test (frame_at (slot_frame page Backup) + j) → ⊥
  slot_spared page j lt in_frame is =
      let place = is.place in
      let within = is.within in
      omega (arith, place, within, in_frame)

  tag_spared : (page : ℕ) → page < PAGES → IsInPage test (slot_tag_at page Backup) → ⊥
  tag_spared page lt is =
      let place = is.place in
      omega (arith, place, lt)

  unstored : {stage : PageStage} {v page : ℕ} {saved now : Option (ℕ → ℕ)} → page < PAGES → test page ≡ false
      → PageShows stage f v page saved now Open → PageShows stage g v page saved now Open
  unstored {stage} {v} {page} {saved} {now} lt fails h =
      page_calm (λ i of. stays i (spared page i lt fails of)) h

  stored : (stage : PageStage) {v page : ℕ} {saved now : Option (ℕ → ℕ)} → page < PAGES → IsStored stage
      → PageShows stage f v page saved now Open
      → PageShows stage g v page saved (Some (λ j. (g (frame_at (runtime_frame page) + j)).cached)) Open
  stored (Writable origin Stored) {v} {page} {saved} {now} lt is h =
      record {
        held = λ j. (g (frame_at (runtime_frame page) + j)).cached;
        kept = h.kept;
        old = h.old;
        holds = (h.holds.0, λ j in_frame. refl);
        known = (
          λ j in_frame. refl,
          known_calm LEADER (slot_map (Writable origin Stored) page Backup v h.kept h.old) f g
              (λ j in_frame. stays (frame_at (slot_frame page Backup) + j) (slot_spared page j lt in_frame), stays (slot_tag_at page Backup) (tag_spared page lt))
              h.known.1,
        );
      }
  stored Fresh lt is h = absurd is
  stored Protected lt is h = absurd is
  stored (Preparing core next) lt is h = absurd is
  stored (Writable origin Nothing) lt is h = absurd is
  stored (Writable origin Flushed) lt is h = absurd is

  pub page_runs : (stage : PageStage) (v page : ℕ) (saved : Option (ℕ → ℕ)) (now : ℕ → Option (ℕ → ℕ)) → page < PAGES
      → (test page ≡ true → IsStored stage) → PageShows stage f v page saved (now page) Open
      → PageShows stage g v page saved (after_stores test g now page) Open
  page_runs stage v page saved now lt noted h =
      let shown : Bool → Type 0 = λ passes. PageShows stage g v page saved
      (if passes then Some (λ j. (g (frame_at (runtime_frame page) + j)).cached) else now page) Open in
      ⊎_elim
      (λ (passes : test page ≡ true). subst shown (sym passes) (stored stage lt (noted passes) h))
      (λ (fails : test page ≡ false). subst shown (sym fails) (unstored lt fails h))
      (cases_Bool (test page))
