-- A step of one page: what it does to the words of the others, and to the other entries.
use Rattle.std.proofs.Common.{◌≡◌, ◌≢◌, inr, ℕ, ◌+◌, ◌<◌, ◌≤◌, ◌==◌, sym, refl, subst, ap, arith, true, false, length, slice_set, slice_index_or, List, replicate, Option, None, ⊎_elim, get_or-set_same, get_or-set_other}
use Rattle.std.proofs.lemmas.Bool.{cases_Bool, cases_eq}
use Rattle.std.proofs.lemmas.Bool.Decides.{nat_tests}
use Rattle.std.proofs.lemmas.List.{get_or-replicate}
use Rattle.sls_base.specs.declared.limits.TheConstants.{PAGES}
use Rattle.sls_base.specs.declared.fixed.TheConstants.{LEADER}
use Rattle.pmem_model.specs.Words.{Word, is_within, bursts}
use Rattle.pmem_model.specs.Events.{WordCalm, WordIs, Clean, calm_same, inside_of}
use Rattle.pmem_layout.specs.Owners.{Pages}
use Rattle.pmem_layout.specs.Rooms.{StoresOnlyIn}
use Rattle.page_store.specs.Slots.{Slot, Backup, slot_tag_at, IsUpTo}
use Rattle.page_store.proofs.Places.{IsOfPage, StoresOnlyInPage}
use Rattle.page_store.specs.Stages.{stage_of, entry_of, stage_at, no_entry, after, IsAt, Moves, MayCopy, MayTag}
use Rattle.page_store.specs.declared.store.Entry.{Entry}
use Rattle.page_store.specs.Known.{Phase, Open}
use Rattle.page_store.specs.Shows.{PageShows, PagesShow, with_page}
use Rattle.page_store.specs.declared.stage.PageStage.{PageStage}
use Rattle.page_store.specs.declared.stage.PageStage.TheVariants.{Fresh, Protected, Preparing, Writable}
use Rattle.page_store.specs.declared.stage.Origin.TheVariants.{Zeros, Copy}
use Rattle.page_store.specs.declared.stage.Writes.TheVariants.{Nothing, Stored, Flushed}
use Rattle.page_store.specs.declared.stage.Preparation.{Preparation}
use Rattle.page_store.specs.declared.stage.Preparation.TheVariants.{FlushCopy, FenceCopy, StoreTag, FlushTag, FenceTag}
use Rattle.page_store.specs.declared.store.PageStore.{PageStore}
use Rattle.page_store.proofs.Places.{page_owner, pages_apart}
use Rattle.page_store.proofs.PageLaws.{page_calm}

-- where nothing is stored, and where words of the page are
pub calm_in_page : {f g : ℕ → Word} (page : ℕ) → ((word : ℕ) → WordCalm (f word) (g word)) → StoresOnlyInPage page f g
calm_in_page page calm = record { at = λ word other. calm word }

pub burst_in_page : {f g : ℕ → Word} (page at count : ℕ) (value : ℕ → ℕ) → ((i : ℕ) → g i ≡ bursts at count value f i)
    → ((j : ℕ) → j < count → IsOfPage page (at + j)) → StoresOnlyInPage page f g
burst_in_page {f} {g} page at count value e own = record {
  at = λ word other.
      ⊎_elim
      (λ (yes : is_within at count word ≡ true).
      let k = inside_of at count word yes in absurd (other (subst (λ (p : ℕ). IsOfPage page p) k.2 (own k.0 k.1))))
      (λ (off : is_within at count word ≡ false). calm_same (f word) (g word) (rw off at (e word)))
      (cases_Bool (is_within at count word));
}

pub in_pages : {f g : ℕ → Word} (page : ℕ) → page < PAGES → StoresOnlyInPage page f g → StoresOnlyIn Pages f g
in_pages page lt stores = record { at = λ word other. stores.at word (λ own. other (page_owner page word lt own)) }

-- The other pages are as they were.
pub step : {s t : PageStore} {f g : ℕ → Word} (v page : ℕ) (stage : PageStage) (saved now kept next : ℕ → Option (ℕ → ℕ)) (phase : Phase)
    → Moves s t page stage → StoresOnlyInPage page f g → page < PAGES
    → ((i : ℕ) → i ≢ page → (kept i ≡ saved i) × (next i ≡ now i))
    → PagesShow s f v saved now phase → PageShows stage g v page (kept page) (next page) phase
    → PagesShow t g v kept next phase
step {s} {t} {f} {g} v page stage saved now kept next phase moves stores in_range same h one = record {
  at = moves.at v h.at;
  each = λ i lt.
      ⊎_elim
      (λ (is : i ≡ page).
      subst (λ (k : ℕ). PageShows (stage_of t k) g v k (kept k) (next k) phase) (sym is)
      (subst (λ (u : PageStage). PageShows u g v page (kept page) (next page) phase) (sym moves.here) one))
      (λ (other : i ≢ page).
      subst (λ (u : PageStage). PageShows u g v i (kept i) (next i) phase) (sym (moves.others i other))
      (subst (λ (x : Option (ℕ → ℕ)). PageShows (stage_of s i) g v i x (next i) phase) (sym (same i other).0)
      (subst (λ (x : Option (ℕ → ℕ)). PageShows (stage_of s i) g v i (saved i) x phase) (sym (same i other).1)
      (page_calm (λ word own. stores.at word (λ mine. other (pages_apart i page word lt in_range own mine))) (h.each i lt)))))
      (cases_eq i page);
}

-- where the contents stay
pub step_same : {s t : PageStore} {f g : ℕ → Word} (v page : ℕ) (stage : PageStage) (saved now : ℕ → Option (ℕ → ℕ)) (phase : Phase)
    → Moves s t page stage → StoresOnlyInPage page f g → page < PAGES
    → PagesShow s f v saved now phase → PageShows stage g v page (saved page) (now page) phase
    → PagesShow t g v saved now phase
step_same v page stage saved now phase moves stores in_range h one =
    step v page stage saved now saved now phase moves stores in_range (λ i other. (refl, refl)) h one

-- the page at hand, in its stage
pub at_stage : {s : PageStore} {f : ℕ → Word} {v : ℕ} {saved now : ℕ → Option (ℕ → ℕ)} {phase : Phase} (page : ℕ) (stage : PageStage)
    → page < PAGES → stage_of s page ≡ stage → PagesShow s f v saved now phase
    → PageShows stage f v page (saved page) (now page) phase
at_stage {s} {f} {v} {saved} {now} {phase} page stage lt is h =
    subst (λ (u : PageStage). PageShows u f v page (saved page) (now page) phase) is (h.each page lt)

-- an entry is made
pub moved : (entries : List Entry) (version page : ℕ) (stage : PageStage) → page < length entries
    → Moves (record { entries = entries; version = version })
    (record { entries = slice_set entries page (record { stage = stage; version = version }); version = version }) page stage
unfolding stage_of entry_of
moved entries version page stage lt =
    let entry : Entry = record { stage = stage; version = version } in
    let same : (version == version) ≡ true = grind (arith, nat_tests) in
    record {
      here = rw (get_or-set_same entries page entry no_entry lt, same) refl;
      others = λ i ne. ap (λ (e : Entry). stage_at version e) (get_or-set_other entries page i entry no_entry ne);
      at = λ v h. record {
        version = h.version;
        entries = λ i in_range.
            ⊎_elim
            (λ (is : i ≡ page). rw (is, get_or-set_same entries page entry no_entry lt) (omega (arith, h.version)))
            (λ (ne : i ≢ page). rw (get_or-set_other entries page i entry no_entry ne) (h.entries i in_range))
            (cases_eq i page);
      };
    }

-- the core that prepares a page is the one that may go on
copies_mine : (c core : ℕ) (next : Preparation) → MayCopy (Preparing c next) core → c ≡ core
copies_mine c core FlushCopy may = may
copies_mine c core FenceCopy may = may
copies_mine c core StoreTag may = absurd may
copies_mine c core FlushTag may = absurd may
copies_mine c core FenceTag may = absurd may

tags_mine : (c core : ℕ) (next : Preparation) → MayTag (Preparing c next) core → c ≡ core
tags_mine c core FlushCopy may = absurd may
tags_mine c core FenceCopy may = absurd may
tags_mine c core StoreTag may = may
tags_mine c core FlushTag may = may
tags_mine c core FenceTag may = may

pub copies_on : (stage : PageStage) (c core : ℕ) (next step : Preparation) → stage ≡ Preparing c next → next ≡ step → MayCopy stage core
    → stage ≡ Preparing core step
copies_on stage c core next step is on may =
    let mine = copies_mine c core next (subst (λ (u : PageStage). MayCopy u core) is may) in cc

pub tags_on : (stage : PageStage) (c core : ℕ) (next step : Preparation) → stage ≡ Preparing c next → next ≡ step → MayTag stage core
    → stage ≡ Preparing core step
tags_on stage c core next step is on may =
    let mine = tags_mine c core next (subst (λ (u : PageStage). MayTag u core) is may) in cc

-- After a commit the entries are those of an earlier version.
after_twice : (stage : PageStage) → after (after stage) ≡ after stage
after_twice Fresh = refl
after_twice Protected = refl
after_twice (Preparing core next) = refl
after_twice (Writable Zeros Nothing) = refl
after_twice (Writable Zeros Stored) = refl
after_twice (Writable Zeros Flushed) = refl
after_twice (Writable Copy writes) = refl

stage_at_later : (entry : Entry) (version next : ℕ) → entry.version ≤ version → version < next → stage_at next entry ≡ after (stage_at version entry)
stage_at_later entry version next old later =
    let other : (entry.version == next) ≡ false = grind (arith, nat_tests) in
    ⊎_elim
    (λ (yes : (entry.version == version) ≡ true). rw (other, yes) refl)
    (λ (no : (entry.version == version) ≡ false). rw (other, no) (sym (after_twice entry.stage)))
    (cases_Bool (entry.version == version))

pub stage_later : (entries : List Entry) (version next v page : ℕ) → next ≡ v + 1 → IsAt (record { entries = entries; version = version }) v
    → page < PAGES → stage_of (record { entries = entries; version = next }) page
    ≡ after (stage_of (record { entries = entries; version = version }) page)
unfolding stage_of entry_of
stage_later entries version next v page is at lt =
    let old = at.entries page lt in
    let same = at.version in
    stage_at_later (slice_index_or entries page no_entry) version next (omega (arith, old, same)) (omega (arith, is, same))

pub at_later : (entries : List Entry) (version next v : ℕ) → next ≡ v + 1 → IsAt (record { entries = entries; version = version }) v
    → IsAt (record { entries = entries; version = next }) next
unfolding entry_of
at_later entries version next v is at = record {
  version = refl;
  entries = λ page lt. let old = at.entries page lt in omega (arith, old, is);
}

-- The contents, where one page's is another.
pub page_here : (pages : ℕ → Option (ℕ → ℕ)) (page : ℕ) (content : Option (ℕ → ℕ)) → with_page pages page content page ≡ content
page_here pages page content = let same : (page == page) ≡ true = grind (arith, nat_tests) in rw same refl

pub page_elsewhere : (pages : ℕ → Option (ℕ → ℕ)) (page : ℕ) (content : Option (ℕ → ℕ)) (i : ℕ) → i ≢ page
    → with_page pages page content i ≡ pages i
page_elsewhere pages page content i other = let ne : (i == page) ≡ false = grind (arith, nat_tests) in rw ne refl

-- the one word of a burst at a page's tag
pub is_tag : (page j : ℕ) → j < 1 → IsOfPage page (slot_tag_at page Backup + j)
is_tag page j lt = inr (Backup, inr (omega (arith, lt)))

-- A new store.
new_entry : (version page : ℕ) → page < PAGES
    → entry_of (record { entries = replicate 512 (record { stage = Fresh; version = version }); version = version }) page
    ≡ record { stage = Fresh; version = version }
unfolding entry_of
new_entry version page lt = get_or-replicate 512 page (record { stage = Fresh; version = version }) no_entry lt

pub new_stage : (version page : ℕ) → page < PAGES
    → stage_of (record { entries = replicate 512 (record { stage = Fresh; version = version }); version = version }) page ≡ Fresh
unfolding stage_of
new_stage version page lt =
    let same : (version == version) ≡ true = grind (arith, nat_tests) in rw (new_entry version page lt, same) refl

pub new_at : (version : ℕ) → IsAt (record { entries = replicate 512 (record { stage = Fresh; version = version }); version = version }) version
new_at version = record { version = refl; entries = λ page lt. rw (new_entry version page lt) (omega arith) }

pub new_shows : {s : PageStore} (f : ℕ → Word) (version : ℕ) → IsAt s version → ((page : ℕ) → page < PAGES → stage_of s page ≡ Fresh)
    → ((page : ℕ) (slot : Slot) → page < PAGES → (tag : ℕ) × IsUpTo slot tag version × WordIs LEADER Clean (f (slot_tag_at page slot)) tag)
    → PagesShow s f version (λ page. None) (λ page. None) Open
new_shows {s} f version at fresh tags = record {
  at = at;
  each = λ page lt.
      let (tag, up_to, clean) = tags page Backup lt in
      let one : PageShows Fresh f version page None None Open = record {
        held = λ j. 0;
        kept = λ j. 0;
        old = tag;
        holds = (record { none = refl; older = up_to }, refl);
        known = (λ j in_frame. tt, (λ j in_frame. tt, clean));
      } in
      subst (λ (u : PageStage). PageShows u f version page None None Open) (sym (fresh page lt)) one;
}
