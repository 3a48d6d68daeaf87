-- What each operation of recovery makes of the page that it is about, and of the others.
use Rattle.std.proofs.Common.{◌≡◌, ◌≢◌, inl, inr, ℕ, ◌+◌, ◌<◌, ◌≤◌, ◌==◌, nat_lt, ◌∙◌, sym, refl, subst, ap, arith, true, false, Bool, IsTrue, Option, ⊎_elim}
use Rattle.std.proofs.lemmas.Bool.{cases_Bool, cases_eq}
use Rattle.std.proofs.lemmas.Bool.Decides.{nat_tests}
use Rattle.sls_base.specs.declared.limits.TheConstants.{FRAME_WORDS, PAGES}
use Rattle.sls_base.specs.declared.fixed.TheConstants.{LEADER}
use Rattle.pmem_model.specs.Words.{Word, is_within, bursts, flushes}
use Rattle.pmem_model.specs.Events.{Cached, Clean, Over, WordFenced, is_apart, burst_one, flush_calm, calm_word}
use Rattle.pmem_model.specs.Maps.{One, row, known_calm, known_flushed, known_copied, known_elsewhere, row_within}
use Rattle.pmem_model.specs.Memory.{frame_begin, count_up, count_by}
use Rattle.pmem_model.specs.PlaceLaws.{frame_begin-is}
use Rattle.pmem_layout.specs.Places.{runtime_frame, backup_frame, frame_at, line_at}
use Rattle.page_store.specs.Slots.{Backup, slot_frame, slot_tag_at, slot_tag}
use Rattle.page_store.proofs.Places.{StoresOnlyInPage}
use Rattle.page_store.specs.Stages.{stage_of, Moves}
use Rattle.page_store.specs.Known.{Phase, Open, Fenced}
use Rattle.page_store.specs.Back.{Progress, Found, Cleared, Copied, Plain, Back, PageBack, IsPassed, passed, at_step, progress_of, phase_of, is_back, steps_left, RecoveryShows, RecoveryMoves}
use Rattle.page_store.specs.declared.recovery.TheConstants.{RECOVERY_STEPS}
use Rattle.page_store.specs.declared.stage.PageStage.{PageStage}
use Rattle.page_store.specs.declared.store.PageStore.{PageStore}
use Rattle.page_store.specs.declared.recovery.Step.{Step}
use Rattle.page_store.specs.declared.recovery.Step.TheVariants.{Read}
use Rattle.page_store.specs.declared.recovery.Recovery.{Recovery}
use Rattle.page_store.proofs.Places.{pages_apart}
use Rattle.page_store.proofs.BackLaws.{back_calm, back_fenced}
use Rattle.page_store.proofs.Steps.{tag_before, frame_behind, line_has}

-- A page that was found

pub cleared : {f g : ℕ → Word} {v page : ℕ} {saved : Option (ℕ → ℕ)} {phase : Phase} (value : ℕ → ℕ) → page < PAGES
    → ((i : ℕ) → g i ≡ bursts (slot_tag_at page Backup) 1 value f i) → value 0 ≡ 0
    → (h : PageBack Found f v page saved phase) → slot_tag Backup v < h.tag → PageBack Cleared g v page saved phase
cleared {f} {g} {v} {page} {saved} {phase} value lt e is h above =
    let at = slot_tag_at page Backup in
    let other : h.tag ≢ slot_tag Backup v = λ same. absurd (omega (arith, above, same)) in
    record {
      held = h.held;
      kept = h.kept;
      old = h.tag;
      tag = 0;
      holds = record { as_saved = h.holds.1 other; before = omega arith; other = other };
      known = (
        known_elsewhere LEADER (row (frame_at (runtime_frame page)) FRAME_WORDS Clean h.held) f g at 1 value e
            (λ j in_frame. frame_behind page (runtime_frame page) j lt) h.known.0,
        (
          known_elsewhere LEADER (row (frame_at (slot_frame page Backup)) FRAME_WORDS Clean h.kept) f g at 1 value e
              (λ j in_frame. frame_behind page (slot_frame page Backup) j lt) h.known.1.0,
          burst_one LEADER f g at h.tag 0 value e is h.known.1.1.1,
        ),
      );
    }

slot_after : (page j : ℕ) → is_within (frame_at (runtime_frame page)) FRAME_WORDS (frame_at (slot_frame page Backup) + j) ≡ false
slot_after page j = is_apart (frame_at (runtime_frame page)) FRAME_WORDS (frame_at (slot_frame page Backup) + j) (inr (omega arith))

pub copied_back : {f g : ℕ → Word} {v page : ℕ} {saved : Option (ℕ → ℕ)} {phase : Phase} → page < PAGES
    → ((i : ℕ) → g i ≡ bursts (frame_at (runtime_frame page)) FRAME_WORDS (λ j. (f (frame_at (slot_frame page Backup) + j)).cached) f i)
    → (h : PageBack Found f v page saved phase) → h.tag ≡ slot_tag Backup v → PageBack Copied g v page saved phase
copied_back {f} {g} {v} {page} {saved} {phase} lt e h tagged =
    let value : ℕ → ℕ = λ j. (f (frame_at (slot_frame page Backup) + j)).cached in
    record {
      held = h.kept;
      kept = h.kept;
      old = h.old;
      tag = h.tag;
      holds = record { as_saved = h.holds.0 tagged; same = refl; tagged = tagged };
      known = (
        known_copied LEADER Clean f g (frame_at (slot_frame page Backup)) (frame_at (runtime_frame page)) FRAME_WORDS h.kept e tt h.known.1.0,
        (
          known_elsewhere LEADER (row (frame_at (slot_frame page Backup)) FRAME_WORDS Clean h.kept) f g (frame_at (runtime_frame page)) FRAME_WORDS value e
              (λ j in_frame. slot_after page j) h.known.1.0,
          known_elsewhere LEADER (One (slot_tag_at page Backup) Clean h.tag) f g (frame_at (runtime_frame page)) FRAME_WORDS value e
              (tag_before page (frame_at (runtime_frame page)) FRAME_WORDS lt (omega arith)) h.known.1.1,
        ),
      );
    }

pub left_plain : {f : ℕ → Word} {v page : ℕ} {saved : Option (ℕ → ℕ)}
    → (h : PageBack Found f v page saved Open) → h.tag < slot_tag Backup v → PageBack Plain f v page saved Open
left_plain {f} {v} {page} {saved} h below =
    let other : h.tag ≢ slot_tag Backup v = λ same. absurd (omega (arith, below, same)) in
    record {
      held = h.held;
      kept = h.kept;
      old = h.tag;
      tag = h.tag;
      holds = record { as_saved = h.holds.1 other; before = omega (arith, below); other = other };
      known = (h.known.0, (h.known.1.0, (h.known.1.1.0, inl h.known.1.1.1)));
    }

-- The flushes

pub clear_flushed : {f g : ℕ → Word} {v page : ℕ} {saved : Option (ℕ → ℕ)}
    → ((i : ℕ) → g i ≡ flushes LEADER (line_at (slot_tag_at page Backup)) 8 f i)
    → PageBack Cleared f v page saved Open → PageBack Plain g v page saved Open
clear_flushed {f} {g} {v} {page} {saved} e h =
    let at = slot_tag_at page Backup in
    let calm = flush_calm f g LEADER (line_at at) 8 e in
    record {
      held = h.held;
      kept = h.kept;
      old = h.old;
      tag = h.tag;
      holds = h.holds;
      known = (
        known_calm LEADER (row (frame_at (runtime_frame page)) FRAME_WORDS Clean h.held) f g
            (λ j in_frame. calm (frame_at (runtime_frame page) + j)) h.known.0,
        (
          known_calm LEADER (row (frame_at (slot_frame page Backup)) FRAME_WORDS Clean h.kept) f g
              (λ j in_frame. calm (frame_at (slot_frame page Backup) + j)) h.known.1.0,
          known_flushed LEADER (One at (Over h.old) h.tag) f g (line_at at) 8 e (line_has at) h.known.1.1,
        ),
      );
    }

pub copy_flushed_back : {f g : ℕ → Word} {v page : ℕ} {saved : Option (ℕ → ℕ)}
    → ((i : ℕ) → g i ≡ flushes LEADER (frame_at (runtime_frame page)) FRAME_WORDS f i)
    → PageBack Copied f v page saved Open → PageBack Back g v page saved Open
copy_flushed_back {f} {g} {v} {page} {saved} e h =
    let at = frame_at (runtime_frame page) in
    let calm = flush_calm f g LEADER at FRAME_WORDS e in
    record {
      held = h.held;
      kept = h.kept;
      old = h.old;
      tag = h.tag;
      holds = h.holds;
      known = (
        known_flushed LEADER (row at FRAME_WORDS Cached h.held) f g at FRAME_WORDS e (row_within at FRAME_WORDS Cached h.held) h.known.0,
        (
          known_calm LEADER (row (frame_at (slot_frame page Backup)) FRAME_WORDS Clean h.kept) f g
              (λ j in_frame. calm (frame_at (slot_frame page Backup) + j)) h.known.1.0,
          calm_word LEADER Clean (f (slot_tag_at page Backup)) (g (slot_tag_at page Backup)) h.tag (calm (slot_tag_at page Backup)) h.known.1.1,
        ),
      );
    }

-- The progress

pub goes_on : (pages : PageStore) (page : ℕ) (before next : Step) (fenced : Bool)
    → RecoveryMoves (record { pages = pages; page = page; next = before; is_fenced = fenced })
    (record { pages = pages; page = page; next = next; is_fenced = fenced }) page (at_step next)
unfolding progress_of
goes_on pages page before next fenced =
    let behind : nat_lt page page ≡ false = grind (arith, nat_tests) in
    let here : (page == page) ≡ true = grind (arith, nat_tests) in
    record {
      here = rw (behind, here) refl;
      others = λ i other. let off : (i == page) ≡ false = grind (arith, nat_tests) in rw off refl;
      at = λ v h. h;
      stages = λ i other. refl;
    }

pub passes : (pages later : PageStore) (page : ℕ) (before : Step) (fenced : Bool) (stage : PageStage) → Moves pages later page stage
    → RecoveryMoves (record { pages = pages; page = page; next = before; is_fenced = fenced })
    (record { pages = later; page = page + 1; next = Read; is_fenced = fenced }) page (passed stage)
unfolding progress_of
passes pages later page before fenced stage moves =
    let behind : nat_lt page (page + 1) ≡ true = grind (arith, nat_tests) in
    record {
      here = rw behind (ap (λ (u : PageStage). passed u) moves.here);
      others = λ i other.
          let off : (i == page) ≡ false = grind (arith, nat_tests) in
          ⊎_elim
          (λ (low : nat_lt i page ≡ true).
          let low_too : nat_lt i (page + 1) ≡ true = grind (arith, nat_tests) in
          rw (low, low_too) (ap (λ (u : PageStage). passed u) (moves.others i other)))
          (λ (high : nat_lt i page ≡ false).
          let high_too : nat_lt i (page + 1) ≡ false = grind (arith, nat_tests) in
          ⊎_elim
          (λ (next : (i == page + 1) ≡ true). rw (high, high_too, off, next) refl)
          (λ (far : (i == page + 1) ≡ false). rw (high, high_too, off, far) refl)
          (cases_Bool (i == page + 1)))
          (cases_Bool (nat_lt i page));
      at = moves.at;
      stages = moves.others;
    }

-- the page at hand
pub hand_is : (pages : PageStore) (page : ℕ) (next : Step) (fenced : Bool)
    → progress_of (record { pages = pages; page = page; next = next; is_fenced = fenced }) page ≡ at_step next
unfolding progress_of
hand_is pages page next fenced =
    let behind : nat_lt page page ≡ false = grind (arith, nat_tests) in
    let here : (page == page) ≡ true = grind (arith, nat_tests) in
    rw (behind, here) refl

-- A step of one page: the others are as they were.
pub back_step : {r t : Recovery} {f g : ℕ → Word} (v page : ℕ) (progress : Progress) (saved : ℕ → Option (ℕ → ℕ)) (phase : Phase)
    → RecoveryMoves r t page progress → StoresOnlyInPage page f g → page < PAGES
    → ((i : ℕ) → i < PAGES → PageBack (progress_of r i) f v i (saved i) phase) → PageBack progress g v page (saved page) phase
    → (i : ℕ) → i < PAGES → PageBack (progress_of t i) g v i (saved i) phase
back_step {r} {t} {f} {g} v page progress saved phase moves stores in_range all one = λ i lt.
    ⊎_elim
    (λ (is : i ≡ page).
    subst (λ (k : ℕ). PageBack (progress_of t k) g v k (saved k) phase) (sym is)
    (subst (λ (u : Progress). PageBack u g v page (saved page) phase) (sym moves.here) one))
    (λ (other : i ≢ page).
    subst (λ (u : Progress). PageBack u g v i (saved i) phase) (sym (moves.others i other))
    (back_calm (λ word own. stores.at word (λ mine. other (pages_apart i page word lt in_range own mine))) (all i lt)))
    (cases_eq i page)

-- what a step shows
pub shows_next : {r t : Recovery} {f g : ℕ → Word} (v page : ℕ) (progress : Progress) (saved : ℕ → Option (ℕ → ℕ))
    → RecoveryMoves r t page progress → r.is_fenced ≡ false → t.is_fenced ≡ false → page < PAGES → StoresOnlyInPage page f g
    → ((i : ℕ) → i < t.page → i < PAGES → IsPassed (stage_of t.pages i))
    → RecoveryShows r f v saved → PageBack progress g v page (saved page) Open → RecoveryShows t g v saved
shows_next {r} {t} {f} {g} v page progress saved moves before after lt stores done h one = record {
  at = moves.at v h.at;
  each = λ i in_range.
      subst (λ (b : Bool). PageBack (progress_of t i) g v i (saved i) (phase_of b)) (sym after)
      (back_step v page progress saved Open moves stores lt
      (λ k within. subst (λ (b : Bool). PageBack (progress_of r k) f v k (saved k) (phase_of b)) before (h.each k within)) one i in_range);
  done = done;
  full = λ fenced. let z : true ≡ false = sym fenced ∙ after in cc;
}

-- the pages that are passed after one more
pub passed_too : {r t : Recovery} {f : ℕ → Word} {v : ℕ} {saved : ℕ → Option (ℕ → ℕ)} (page : ℕ) (stage : PageStage) (progress : Progress)
    → RecoveryMoves r t page progress → r.page ≡ page → t.page ≡ r.page + 1 → stage_of t.pages page ≡ stage → IsPassed stage
    → RecoveryShows r f v saved
    → (i : ℕ) → i < t.page → i < PAGES → IsPassed (stage_of t.pages i)
passed_too {r} {t} page stage progress moves at next is ok h = λ i low lt.
    ⊎_elim
    (λ (same : i ≡ page). subst (λ (k : ℕ). IsPassed (stage_of t.pages k)) (sym same) (subst (λ (u : PageStage). IsPassed u) (sym is) ok))
    (λ (other : i ≢ page).
    subst (λ (u : PageStage). IsPassed u) (sym (moves.stages i other)) (h.done i (omega (arith, low, next, at, other)) lt))
    (cases_eq i page)

-- the page at hand
pub hand : (r : Recovery) {f : ℕ → Word} {v : ℕ} {saved : ℕ → Option (ℕ → ℕ)} (next : Step) → r.next ≡ next → r.is_fenced ≡ false
    → r.page < PAGES → RecoveryShows r f v saved → PageBack (at_step next) f v r.page (saved r.page) Open
hand r {f} {v} {saved} next is fenced lt h =
    subst (λ (s : Step). PageBack (at_step s) f v r.page (saved r.page) Open) is
    (subst (λ (p : Progress). PageBack p f v r.page (saved r.page) Open) (hand_is r.pages r.page r.next r.is_fenced)
    (subst (λ (b : Bool). PageBack (progress_of r r.page) f v r.page (saved r.page) (phase_of b)) fenced (h.each r.page lt)))

-- a copy back, by the places of frames
pub back_words : (f g : ℕ → Word) (page : ℕ)
    → ((i : ℕ) → g i ≡ bursts (frame_begin (runtime_frame page)) 512 (λ j. (f (frame_begin (backup_frame page) + j)).cached) f i)
    → (i : ℕ) → g i ≡ bursts (frame_at (runtime_frame page)) 512 (λ j. (f (frame_at (backup_frame page) + j)).cached) f i
back_words f g page e = rw (frame_begin-is (runtime_frame page), frame_begin-is (backup_frame page)) at e

-- the beginning and the end
pub new_progress : (pages : PageStore) (page : ℕ)
    → progress_of (record { pages = pages; page = 0; next = Read; is_fenced = false }) page ≡ Found
unfolding progress_of
new_progress pages page =
    let behind : nat_lt page 0 ≡ false = grind (arith, nat_tests) in
    ⊎_elim
    (λ (first : (page == 0) ≡ true). rw (behind, first) refl)
    (λ (later : (page == 0) ≡ false). rw (behind, later) refl)
    (cases_Bool (page == 0))

end_progress : (r : Recovery) (page : ℕ) → page < r.page → progress_of r page ≡ passed (stage_of r.pages page)
unfolding progress_of
end_progress r page low = let behind : nat_lt page r.page ≡ true = grind (arith, nat_tests) in rw behind refl

pub end_back : (r : Recovery) {f : ℕ → Word} {v : ℕ} {saved : Option (ℕ → ℕ)} (page : ℕ) → r.is_fenced ≡ true → page < r.page
    → PageBack (progress_of r page) f v page saved (phase_of r.is_fenced) → PageBack (passed (stage_of r.pages page)) f v page saved Fenced
end_back r {f} {v} {saved} page fenced low h =
    subst (λ (p : Progress). PageBack p f v page saved Fenced) (end_progress r page low)
    (subst (λ (b : Bool). PageBack (progress_of r page) f v page saved (phase_of b)) fenced h)

-- the fence at the end
pub all_fenced : (r : Recovery) {f g : ℕ → Word} {v : ℕ} {saved : ℕ → Option (ℕ → ℕ)} → r.is_fenced ≡ false → PAGES ≤ r.page
    → ((i : ℕ) → WordFenced LEADER (f i) (g i)) → RecoveryShows r f v saved
    → RecoveryShows (record { pages = r.pages; page = r.page; next = r.next; is_fenced = true }) g v saved
unfolding progress_of
all_fenced r {f} {g} {v} {saved} before full fence h = record {
  at = h.at;
  each = λ page lt. back_fenced (λ word own. fence word)
      (subst (λ (b : Bool). PageBack (progress_of r page) f v page (saved page) (phase_of b)) before (h.each page lt));
  done = h.done;
  full = λ fenced. full;
}

-- the steps that are left
pub fewer_left : (r t : Recovery) (done : ℕ) → done < RECOVERY_STEPS → (is_back r ≡ false → steps_left t < steps_left r)
    → (is_back r ≡ true → t ≡ r) → steps_left r + done ≤ RECOVERY_STEPS → steps_left t + (done + 1) ≤ RECOVERY_STEPS
fewer_left r t done lt fewer stays before =
    ⊎_elim
    (λ (back : r.is_fenced ≡ true).
    let none : steps_left t ≡ 0 = rw (stays back, back) refl in omega (arith, none, lt))
    (λ (not_yet : r.is_fenced ≡ false). let less = fewer not_yet in omega (arith, less, before))
    (cases_Bool r.is_fenced)

pub none_left : (r : Recovery) → steps_left r ≡ 0 → IsTrue (is_back r)
none_left r none =
    ⊎_elim
    (λ (back : r.is_fenced ≡ true). back)
    (λ (not_yet : r.is_fenced ≡ false). let z = rw not_yet at none in absurd (omega (arith, z)))
    (cases_Bool r.is_fenced)

-- counts of cuts
pub cut_once : (n : ℕ) → count_up n ≡ count_by n (1 + 0)
cut_once n = grind (arith, nat_tests)

pub cut_again : (n more : ℕ) → count_up (count_by n (1 + more)) ≡ count_by n (1 + (more + 1))
cut_again n more = grind (arith, nat_tests)
