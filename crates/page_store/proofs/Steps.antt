-- What each operation makes of the page that it is about.
use Rattle.std.proofs.Common.{◌≡◌, inl, inr, ℕ, ◌+◌, ◌-◌, ◌<◌, ◌≤◌, ◌∙◌, refl, subst, ap, arith, true, false, Option, Some, None, ⊎_elim}
use Rattle.std.proofs.lemmas.Bool.{cases_Bool}
use Rattle.std.proofs.lemmas.Bool.Decides.{nat_tests}
use Rattle.sls_base.specs.declared.limits.TheConstants.{FRAME_WORDS, PAGES}
use Rattle.sls_base.specs.declared.fixed.TheConstants.{LEADER}
use Rattle.pmem_model.specs.Words.{Word, is_within, bursts, flushes}
use Rattle.pmem_model.specs.Events.{Kind, Cached, Clean, Over, WordCalm, WordFenced, is_apart, burst_one, flush_calm, calm_word}
use Rattle.pmem_model.specs.Maps.{One, Both, row, IsKnown, all_places, known_calm, known_fenced, known_flushed, known_row, known_copied, known_elsewhere, row_within}
use Rattle.pmem_model.specs.Memory.{frame_begin}
use Rattle.pmem_model.specs.PlaceLaws.{frame_begin-is}
use Rattle.pmem_layout.specs.Places.{runtime_frame, backup_frame, frame_at, line_at}
use Rattle.page_store.specs.Slots.{Backup, slot_frame, slot_tag_at, slot_tag}
use Rattle.page_store.specs.Format.{Is}
use Rattle.page_store.specs.Known.{Phase, Open, kept_kind, kept_tag, runtime_map, slot_map, page_map}
use Rattle.page_store.specs.Shows.{WritesHold, PageShows, words_of, with_words}
use Rattle.page_store.specs.declared.stage.PageStage.TheVariants.{Fresh, Protected, Preparing, Writable}
use Rattle.page_store.specs.declared.stage.Preparation.TheVariants.{FlushCopy, FenceCopy, StoreTag, FlushTag, FenceTag}
use Rattle.page_store.specs.declared.stage.Origin.{Origin}
use Rattle.page_store.specs.declared.stage.Origin.TheVariants.{Zeros, Copy}
use Rattle.page_store.specs.declared.stage.Writes.{Writes}
use Rattle.page_store.specs.declared.stage.Writes.TheVariants.{Nothing, Stored, Flushed}
use Rattle.page_store.proofs.PageLaws.{written_reads}

-- Apartness: a page's tag stands before all frames, and its backup frame behind its runtime frame.

runtime_before : (page j : ℕ) → j < FRAME_WORDS → is_within (frame_at (slot_frame page Backup)) FRAME_WORDS (frame_at (runtime_frame page) + j) ≡ false
runtime_before page j lt = is_apart (frame_at (slot_frame page Backup)) FRAME_WORDS (frame_at (runtime_frame page) + j) (inl (omega (arith, lt)))

pub tag_before : (page from count : ℕ) → page < PAGES → 17920 ≤ from → is_within from count (slot_tag_at page Backup) ≡ false
tag_before page from count lt high = is_apart from count (slot_tag_at page Backup) (inl (omega (arith, lt, high)))

pub slot_behind : (page at count j : ℕ) → at + count ≤ FRAME_WORDS
    → is_within (frame_at (runtime_frame page) + at) count (frame_at (slot_frame page Backup) + j) ≡ false
slot_behind page at count j fits =
    is_apart (frame_at (runtime_frame page) + at) count (frame_at (slot_frame page Backup) + j) (inr (omega (arith, fits)))

pub frame_behind : (page frame j : ℕ) → page < PAGES → is_within (slot_tag_at page Backup) 1 (frame_at frame + j) ≡ false
frame_behind page frame j lt = is_apart (slot_tag_at page Backup) 1 (frame_at frame + j) (inr (omega (arith, lt)))

-- the slot's words after a burst in the runtime frame
slot_stays : (core page at count : ℕ) (k l : Kind) (kept : ℕ → ℕ) (tag : ℕ) (value : ℕ → ℕ) (f g : ℕ → Word)
    → page < PAGES → at + count ≤ FRAME_WORDS
    → ((i : ℕ) → g i ≡ bursts (frame_at (runtime_frame page) + at) count value f i)
    → IsKnown core (Both (row (frame_at (slot_frame page Backup)) FRAME_WORDS k kept) (One (slot_tag_at page Backup) l tag)) f
    → IsKnown core (Both (row (frame_at (slot_frame page Backup)) FRAME_WORDS k kept) (One (slot_tag_at page Backup) l tag)) g
slot_stays core page at count k l kept tag value f g lt fits e h =
    known_elsewhere core (Both (row (frame_at (slot_frame page Backup)) FRAME_WORDS k kept) (One (slot_tag_at page Backup) l tag)) f g
    (frame_at (runtime_frame page) + at) count value e
    (λ j in_frame. slot_behind page at count j fits, tag_before page (frame_at (runtime_frame page) + at) count lt (omega arith)) h

-- A fresh page

pub zeroed : {f g : ℕ → Word} {v page : ℕ} {saved now : Option (ℕ → ℕ)} {phase : Phase} (value : ℕ → ℕ) → page < PAGES
    → ((i : ℕ) → g i ≡ bursts (frame_at (runtime_frame page)) FRAME_WORDS value f i) → ((j : ℕ) → j < FRAME_WORDS → value j ≡ 0)
    → PageShows Fresh f v page saved now phase → PageShows (Writable Zeros Nothing) g v page saved now phase
zeroed {f} {g} {v} {page} {saved} {now} {phase} value lt e zero h = record {
  held = value;
  kept = h.kept;
  old = h.old;
  holds = (h.holds.0, (h.holds.1, zero));
  known = (
    known_row LEADER f g (frame_at (runtime_frame page)) FRAME_WORDS value e,
    (
      λ j in_frame. tt,
      known_elsewhere LEADER (One (slot_tag_at page Backup) Clean h.old) f g (frame_at (runtime_frame page)) FRAME_WORDS value e
          (tag_before page (frame_at (runtime_frame page)) FRAME_WORDS lt (omega arith)) h.known.1.1,
    ),
  );
}

-- A protected page: the runtime frame is copied to the slot.

pub copied_on : {f g : ℕ → Word} {v page : ℕ} {saved now : Option (ℕ → ℕ)} {phase : Phase} (core : ℕ) → page < PAGES
    → ((i : ℕ) → g i ≡ bursts (frame_at (slot_frame page Backup)) FRAME_WORDS (λ j. (f (frame_at (runtime_frame page) + j)).cached) f i)
    → PageShows Protected f v page saved now phase → PageShows (Preparing core FlushCopy) g v page saved now phase
copied_on {f} {g} {v} {page} {saved} {now} {phase} core lt e h =
    let value : ℕ → ℕ = λ j. (f (frame_at (runtime_frame page) + j)).cached in
    record {
      held = h.held;
      kept = h.held;
      old = h.old;
      holds = (h.holds, refl);
      known = (
        known_elsewhere core (runtime_map Protected phase page h.held) f g (frame_at (slot_frame page Backup)) FRAME_WORDS value e
            (λ j in_frame. runtime_before page j in_frame) h.known.0,
        (
          known_copied core Clean f g (frame_at (runtime_frame page)) (frame_at (slot_frame page Backup)) FRAME_WORDS h.held e tt h.known.0,
          known_elsewhere core (One (slot_tag_at page Backup) Clean h.old) f g (frame_at (slot_frame page Backup)) FRAME_WORDS value e
              (tag_before page (frame_at (slot_frame page Backup)) FRAME_WORDS lt (omega arith)) h.known.1.1,
        ),
      );
    }

pub copy_flushed : {f g : ℕ → Word} {v page core : ℕ} {saved now : Option (ℕ → ℕ)} {phase : Phase}
    → ((i : ℕ) → g i ≡ flushes core (frame_at (slot_frame page Backup)) FRAME_WORDS f i)
    → PageShows (Preparing core FlushCopy) f v page saved now phase → PageShows (Preparing core FenceCopy) g v page saved now phase
copy_flushed {f} {g} {v} {page} {core} {saved} {now} {phase} e h =
    let at = frame_at (slot_frame page Backup) in
    let calm = flush_calm f g core at FRAME_WORDS e in
    record {
      held = h.held;
      kept = h.kept;
      old = h.old;
      holds = h.holds;
      known = (
        known_calm core (runtime_map Protected phase page h.held) f g (λ j in_frame. calm (frame_at (runtime_frame page) + j)) h.known.0,
        (
          known_flushed core (row at FRAME_WORDS Cached h.kept) f g at FRAME_WORDS e (row_within at FRAME_WORDS Cached h.kept) h.known.1.0,
          calm_word core Clean (f (slot_tag_at page Backup)) (g (slot_tag_at page Backup)) h.old (calm (slot_tag_at page Backup)) h.known.1.1,
        ),
      );
    }

-- a fence by the core that prepares
pub copy_fenced : {f g : ℕ → Word} {v page core : ℕ} {saved now : Option (ℕ → ℕ)} {phase : Phase}
    → ((i : ℕ) → WordFenced core (f i) (g i))
    → PageShows (Preparing core FenceCopy) f v page saved now phase → PageShows (Preparing core StoreTag) g v page saved now phase
copy_fenced {f} {g} {v} {page} {core} {saved} {now} {phase} fence h =
    let m = page_map (Preparing core FenceCopy) phase page v h.held h.kept h.old in
    record {
      held = h.held;
      kept = h.kept;
      old = h.old;
      holds = h.holds;
      known = known_fenced core m f g (all_places (λ p. WordFenced core (f p) (g p)) m fence) h.known;
    }

-- The tag

pub tag_stored : {f g : ℕ → Word} {v page core : ℕ} {saved now : Option (ℕ → ℕ)} {phase : Phase} (value : ℕ → ℕ) → page < PAGES
    → ((i : ℕ) → g i ≡ bursts (slot_tag_at page Backup) 1 value f i) → value 0 ≡ slot_tag Backup v
    → PageShows (Preparing core StoreTag) f v page saved now phase → PageShows (Preparing core FlushTag) g v page saved now phase
tag_stored {f} {g} {v} {page} {core} {saved} {now} {phase} value lt e is h =
    let at = slot_tag_at page Backup in
    record {
      held = h.held;
      kept = h.kept;
      old = h.old;
      holds = h.holds;
      known = (
        known_elsewhere core (runtime_map Protected phase page h.held) f g at 1 value e
            (λ j in_frame. frame_behind page (runtime_frame page) j lt) h.known.0,
        (
          known_elsewhere core (row (frame_at (slot_frame page Backup)) FRAME_WORDS Clean h.kept) f g at 1 value e
              (λ j in_frame. frame_behind page (slot_frame page Backup) j lt) h.known.1.0,
          burst_one core f g at h.old (slot_tag Backup v) value e is h.known.1.1.1,
        ),
      );
    }

pub line_has : (at : ℕ) → is_within (line_at at) 8 at ≡ true
line_has at = grind (arith, nat_tests)

pub tag_flushed : {f g : ℕ → Word} {v page core : ℕ} {saved now : Option (ℕ → ℕ)} {phase : Phase}
    → ((i : ℕ) → g i ≡ flushes core (line_at (slot_tag_at page Backup)) 8 f i)
    → PageShows (Preparing core FlushTag) f v page saved now phase → PageShows (Preparing core FenceTag) g v page saved now phase
tag_flushed {f} {g} {v} {page} {core} {saved} {now} {phase} e h =
    let at = slot_tag_at page Backup in
    let calm = flush_calm f g core (line_at at) 8 e in
    record {
      held = h.held;
      kept = h.kept;
      old = h.old;
      holds = h.holds;
      known = (
        known_calm core (runtime_map Protected phase page h.held) f g (λ j in_frame. calm (frame_at (runtime_frame page) + j)) h.known.0,
        (
          known_calm core (row (frame_at (slot_frame page Backup)) FRAME_WORDS Clean h.kept) f g
              (λ j in_frame. calm (frame_at (slot_frame page Backup) + j)) h.known.1.0,
          known_flushed core (One at (Over h.old) (slot_tag Backup v)) f g (line_at at) 8 e (line_has at) h.known.1.1,
        ),
      );
    }

pub tag_fenced : {f g : ℕ → Word} {v page core : ℕ} {saved now : Option (ℕ → ℕ)} {phase : Phase}
    → ((i : ℕ) → WordFenced core (f i) (g i))
    → PageShows (Preparing core FenceTag) f v page saved now phase → PageShows (Writable Copy Nothing) g v page saved now phase
tag_fenced {f} {g} {v} {page} {core} {saved} {now} {phase} fence h =
    let m = page_map (Preparing core FenceTag) phase page v h.held h.kept h.old in
    record {
      held = h.held;
      kept = h.kept;
      old = h.old;
      holds = (subst (λ (words : ℕ → ℕ). Is saved words) h.holds.1 h.holds.0.as_saved, (h.holds.0.as_now, h.holds.1));
      known = known_fenced core m f g (all_places (λ p. WordFenced core (f p) (g p)) m fence) h.known;
    }

-- The leader flushes what was stored.

pub frame_flushed : {f g : ℕ → Word} {v page : ℕ} {saved now : Option (ℕ → ℕ)} (origin : Origin)
    → ((i : ℕ) → g i ≡ flushes LEADER (frame_at (runtime_frame page)) FRAME_WORDS f i)
    → PageShows (Writable origin Stored) f v page saved now Open → PageShows (Writable origin Flushed) g v page saved now Open
frame_flushed {f} {g} {v} {page} {saved} {now} origin e h =
    let at = frame_at (runtime_frame page) in
    let calm = flush_calm f g LEADER at FRAME_WORDS e in
    let m = slot_map (Writable origin Stored) page Backup v h.kept h.old in
    record {
      held = h.held;
      kept = h.kept;
      old = h.old;
      holds = h.holds;
      known = (
        known_flushed LEADER (row at FRAME_WORDS Cached h.held) f g at FRAME_WORDS e (row_within at FRAME_WORDS Cached h.held) h.known.0,
        known_calm LEADER m f g (all_places (λ p. WordCalm (f p) (g p)) m calm) h.known.1,
      );
    }

-- A store

written_words : (writes : Writes) (origin : Origin) (now : Option (ℕ → ℕ)) (held kept : ℕ → ℕ) → WritesHold writes origin now held kept
    → (j : ℕ) → j < FRAME_WORDS → held j ≡ words_of now j
written_words Nothing Zeros None held kept h j lt = h.1 j lt
written_words Nothing Zeros (Some words) held kept h j lt = let e = h.0 in cc
written_words Nothing Copy None held kept h j lt = absurd h.0
written_words Nothing Copy (Some words) held kept h j lt = h.0 j lt
written_words Stored origin None held kept h j lt = absurd h
written_words Stored origin (Some words) held kept h j lt = h j lt
written_words Flushed origin None held kept h j lt = absurd h
written_words Flushed origin (Some words) held kept h j lt = h j lt

same_with : (a b : ℕ → ℕ) (at count : ℕ) (value : ℕ → ℕ) (j : ℕ) → a j ≡ b j → with_words a at count value j ≡ with_words b at count value j
same_with a b at count value j e =
    ⊎_elim
    (λ (yes : is_within at count j ≡ true). rw yes refl)
    (λ (off : is_within at count j ≡ false). rw off e)
    (cases_Bool (is_within at count j))

within_frame : (frame at count j : ℕ) → is_within (frame_at frame + at) count (frame_at frame + j) ≡ is_within at count j
within_frame frame at count j = grind (arith, nat_tests)

stored_word : (f g : ℕ → Word) (frame at count j : ℕ) (value words : ℕ → ℕ)
    → ((i : ℕ) → g i ≡ bursts (frame_at frame + at) count value f i)
    → (f (frame_at frame + j)).cached ≡ words j
    → (g (frame_at frame + j)).cached ≡ with_words words at count value j
stored_word f g frame at count j value words e is =
    let same = within_frame frame at count j in
    ⊎_elim
    (λ (yes : is_within at count j ≡ true).
    let k : frame_at frame + j - (frame_at frame + at) ≡ j - at = omega arith in
    let w = rw (same, yes, k) at (e (frame_at frame + j)) in rw yes (ap (λ (u : Word). u.cached) w))
    (λ (off : is_within at count j ≡ false).
    let w = rw (same, off) at (e (frame_at frame + j)) in rw off (ap (λ (u : Word). u.cached) w ∙ is))
    (cases_Bool (is_within at count j))

pub stored_on : {f g : ℕ → Word} {v page : ℕ} {saved now : Option (ℕ → ℕ)} (origin : Origin) (writes : Writes) (at count : ℕ) (value : ℕ → ℕ)
    → page < PAGES → at + count ≤ FRAME_WORDS
    → ((i : ℕ) → g i ≡ bursts (frame_at (runtime_frame page) + at) count value f i)
    → PageShows (Writable origin writes) f v page saved now Open
    → PageShows (Writable origin Stored) g v page saved (Some (with_words (words_of now) at count value)) Open
stored_on {f} {g} {v} {page} {saved} {now} origin writes at count value lt fits e h = record {
  held = with_words h.held at count value;
  kept = h.kept;
  old = h.old;
  holds = (
    h.holds.0,
    λ j in_frame. same_with h.held (words_of now) at count value j (written_words writes origin now h.held h.kept h.holds.1 j in_frame),
  );
  known = (
    λ j in_frame. stored_word f g (runtime_frame page) at count j value h.held e
        (written_reads writes origin Open (f (frame_at (runtime_frame page) + j)) (h.held j) (h.known.0 j in_frame)),
    slot_stays LEADER page at count (kept_kind origin) Clean h.kept (kept_tag origin (slot_tag Backup v) h.old) value f g lt fits e h.known.1,
  );
}

-- a copy, by the places of frames
pub copy_words : (f g : ℕ → Word) (page : ℕ)
    → ((i : ℕ) → g i ≡ bursts (frame_begin (backup_frame page)) 512 (λ j. (f (frame_begin (runtime_frame page) + j)).cached) f i)
    → (i : ℕ) → g i ≡ bursts (frame_at (backup_frame page)) 512 (λ j. (f (frame_at (runtime_frame page) + j)).cached) f i
copy_words f g page e = rw (frame_begin-is (backup_frame page), frame_begin-is (runtime_frame page)) at e
