-- Laws of one page.
use Rattle.std.proofs.Common.{◌≡◌, ◌≢◌, ◌⊎◌, inl, inr, ℕ, ◌+◌, ◌<◌, ◌≤◌, ◌∙◌, sym, refl, subst, ap, arith, Option, Some, None}
use Rattle.sls_base.specs.declared.limits.TheConstants.{FRAME_WORDS}
use Rattle.sls_base.specs.declared.fixed.TheConstants.{LEADER}
use Rattle.pmem_model.specs.Words.{Word}
use Rattle.pmem_model.specs.Events.{WordIs, WordCalm, WordFenced, settled, Left, MayBe}
use Rattle.pmem_model.specs.Maps.{AllPlaces, IsKnown, IsLeft, IsRead, known_calm_in, known_fenced_in, known_left_in, reads_word}
use Rattle.pmem_layout.specs.Places.{runtime_frame, frame_at}
use Rattle.page_store.specs.Slots.{Slot, Backup, slot_frame, slot_tag_at, slot_tag, HasSlot, IsUntagged, IsFrameClean, durable_words}
use Rattle.page_store.proofs.Places.{IsOfPage}
use Rattle.page_store.specs.Format.{Is, frame_of, PageStands}
use Rattle.page_store.specs.Stages.{after, flushed, IsFlushed, IsSettled}
use Rattle.page_store.specs.Known.{Phase, Open, Fenced, flusher, written_kind, kept_kind, tag_kind, tag_now, page_map}
use Rattle.page_store.specs.Shows.{Has, NothingSaved, IsUnstored, Holds, PageShows}
use Rattle.page_store.specs.declared.stage.PageStage.{PageStage}
use Rattle.page_store.specs.declared.stage.PageStage.TheVariants.{Fresh, Protected, Preparing, Writable}
use Rattle.page_store.specs.declared.stage.Preparation.{Preparation}
use Rattle.page_store.specs.declared.stage.Preparation.TheVariants.{FlushCopy, FenceCopy, StoreTag, FlushTag, FenceTag}
use Rattle.page_store.specs.declared.stage.Origin.{Origin}
use Rattle.page_store.specs.declared.stage.Origin.TheVariants.{Zeros, Copy}
use Rattle.page_store.specs.declared.stage.Writes.{Writes}
use Rattle.page_store.specs.declared.stage.Writes.TheVariants.{Nothing, Stored, Flushed}

pub page_places : (stage : PageStage) (phase : Phase) (page v : ℕ) (held kept : ℕ → ℕ) (old : ℕ)
    → AllPlaces (IsOfPage page) (page_map stage phase page v held kept old)
page_places stage phase page v held kept old = (
  λ j lt. inl (omega arith, omega (arith, lt)),
  (λ j lt. inr (Backup, inl (omega arith, omega (arith, lt))), inr (Backup, inr refl)),
)

-- Calm

pub page_calm : {stage : PageStage} {f g : ℕ → Word} {v page : ℕ} {saved now : Option (ℕ → ℕ)} {phase : Phase}
    → ((word : ℕ) → IsOfPage page word → WordCalm (f word) (g word))
    → PageShows stage f v page saved now phase → PageShows stage g v page saved now phase
page_calm {stage} {f} {g} {v} {page} {saved} {now} {phase} calm h = record {
  held = h.held;
  kept = h.kept;
  old = h.old;
  holds = h.holds;
  known = known_calm_in (flusher stage) (page_map stage phase page v h.held h.kept h.old) f g
      (page_places stage phase page v h.held h.kept h.old) calm h.known;
}

-- Fenced

settled_written : (writes : Writes) (origin : Origin) (phase : Phase) (w : Word) (x : ℕ)
    → WordIs LEADER (settled (written_kind writes origin phase)) w x → WordIs LEADER (written_kind writes origin Fenced) w x
settled_written Nothing Zeros phase w x h = h
settled_written Nothing Copy phase w x h = h
settled_written Stored origin phase w x h = h
settled_written Flushed origin Open w x h = h
settled_written Flushed origin Fenced w x h = h

settled_kept : (origin : Origin) (w : Word) (x : ℕ)
    → WordIs LEADER (settled (kept_kind origin)) w x → WordIs LEADER (kept_kind origin) w x
settled_kept Zeros w x h = h
settled_kept Copy w x h = h

known_then : (stage : PageStage) (f g : ℕ → Word) (v page : ℕ) (phase : Phase) (held kept : ℕ → ℕ) (old : ℕ)
    → ((word : ℕ) → IsOfPage page word → WordFenced LEADER (f word) (g word))
    → IsKnown (flusher stage) (page_map stage phase page v held kept old) f
    → IsKnown (flusher stage) (page_map stage Fenced page v held kept old) g
known_then Fresh f g v page phase held kept old fence h =
    known_calm_in LEADER (page_map Fresh phase page v held kept old) f g
    (page_places Fresh phase page v held kept old) (λ w own. (fence w own).calm) h
known_then Protected f g v page phase held kept old fence h =
    known_calm_in LEADER (page_map Protected phase page v held kept old) f g
    (page_places Protected phase page v held kept old) (λ w own. (fence w own).calm) h
known_then (Preparing core next) f g v page phase held kept old fence h =
    known_calm_in core (page_map (Preparing core next) phase page v held kept old) f g
    (page_places (Preparing core next) phase page v held kept old) (λ w own. (fence w own).calm) h
known_then (Writable origin writes) f g v page phase held kept old fence h =
    let k = known_fenced_in LEADER (page_map (Writable origin writes) phase page v held kept old) f g
    (page_places (Writable origin writes) phase page v held kept old) fence h in (
      λ j lt. settled_written writes origin phase (g (frame_at (runtime_frame page) + j)) (held j) (k.0 j lt),
      (λ j lt. settled_kept origin (g (frame_at (slot_frame page Backup) + j)) (kept j) (k.1.0 j lt), k.1.1),
    )

pub page_fenced : {stage : PageStage} {f g : ℕ → Word} {v page : ℕ} {saved now : Option (ℕ → ℕ)} {phase : Phase}
    → ((word : ℕ) → IsOfPage page word → WordFenced LEADER (f word) (g word))
    → PageShows stage f v page saved now phase → PageShows stage g v page saved now Fenced
page_fenced {stage} {f} {g} {v} {page} {saved} {now} {phase} fence h = record {
  held = h.held;
  kept = h.kept;
  old = h.old;
  holds = h.holds;
  known = known_then stage f g v page phase h.held h.kept h.old fence h.known;
}

-- Stands

is_none : (content : Option (ℕ → ℕ)) (words : ℕ → ℕ) → content ≡ None → Is content words
is_none None words e = tt
is_none (Some content) words e = cc

pub is_same : (content : Option (ℕ → ℕ)) (a b : ℕ → ℕ) → ((j : ℕ) → j < FRAME_WORDS → b j ≡ a j) → Is content a → Is content b
is_same None a b e h = tt
is_same (Some content) a b e h = λ j lt. e j lt ∙ h j lt

pub is_of_has : (content : Option (ℕ → ℕ)) (words : ℕ → ℕ) → Has content words → Is content words
is_of_has None words h = absurd h
is_of_has (Some content) words h = h

-- a page has one slot
pub each_slot : (P : Slot → Type 0) → P Backup → (slot : Slot) → P slot
each_slot P backup Backup = backup

-- the words of a frame that a cut leaves are these
IsFrameLeft : (ℕ → ℕ) → ℕ → (ℕ → ℕ) → Type 0
IsFrameLeft left frame words = (j : ℕ) → j < FRAME_WORDS → left (frame_at frame + j) ≡ words j

nothing_stands : (left : ℕ → ℕ) (v page : ℕ) (saved : Option (ℕ → ℕ)) (old : ℕ) → NothingSaved saved old v
    → PageStands left v page saved
nothing_stands left v page saved old h = record {
  slot = λ slot e. is_none saved (frame_of left (slot_frame page slot)) h.none;
  runtime = λ e. is_none saved (frame_of left (runtime_frame page)) h.none;
}

-- the content is in the runtime frame, and in the slot if that has the tag
unstored_stands : (left : ℕ → ℕ) (v page : ℕ) (saved now : Option (ℕ → ℕ)) (held : ℕ → ℕ) (old : ℕ)
    → IsUnstored saved now held old v
    → ((j : ℕ) → j < FRAME_WORDS → left (frame_at (runtime_frame page) + j) ≡ held j)
    → (left (slot_tag_at page Backup) ≡ old)
    ⊎ ((j : ℕ) → j < FRAME_WORDS → left (frame_at (slot_frame page Backup) + j) ≡ held j)
    → PageStands left v page saved
unstored_stands left v page saved now held old h runtime slot = record {
  slot = each_slot (λ s. HasSlot left page s v → Is saved (frame_of left (slot_frame page s)))
      (λ e. elim slot [
        | inl tag ↦ absurd (omega (arith, tag, e, h.older))
        | inr words ↦ is_same saved held (frame_of left (slot_frame page Backup)) words h.as_saved
      ]);
  runtime = λ none. is_same saved held (frame_of left (runtime_frame page)) runtime h.as_saved;
}

-- the content is in the slot, which has the tag
pub kept_stands : (left : ℕ → ℕ) (v page : ℕ) (saved : Option (ℕ → ℕ)) (kept : ℕ → ℕ)
    → Is saved kept
    → ((j : ℕ) → j < FRAME_WORDS → left (frame_at (slot_frame page Backup) + j) ≡ kept j)
    → HasSlot left page Backup v
    → PageStands left v page saved
kept_stands left v page saved kept h words tag = record {
  slot = each_slot (λ s. HasSlot left page s v → Is saved (frame_of left (slot_frame page s)))
      (λ e. is_same saved kept (frame_of left (slot_frame page Backup)) words h);
  runtime = λ none. absurd (none Backup tag);
}

left_stands : (stage : PageStage) (left : ℕ → ℕ) (v page : ℕ) (saved now : Option (ℕ → ℕ)) (phase : Phase) (held kept : ℕ → ℕ) (old : ℕ)
    → Holds stage saved now held kept old v → IsLeft (page_map stage phase page v held kept old) left
    → PageStands left v page saved
left_stands Fresh left v page saved now phase held kept old h l = nothing_stands left v page saved old h.0
left_stands Protected left v page saved now phase held kept old h l = unstored_stands left v page saved now held old h l.0 (inl l.1.1)
left_stands (Preparing core FlushCopy) left v page saved now phase held kept old h l = unstored_stands left v page saved now held old h.0 l.0 (inl l.1.1)
left_stands (Preparing core FenceCopy) left v page saved now phase held kept old h l = unstored_stands left v page saved now held old h.0 l.0 (inl l.1.1)
left_stands (Preparing core StoreTag) left v page saved now phase held kept old h l = unstored_stands left v page saved now held old h.0 l.0 (inl l.1.1)
left_stands (Preparing core FlushTag) left v page saved now phase held kept old h l =
    unstored_stands left v page saved now held old h.0 l.0 (inr (λ j lt. l.1.0 j lt ∙ sym (ap (λ (words : ℕ → ℕ). words j) h.1)))
left_stands (Preparing core FenceTag) left v page saved now phase held kept old h l =
    unstored_stands left v page saved now held old h.0 l.0 (inr (λ j lt. l.1.0 j lt ∙ sym (ap (λ (words : ℕ → ℕ). words j) h.1)))
left_stands (Writable Zeros writes) left v page saved now phase held kept old h l = nothing_stands left v page saved old h.0
left_stands (Writable Copy writes) left v page saved now phase held kept old h l = kept_stands left v page saved kept h.0 l.1.0 l.1.1

pub page_stands : {stage : PageStage} {f : ℕ → Word} {left : ℕ → ℕ} {v page : ℕ} {saved now : Option (ℕ → ℕ)} {phase : Phase}
    → ((word : ℕ) → IsOfPage page word → Left (f word) (left word))
    → PageShows stage f v page saved now phase → PageStands left v page saved
page_stands {stage} {f} {left} {v} {page} {saved} {now} {phase} may h =
    left_stands stage left v page saved now phase h.held h.kept h.old h.holds
    (known_left_in (flusher stage) (page_map stage phase page v h.held h.kept h.old) f left
    (page_places stage phase page v h.held h.kept h.old) may h.known)

-- Commits

unstored_next : (now : Option (ℕ → ℕ)) (held : ℕ → ℕ) (old v : ℕ) → Has now held → old ≤ v + 1 → IsUnstored now now held old (v + 1)
unstored_next now held old v has older = record { as_saved = is_of_has now held has; as_now = has; older = older }

pub page_commits : (stage : PageStage) {f : ℕ → Word} {v page : ℕ} {saved now : Option (ℕ → ℕ)} → IsFlushed stage
    → PageShows stage f v page saved now Fenced → PageShows (after stage) f (v + 1) page now now Open
page_commits Fresh done h = record {
  held = h.held;
  kept = h.kept;
  old = h.old;
  known = h.known;
  holds = (record { none = h.holds.1; older = omega (arith, h.holds.0.older) }, h.holds.1);
}
page_commits Protected {f} {v} {page} {saved} {now} done h = record {
  held = h.held;
  kept = h.kept;
  old = h.old;
  known = h.known;
  holds = unstored_next now h.held h.old v h.holds.as_now (omega (arith, h.holds.older));
}
page_commits (Preparing core next) done h = absurd done
page_commits (Writable Zeros Nothing) done h = record {
  held = h.held;
  kept = h.kept;
  old = h.old;
  known = (λ j lt. tt, (λ j lt. tt, h.known.1.1));
  holds = (record { none = h.holds.1.0; older = omega (arith, h.holds.0.older) }, h.holds.1.0);
}
page_commits (Writable Copy Nothing) {f} {v} {page} {saved} {now} done h = record {
  held = h.held;
  kept = h.kept;
  old = v + 1;
  known = (h.known.0, (λ j lt. tt, h.known.1.1));
  holds = unstored_next now h.held (v + 1) v h.holds.1.0 (omega arith);
}
page_commits (Writable origin Stored) done h = absurd done
page_commits (Writable Zeros Flushed) {f} {v} {page} {saved} {now} done h = record {
  held = h.held;
  kept = h.kept;
  old = h.old;
  known = (h.known.0, (λ j lt. tt, h.known.1.1));
  holds = unstored_next now h.held h.old v h.holds.1 h.holds.0.older;
}
page_commits (Writable Copy Flushed) {f} {v} {page} {saved} {now} done h = record {
  held = h.held;
  kept = h.kept;
  old = v + 1;
  known = (h.known.0, (λ j lt. tt, h.known.1.1));
  holds = unstored_next now h.held (v + 1) v h.holds.1 (omega arith);
}

-- A page of which nothing needs to be kept

pub page_forgets : (stage : PageStage) {f : ℕ → Word} {v page : ℕ} {saved now : Option (ℕ → ℕ)} {phase : Phase} → IsSettled stage
    → PageShows stage f v page saved now phase → PageShows Fresh f v page None None phase
page_forgets Fresh ok h = record {
  held = h.held;
  kept = h.kept;
  old = h.old;
  known = h.known;
  holds = (record { none = refl; older = h.holds.0.older }, refl);
}
page_forgets Protected ok h = record {
  held = h.held;
  kept = h.kept;
  old = h.old;
  known = (λ j lt. tt, (λ j lt. tt, h.known.1.1));
  holds = (record { none = refl; older = omega (arith, h.holds.older) }, refl);
}
page_forgets (Preparing core next) ok h = absurd ok
page_forgets (Writable Zeros writes) ok h = record {
  held = h.held;
  kept = h.kept;
  old = h.old;
  known = (λ j lt. tt, (λ j lt. tt, h.known.1.1));
  holds = (record { none = refl; older = h.holds.0.older }, refl);
}
page_forgets (Writable Copy writes) {f} {v} ok h = record {
  held = h.held;
  kept = h.kept;
  old = v + 1;
  known = (λ j lt. tt, (λ j lt. tt, h.known.1.1));
  holds = (record { none = refl; older = omega arith }, refl);
}

-- The running content is what the runtime frame reads.

written_read : (writes : Writes) (origin : Origin) (phase : Phase) → IsRead (written_kind writes origin phase)
written_read Nothing Zeros phase = tt
written_read Nothing Copy phase = tt
written_read Stored origin phase = tt
written_read Flushed origin Open = tt
written_read Flushed origin Fenced = tt

pub written_reads : (writes : Writes) (origin : Origin) (phase : Phase) (w : Word) (x : ℕ)
    → WordIs LEADER (written_kind writes origin phase) w x → w.cached ≡ x
written_reads writes origin phase w x h = reads_word LEADER (written_kind writes origin phase) w x (written_read writes origin phase) h

stage_reads : (stage : PageStage) (f : ℕ → Word) (v page : ℕ) (saved now : Option (ℕ → ℕ)) (phase : Phase) (held kept : ℕ → ℕ) (old : ℕ)
    → Holds stage saved now held kept old v → IsKnown (flusher stage) (page_map stage phase page v held kept old) f
    → (now ≡ None) ⊎ (Has now held × ((j : ℕ) → j < FRAME_WORDS → (f (frame_at (runtime_frame page) + j)).cached ≡ held j))
stage_reads Fresh f v page saved now phase held kept old h k = inl h.1
stage_reads Protected f v page saved now phase held kept old h k = inr (h.as_now, λ j lt. (k.0 j lt).0)
stage_reads (Preparing core next) f v page saved now phase held kept old h k = inr (h.0.as_now, λ j lt. (k.0 j lt).0)
stage_reads (Writable Zeros Nothing) f v page saved now phase held kept old h k = inl h.1.0
stage_reads (Writable Copy Nothing) f v page saved now phase held kept old h k = inr (h.1.0, λ j lt. (k.0 j lt).0)
stage_reads (Writable origin Stored) f v page saved now phase held kept old h k = inr (h.1, λ j lt. k.0 j lt)
stage_reads (Writable origin Flushed) f v page saved now phase held kept old h k =
    inr (h.1, λ j lt. written_reads Flushed origin phase (f (frame_at (runtime_frame page) + j)) (held j) (k.0 j lt))

pub page_reads : {stage : PageStage} {f : ℕ → Word} {v page : ℕ} {saved : Option (ℕ → ℕ)} {phase : Phase}
    (now : Option (ℕ → ℕ)) (content : ℕ → ℕ) (j : ℕ) → now ≡ Some content → j < FRAME_WORDS
    → PageShows stage f v page saved now phase → (f (frame_at (runtime_frame page) + j)).cached ≡ content j
page_reads {stage} {f} {v} {page} {saved} {phase} now content j is lt h =
    elim (stage_reads stage f v page saved now phase h.held h.kept h.old h.holds h.known) [
      | inl none ↦ cc
      | inr k ↦ k.1 j lt ∙ subst (λ (x : Option (ℕ → ℕ)). Has x h.held) is k.0 j lt
    ]

-- What the states say

tag_left : (stage : PageStage) (v : ℕ) (saved now : Option (ℕ → ℕ)) (held kept : ℕ → ℕ) (old y : ℕ) → Holds stage saved now held kept old v
    → MayBe (tag_kind stage old) (tag_now stage (slot_tag Backup v) old) y → y ≤ slot_tag Backup v
tag_left Fresh v saved now held kept old y h l = omega (arith, l, h.0.older)
tag_left Protected v saved now held kept old y h l = omega (arith, l, h.older)
tag_left (Preparing core FlushCopy) v saved now held kept old y h l = omega (arith, l, h.0.older)
tag_left (Preparing core FenceCopy) v saved now held kept old y h l = omega (arith, l, h.0.older)
tag_left (Preparing core StoreTag) v saved now held kept old y h l = omega (arith, l, h.0.older)
tag_left (Preparing core FlushTag) v saved now held kept old y h l =
    elim l [ inl new ↦ omega (arith, new) | inr before ↦ omega (arith, before, h.0.older) ]
tag_left (Preparing core FenceTag) v saved now held kept old y h l =
    elim l [ inl new ↦ omega (arith, new) | inr before ↦ omega (arith, before, h.0.older) ]
tag_left (Writable Zeros writes) v saved now held kept old y h l = omega (arith, l, h.0.older)
tag_left (Writable Copy writes) v saved now held kept old y h l = omega (arith, l)

-- no slot has the tag of a later version, whatever a cut leaves
pub page_below : {stage : PageStage} {f : ℕ → Word} {left : ℕ → ℕ} {v page : ℕ} {saved now : Option (ℕ → ℕ)} {phase : Phase}
    → ((word : ℕ) → IsOfPage page word → Left (f word) (left word))
    → PageShows stage f v page saved now phase → (slot : Slot) → left (slot_tag_at page slot) ≤ slot_tag slot v
page_below {stage} {f} {left} {v} {page} {saved} {now} {phase} may h =
    let l = known_left_in (flusher stage) (page_map stage phase page v h.held h.kept h.old) f left
    (page_places stage phase page v h.held h.kept h.old) may h.known in
    each_slot (λ s. left (slot_tag_at page s) ≤ slot_tag s v)
    (tag_left stage v saved now h.held h.kept h.old (left (slot_tag_at page Backup)) h.holds l.1.1)

pub protected_page : {f : ℕ → Word} {v page : ℕ} {saved now : Option (ℕ → ℕ)} {phase : Phase}
    → PageShows Protected f v page saved now phase
    → IsFrameClean f (runtime_frame page) × ((slot : Slot) → IsUntagged f page slot v)
protected_page {f} {v} {page} h = (
  λ j lt. (h.known.0 j lt).0 ∙ sym (h.known.0 j lt).1,
  each_slot (λ s. IsUntagged f page s v) (
    λ e. absurd (omega (arith, e, h.known.1.1.0, h.holds.older)),
    λ e. absurd (omega (arith, e, h.known.1.1.1, h.holds.older)),
  ),
)

pub prepared_page : {core : ℕ} {next : Preparation} {f : ℕ → Word} {v page : ℕ} {saved now : Option (ℕ → ℕ)} {phase : Phase}
    → PageShows (Preparing core next) f v page saved now phase
    → IsFrameClean f (runtime_frame page) × Is saved (frame_of (durable_words f) (runtime_frame page))
prepared_page {core} {next} {f} {v} {page} {saved} h = (
  λ j lt. (h.known.0 j lt).0 ∙ sym (h.known.0 j lt).1,
  is_same saved h.held (frame_of (durable_words f) (runtime_frame page)) (λ j lt. (h.known.0 j lt).1) h.holds.0.as_saved,
)

pub writable_page : (origin : Origin) (writes : Writes) {f : ℕ → Word} {v page : ℕ} {saved now : Option (ℕ → ℕ)} {phase : Phase}
    → saved ≢ None → PageShows (Writable origin writes) f v page saved now phase
    → (slot : Slot) × IsFrameClean f (slot_frame page slot) × Is saved (frame_of (durable_words f) (slot_frame page slot))
    × HasSlot (durable_words f) page slot v
writable_page Zeros writes some h = absurd (some h.holds.0.none)
writable_page Copy writes {f} {v} {page} {saved} some h = (
  Backup,
  λ j lt. (h.known.1.0 j lt).0 ∙ sym (h.known.1.0 j lt).1,
  is_same saved h.kept (frame_of (durable_words f) (slot_frame page Backup)) (λ j lt. (h.known.1.0 j lt).1) h.holds.0,
  h.known.1.1.1,
)

pub flushed_settled : (stage : PageStage) → IsSettled stage → IsFlushed (flushed stage)
flushed_settled Fresh ok = tt
flushed_settled Protected ok = tt
flushed_settled (Preparing core next) ok = absurd ok
flushed_settled (Writable origin Nothing) ok = tt
flushed_settled (Writable origin Stored) ok = tt
flushed_settled (Writable origin Flushed) ok = tt
