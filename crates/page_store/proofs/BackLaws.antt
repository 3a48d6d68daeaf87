-- Laws of one page in recovery.
use Rattle.std.proofs.Common.{◌≡◌, ◌≢◌, ◌⊎◌, inl, inr, ℕ, ◌+◌, ◌<◌, ◌≤◌, ◌∙◌, sym, refl, subst, arith, Option, Some, None}
use Rattle.sls_base.specs.declared.limits.TheConstants.{FRAME_WORDS}
use Rattle.sls_base.specs.declared.fixed.TheConstants.{LEADER}
use Rattle.pmem_model.specs.Words.{Word}
use Rattle.pmem_model.specs.Events.{Clean, WordIs, WordCalm, WordFenced, Left}
use Rattle.pmem_model.specs.Maps.{AllPlaces, IsKnown, IsLeft, known_calm_in, known_fenced_in, known_left_in}
use Rattle.pmem_layout.specs.Places.{runtime_frame, frame_at}
use Rattle.page_store.specs.Slots.{Backup, slot_frame, slot_tag_at, slot_tag, HasSlot, durable_words}
use Rattle.page_store.proofs.Places.{IsOfPage}
use Rattle.page_store.specs.Format.{Is, frame_of, PageStands}
use Rattle.page_store.specs.Known.{Phase, Open, Fenced}
use Rattle.page_store.specs.Shows.{Has, PageShows}
use Rattle.page_store.specs.Back.{Progress, Found, Cleared, Copied, Plain, Back, back_map, BackHolds, PageBack, IsPassed, passed, content_or, filled}
use Rattle.page_store.specs.declared.stage.PageStage.{PageStage}
use Rattle.page_store.specs.declared.stage.PageStage.TheVariants.{Fresh, Protected, Preparing, Writable}
use Rattle.page_store.specs.declared.stage.Origin.TheVariants.{Zeros, Copy}
use Rattle.page_store.specs.declared.stage.Writes.TheVariants as writes
use Rattle.page_store.proofs.PageLaws.{is_same, each_slot, kept_stands}

back_places : (progress : Progress) (phase : Phase) (page : ℕ) (held kept : ℕ → ℕ) (old tag : ℕ)
    → AllPlaces (IsOfPage page) (back_map progress phase page held kept old tag)
back_places progress phase page held kept old tag = (
  λ j lt. inl (omega arith, omega (arith, lt)),
  (λ j lt. inr (Backup, inl (omega arith, omega (arith, lt))), inr (Backup, inr refl)),
)

pub back_calm : {progress : Progress} {f g : ℕ → Word} {v page : ℕ} {saved : Option (ℕ → ℕ)} {phase : Phase}
    → ((word : ℕ) → IsOfPage page word → WordCalm (f word) (g word))
    → PageBack progress f v page saved phase → PageBack progress g v page saved phase
back_calm {progress} {f} {g} {v} {page} {saved} {phase} calm h = record {
  held = h.held;
  kept = h.kept;
  old = h.old;
  tag = h.tag;
  holds = h.holds;
  known = known_calm_in LEADER (back_map progress phase page h.held h.kept h.old h.tag) f g
      (back_places progress phase page h.held h.kept h.old h.tag) calm h.known;
}

-- the fence at the end
known_then : (progress : Progress) (f g : ℕ → Word) (page : ℕ) (held kept : ℕ → ℕ) (old tag : ℕ)
    → ((word : ℕ) → IsOfPage page word → WordFenced LEADER (f word) (g word))
    → IsKnown LEADER (back_map progress Open page held kept old tag) f
    → IsKnown LEADER (back_map progress Fenced page held kept old tag) g
known_then Found f g page held kept old tag fence h = known_fenced_in LEADER (back_map Found Open page held kept old tag) f g
    (back_places Found Open page held kept old tag) fence h
known_then Cleared f g page held kept old tag fence h = known_fenced_in LEADER (back_map Cleared Open page held kept old tag) f g
    (back_places Cleared Open page held kept old tag) fence h
known_then Copied f g page held kept old tag fence h = known_fenced_in LEADER (back_map Copied Open page held kept old tag) f g
    (back_places Copied Open page held kept old tag) fence h
known_then Plain f g page held kept old tag fence h = known_fenced_in LEADER (back_map Plain Open page held kept old tag) f g
    (back_places Plain Open page held kept old tag) fence h
known_then Back f g page held kept old tag fence h = known_fenced_in LEADER (back_map Back Open page held kept old tag) f g
    (back_places Back Open page held kept old tag) fence h

pub back_fenced : {progress : Progress} {f g : ℕ → Word} {v page : ℕ} {saved : Option (ℕ → ℕ)}
    → ((word : ℕ) → IsOfPage page word → WordFenced LEADER (f word) (g word))
    → PageBack progress f v page saved Open → PageBack progress g v page saved Fenced
back_fenced {progress} {f} {g} {v} {page} {saved} fence h = record {
  held = h.held;
  kept = h.kept;
  old = h.old;
  tag = h.tag;
  holds = h.holds;
  known = known_then progress f g page h.held h.kept h.old h.tag fence h.known;
}

-- Whatever a cut leaves stands.

-- the content is in the runtime frame, and no slot has the tag
plain_stands : (left : ℕ → ℕ) (v page : ℕ) (saved : Option (ℕ → ℕ)) (held : ℕ → ℕ) → Is saved held
    → ((j : ℕ) → j < FRAME_WORDS → left (frame_at (runtime_frame page) + j) ≡ held j)
    → left (slot_tag_at page Backup) ≢ slot_tag Backup v
    → PageStands left v page saved
plain_stands left v page saved held h words other = record {
  slot = each_slot (λ s. HasSlot left page s v → Is saved (frame_of left (slot_frame page s))) (λ e. absurd (other e));
  runtime = λ none. is_same saved held (frame_of left (runtime_frame page)) words h;
}

-- a tag that is the new one or the old one
neither : (y old tag v : ℕ) → (y ≡ tag) ⊎ (y ≡ old) → tag ≤ v → old ≢ slot_tag Backup v → y ≢ slot_tag Backup v
neither y old tag v is before other e = elim is [
  | inl new ↦ absurd (omega (arith, new, before, e))
  | inr found ↦ other (sym found ∙ e)
]

found_stands : (left : ℕ → ℕ) (v page : ℕ) (saved : Option (ℕ → ℕ)) (held kept : ℕ → ℕ) (tag : ℕ)
    → (tag ≡ slot_tag Backup v → Is saved kept) → (tag ≢ slot_tag Backup v → Is saved held)
    → ((j : ℕ) → j < FRAME_WORDS → left (frame_at (runtime_frame page) + j) ≡ held j)
    → ((j : ℕ) → j < FRAME_WORDS → left (frame_at (slot_frame page Backup) + j) ≡ kept j)
    → left (slot_tag_at page Backup) ≡ tag
    → PageStands left v page saved
found_stands left v page saved held kept tag in_slot in_runtime runtime slot is = record {
  slot = each_slot (λ s. HasSlot left page s v → Is saved (frame_of left (slot_frame page s)))
      (λ e. is_same saved kept (frame_of left (slot_frame page Backup)) slot (in_slot (sym is ∙ e)));
  runtime = λ none. is_same saved held (frame_of left (runtime_frame page)) runtime (in_runtime (λ e. none Backup (is ∙ e)));
}

left_stands : (progress : Progress) (left : ℕ → ℕ) (v page : ℕ) (saved : Option (ℕ → ℕ)) (phase : Phase) (held kept : ℕ → ℕ) (old tag : ℕ)
    → BackHolds progress saved held kept old tag v → IsLeft (back_map progress phase page held kept old tag) left
    → PageStands left v page saved
left_stands Found left v page saved phase held kept old tag h l = found_stands left v page saved held kept tag h.0 h.1 l.0 l.1.0 l.1.1
left_stands Cleared left v page saved phase held kept old tag h l =
    plain_stands left v page saved held h.as_saved l.0 (neither (left (slot_tag_at page Backup)) old tag v l.1.1 h.before h.other)
left_stands Copied left v page saved phase held kept old tag h l = kept_stands left v page saved kept h.as_saved l.1.0 (l.1.1 ∙ h.tagged)
left_stands Plain left v page saved Open held kept old tag h l =
    plain_stands left v page saved held h.as_saved l.0 (neither (left (slot_tag_at page Backup)) old tag v l.1.1 h.before h.other)
left_stands Plain left v page saved Fenced held kept old tag h l =
    plain_stands left v page saved held h.as_saved l.0 (neither (left (slot_tag_at page Backup)) old tag v (inl l.1.1) h.before h.other)
left_stands Back left v page saved phase held kept old tag h l = kept_stands left v page saved kept h.as_saved l.1.0 (l.1.1 ∙ h.tagged)

pub back_stands : {progress : Progress} {f : ℕ → Word} {left : ℕ → ℕ} {v page : ℕ} {saved : Option (ℕ → ℕ)} {phase : Phase}
    → ((word : ℕ) → IsOfPage page word → Left (f word) (left word))
    → PageBack progress f v page saved phase → PageStands left v page saved
back_stands {progress} {f} {left} {v} {page} {saved} {phase} may h =
    left_stands progress left v page saved phase h.held h.kept h.old h.tag h.holds
    (known_left_in LEADER (back_map progress phase page h.held h.kept h.old h.tag) f left
    (back_places progress phase page h.held h.kept h.old h.tag) may h.known)

-- The beginning

pub back_begins : {f : ℕ → Word} {v page : ℕ} {saved : Option (ℕ → ℕ)} {phase : Phase}
    → ((word : ℕ) → WordIs LEADER Clean (f word) (durable_words f word))
    → PageStands (durable_words f) v page saved → PageBack Found f v page saved phase
back_begins {f} {v} {page} clean h = record {
  held = frame_of (durable_words f) (runtime_frame page);
  kept = frame_of (durable_words f) (slot_frame page Backup);
  old = 0;
  tag = durable_words f (slot_tag_at page Backup);
  holds = (h.slot Backup, λ other. h.runtime (each_slot (λ s. HasSlot (durable_words f) page s v → ⊥) other));
  known = (
    λ j lt. clean (frame_at (runtime_frame page) + j),
    (λ j lt. clean (frame_at (slot_frame page Backup) + j), clean (slot_tag_at page Backup)),
  );
}

-- The end

has_filled : (saved : Option (ℕ → ℕ)) (held words : ℕ → ℕ) → Is saved held → ((j : ℕ) → j < FRAME_WORDS → words j ≡ held j)
    → Has (Some (content_or saved words)) held
has_filled None held words h e = λ j lt. sym (e j lt)
has_filled (Some content) held words h e = λ j lt. h j lt

pub back_ends : (stage : PageStage) (f : ℕ → Word) (v page : ℕ) (saved : ℕ → Option (ℕ → ℕ)) → IsPassed stage
    → PageBack (passed stage) f v page (saved page) Fenced → PageShows stage f v page (saved page) (filled saved f page) Open
back_ends Fresh f v page saved ok h = absurd ok
back_ends Protected f v page saved ok h =
    let words : ℕ → ℕ = λ j. (f (frame_at (runtime_frame page) + j)).cached in
    record {
      held = h.held;
      kept = h.kept;
      old = h.tag;
      holds = record {
        as_saved = h.holds.as_saved;
        as_now = has_filled (saved page) h.held words h.holds.as_saved (λ j lt. (h.known.0 j lt).0);
        older = h.holds.before;
      };
      known = (h.known.0, (λ j lt. tt, h.known.1.1));
    }
back_ends (Preparing core next) f v page saved ok h = absurd ok
back_ends (Writable Zeros w) f v page saved ok h = absurd ok
back_ends (Writable Copy writes.Nothing) f v page saved ok h =
    let words : ℕ → ℕ = λ j. (f (frame_at (runtime_frame page) + j)).cached in
    let in_held : Is (saved page) h.held = subst (λ (w : ℕ → ℕ). Is (saved page) w) (sym h.holds.same) h.holds.as_saved in
    record {
      held = h.held;
      kept = h.kept;
      old = h.tag;
      holds = (
        h.holds.as_saved,
        (has_filled (saved page) h.held words in_held (λ j lt. (h.known.0 j lt).0), h.holds.same),
      );
      known = (
        h.known.0,
        (
          h.known.1.0,
          subst (λ (x : ℕ). WordIs LEADER Clean (f (slot_tag_at page Backup)) x) h.holds.tagged h.known.1.1,
        ),
      );
    }
back_ends (Writable Copy writes.Stored) f v page saved ok h = absurd ok
back_ends (Writable Copy writes.Flushed) f v page saved ok h = absurd ok
