-- Which words the pages and the fixed words are read from.
use Rattle.std.specs.Prelude.{◌≡◌, ◌+◌, ◌<◌, ℕ, Option, Some, None}
use Rattle.std.proofs.Common.{◌∙◌, sym}
use Rattle.sls_base.specs.declared.limits.TheConstants.{PAGES}
use Rattle.pmem_layout.specs.declared.places.TheConstants.{FORMAT_AT}
use Rattle.pmem_layout.specs.Places.{backup_tag_at, frame_at, runtime_frame}
use Rattle.pmem_layout.specs.Owners.{Format, Pages, owner}
use Rattle.pmem_layout.specs.Rooms.{SameIn}
use Rattle.page_store.specs.Slots.{Slot, Backup, HasSlot, slot_frame}
use Rattle.page_store.specs.Format.{Is, frame_of, PageStands, PagesStand}
use Rattle.durable_state.specs.Parts.{FixedStand, SameButVersion}

pub fixed_same : {a b : ℕ → ℕ} {cores : ℕ} → owner FORMAT_AT ≡ Format → SameButVersion a b → FixedStand a cores → FixedStand b cores
fixed_same own same h = record {
  format = same.format.at FORMAT_AT own ∙ h.format;
  some = h.some;
  most = h.most;
  each = λ word fixed. same.fixed.at word fixed ∙ h.each word fixed;
}

module _ (tag : (page : ℕ) → page < PAGES → owner (backup_tag_at page) ≡ Pages) (frame : (frame j : ℕ) → owner (frame_at frame + j) ≡ Pages) where
  is_same : {a b : ℕ → ℕ} (f : ℕ) (content : Option (ℕ → ℕ)) → SameIn Pages a b → Is content (frame_of a f) → Is content (frame_of b f)
  is_same f None same h = tt
  is_same f (Some content) same h = λ j lt. same.at (frame_at f + j) (frame f j) ∙ h j lt

  has_same : {a b : ℕ → ℕ} {page : ℕ} (v : ℕ) (slot : Slot) → page < PAGES → SameIn Pages a b → HasSlot b page slot v → HasSlot a page slot v
  has_same {a} {b} {page} v Backup lt same h = sym (same.at (backup_tag_at page) (tag page lt)) ∙ h

  has_back : {a b : ℕ → ℕ} {page : ℕ} (v : ℕ) (slot : Slot) → page < PAGES → SameIn Pages a b → HasSlot a page slot v → HasSlot b page slot v
  has_back {a} {b} {page} v Backup lt same h = same.at (backup_tag_at page) (tag page lt) ∙ h

  slot_same : {a b : ℕ → ℕ} {v page : ℕ} (content : Option (ℕ → ℕ)) (slot : Slot) → page < PAGES → SameIn Pages a b → PageStands a v page content → HasSlot b page slot v → Is content (frame_of b (slot_frame page slot))
  slot_same {a} {b} {v} {page} content Backup lt same h has = is_same _ content same (h.slot Backup (has_same v Backup lt same has))

  stands_same : {a b : ℕ → ℕ} {v page : ℕ} (content : Option (ℕ → ℕ)) → page < PAGES → SameIn Pages a b → PageStands a v page content → PageStands b v page content
  stands_same {a} {b} {v} {page} content lt same h = record {
    slot = λ slot has. slot_same content slot lt same h has;
    runtime = λ none. is_same (runtime_frame page) content same (h.runtime (λ slot has. none slot (has_back v slot lt same has)));
  }

  pub pages_same : {a b : ℕ → ℕ} {v : ℕ} {pages : ℕ → Option (ℕ → ℕ)} → SameIn Pages a b → PagesStand a v pages → PagesStand b v pages
  pages_same {a} {b} {v} {pages} same h = record { each = λ page lt. stands_same (pages page) lt same (h.each page lt) }
