-- What a cut may leave of fixed words, of pages of which some are left out, and of numbers told another way.
use Rattle.std.specs.Prelude.{◌≡◌, ◌<◌, ℕ, Option}
use Rattle.std.proofs.Common.{◌∙◌, sym, subst, inl, inr}
use Rattle.sls_base.specs.declared.fixed.TheConstants.{LEADER}
use Rattle.sls_base.specs.declared.limits.TheConstants.{PAGES}
use Rattle.pmem_model.specs.Words.{Word}
use Rattle.pmem_model.specs.Events.{WordIs, Clean, Left}
use Rattle.pmem_layout.specs.declared.places.TheConstants.{FORMAT_AT}
use Rattle.page_store.specs.Format.{Is, PageStands, PagesStand}
use Rattle.durable_state.specs.Parts.{FixedStand}
use Rattle.version_rooms.specs.Rooms.{IsFixed, IsKept}

left_clean : (w : Word) (x y : ℕ) → WordIs LEADER Clean w x → Left w y → y ≡ x
left_clean w x y is (inl durable) = durable ∙ is.1
left_clean w x y is (inr cached) = cached ∙ is.0

pub fixed_stand : {f : ℕ → Word} {left : ℕ → ℕ} {cores : ℕ} → ((i : ℕ) → Left (f i) (left i)) → IsFixed f cores → FixedStand left cores
fixed_stand {f} {left} {cores} may h = record {
  format = left_clean (f FORMAT_AT) _ _ h.format (may FORMAT_AT);
  some = h.some;
  most = h.most;
  each = λ word fixed. left_clean (f word) _ _ (h.each word fixed) (may word);
}

is_kept : (words : ℕ → ℕ) (next now : Option (ℕ → ℕ)) → IsKept next now → Is now words → Is next words
is_kept words next now (inl same) is = subst (λ (content : Option (ℕ → ℕ)). Is content words) (sym same) is
is_kept words next now (inr none) is = subst (λ (content : Option (ℕ → ℕ)). Is content words) (sym none) tt

page_kept : {words : ℕ → ℕ} {v page : ℕ} {next now : Option (ℕ → ℕ)} → IsKept next now → PageStands words v page now → PageStands words v page next
page_kept kept h = record { slot = λ slot has. is_kept _ _ _ kept (h.slot slot has); runtime = λ none. is_kept _ _ _ kept (h.runtime none) }

pub pages_kept : {words : ℕ → ℕ} {v : ℕ} {next now : ℕ → Option (ℕ → ℕ)} → ((page : ℕ) → page < PAGES → IsKept (next page) (now page)) → PagesStand words v now → PagesStand words v next
pages_kept kept h = record { each = λ page lt. page_kept (kept page lt) (h.each page lt) }
