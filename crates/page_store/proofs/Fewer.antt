-- A page of which nothing needs to be saved any more.
use Rattle.std.specs.Prelude.{◌≡◌, ◌⊎◌, ℕ, Option, None}
use Rattle.std.proofs.Common.{refl, inl, inr, subst, sym}
use Rattle.pmem_model.specs.Words.{Word}
use Rattle.page_store.specs.declared.stage.PageStage.{PageStage}
use Rattle.page_store.specs.declared.stage.PageStage.TheVariants.{Fresh, Protected, Preparing, Writable}
use Rattle.page_store.specs.declared.stage.Origin.TheVariants.{Zeros, Copy}
use Rattle.page_store.specs.Known.{Phase}
use Rattle.page_store.specs.Shows.{Holds, PageShows}

holds_less : (stage : PageStage) (saved now : Option (ℕ → ℕ)) (held kept : ℕ → ℕ) (old v : ℕ) → Holds stage saved now held kept old v → Holds stage None now held kept old v
holds_less Fresh saved now held kept old v h = (record { none = refl; older = h.0.older }, h.1)
holds_less Protected saved now held kept old v h = record { as_saved = tt; as_now = h.as_now; older = h.older }
holds_less (Preparing core next) saved now held kept old v h = (record { as_saved = tt; as_now = h.0.as_now; older = h.0.older }, h.1)
holds_less (Writable Zeros writes) saved now held kept old v h = (record { none = refl; older = h.0.older }, h.1)
holds_less (Writable Copy writes) saved now held kept old v h = (tt, h.1)

shows_less : (stage : PageStage) (f : ℕ → Word) (v page : ℕ) (saved now : Option (ℕ → ℕ)) (phase : Phase) → PageShows stage f v page saved now phase → PageShows stage f v page None now phase
shows_less stage f v page saved now phase h = record {
  held = h.held;
  kept = h.kept;
  old = h.old;
  holds = holds_less stage saved now h.held h.kept h.old v h.holds;
  known = h.known;
}

pub shows_fewer : (stage : PageStage) (f : ℕ → Word) (v page : ℕ) (saved now fewer : Option (ℕ → ℕ)) (phase : Phase) → (fewer ≡ saved) ⊎ (fewer ≡ None) → PageShows stage f v page saved now phase →
    PageShows stage f v page fewer now phase
shows_fewer stage f v page saved now fewer phase (inl same) h = subst (λ (x : Option (ℕ → ℕ)). PageShows stage f v page x now phase) (sym same) h
shows_fewer stage f v page saved now fewer phase (inr none) h = subst (λ (x : Option (ℕ → ℕ)). PageShows stage f v page x now phase) (sym none) (shows_less stage f v page saved now phase h)
