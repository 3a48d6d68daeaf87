-- The saved copy is swept, and what it has is there still: each label keeps that.
use Rattle.std.specs.Prelude.{◌≡◌, ◌≢◌, ℕ, ◌-◌, ◌==◌, List, [], ◌∷◌, Option, Some, None}
use Rattle.sls_base.specs.declared.image.Image.{Image}
use Rattle.plain_state.specs.declared.effect.ByteStore.{ByteStore}
use Rattle.plain_state.specs.declared.label.Label.{Label}
use Rattle.plain_model.specs.Objects.{Object, Thread}
use Rattle.plain_model.specs.States.{thread_at, with_object}
use Rattle.plain_model.specs.Memory.{with_store, with_stores}
use Rattle.plain_model.specs.Worlds.{World, has_page}
use Rattle.plain_model.specs.Effects.{Effect, Change}
use Rattle.plain_model.specs.Ticks.{Chosen, chosen, effect_for, world_of_effect, state_of_effect, with_changes, thread_after, at_slice_end}
use Rattle.plain_model.specs.Initial.{IsAccepted, first_world}
use Rattle.plain_model.specs.Play.{after, play}
use Rattle.plain_laws.specs.Plays.{Both}
use Rattle.plain_laws.specs.Places.{IsPlaced}
use Rattle.plain_laws.specs.Kept.{IsSaved}
use Rattle.plain_laws.proofs.Sweeps.{swept_twice}
use Rattle.plain_laws.proofs.PlacedObjects.{of_each}
use Rattle.plain_laws.proofs.Names.{store_lasts}
use Rattle.plain_laws.proofs.PlacedLabels.{stays_placed}
use Rattle.plain_laws.proofs.PlacedImages.{first_placed}
use Rattle.plain_laws.proofs.Pages.{effect_has_page}
use Rattle.plain_laws.proofs.SavedImages.{first_saved}
use Rattle.plain_laws.proofs.Walk.{kept_after, played}

-- No effect takes an object away.

pub stores_there : (stores : List ByteStore) (objects : ℕ → Option Object) (i : ℕ) → objects i ≢ None → with_stores objects stores i ≢ None
stores_there [] objects i some = some
stores_there (store ∷ stores) objects i some = stores_there stores (with_store objects store) i ((store_lasts (objects i) store (i == store.place.memory)).there some)

pub changed_there : (objects : ℕ → Option Object) (id : ℕ) (object : Object) (i : ℕ) → objects i ≢ None → with_object objects id object i ≢ None
changed_there objects id object = of_each (λ i o. objects i ≢ None → o ≢ None) objects id object (λ some none. absurd (cc)) (λ i ne some. some)

pub changes_there : (changes : List Change) (objects : ℕ → Option Object) (i : ℕ) → objects i ≢ None → with_changes objects changes i ≢ None
changes_there [] objects i some = some
changes_there (change ∷ changes) objects i some =
    changes_there changes (with_object objects change.id change.object) i (changed_there objects change.id change.object i some)

pub effect_there : (w : World) (core : ℕ) (c : Chosen) (e : Effect) (i : ℕ) → w.now.objects i ≢ None → (world_of_effect w core c e).now.objects i ≢ None
unfolding state_of_effect
effect_there w core c e i some =
    changed_there (with_changes (with_stores w.now.objects e.stores) e.changes) c.occupant.thread
    (Thread (thread_after core (thread_at w.now c.occupant.thread) (at_slice_end (c.occupant.slice - 1) e.goes) e)) i
    (changes_there e.changes (with_stores w.now.objects e.stores) i (stores_there e.stores w.now.objects i some))

-- Labels.

pub effect_saved : (w : World) (core : ℕ) (c : Chosen) → IsPlaced w.now → chosen w.now core ≡ Some c → IsSaved w → IsSaved (world_of_effect w core c (effect_for w c))
effect_saved w core c placed chose h = record {
  swept = h.swept;
  objects = λ i some. effect_there w core c (effect_for w c) i (h.objects i some);
  pages = λ page has. effect_has_page w core c placed chose page (h.pages page has);
}

pub saved_after : (w : World) (label : Label) → IsPlaced w.now → IsSaved w → IsSaved (after w label)
unfolding has_page
saved_after w label placed h = kept_after IsSaved (λ label. Unit {0}) w (record {
  ticks = λ core c passes chose. effect_saved w core c placed chose h;
  commits = λ passes. record { swept = swept_twice w.now; objects = λ i some. some; pages = λ page has. has };
  cuts = λ passes. record { swept = h.swept; objects = λ i some. some; pages = λ page has. has };
  accepts = λ channel passes offered. record { swept = h.swept; objects = h.objects; pages = h.pages };
  inputs = λ bytes passes room. record { swept = h.swept; objects = h.objects; pages = h.pages };
}) h label tt

-- Plays.

pub always_saved : (image : Image) (cores : ℕ) → IsAccepted image → (labels : List Label) → IsSaved (play (first_world image cores) labels)
always_saved image cores accepted labels =
    let first = first_placed image cores in
    (played (λ (w : World). Both IsPlaced w × IsSaved w) (λ w label h. (stays_placed w label h.0, saved_after w label h.0.0 h.1))
    (first_world image cores) labels ((first, first), first_saved image cores accepted)).1
