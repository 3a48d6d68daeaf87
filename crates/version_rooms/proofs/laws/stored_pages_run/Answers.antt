use Rattle.std.proofs.Common.{◌≡◌, ap, ◌∙◌, ⊎_elim}
use Rattle.pmem_model.specs.Events.{calm_same}
use Rattle.pmem_layout.specs.Owners.{owner}
use Rattle.page_store.specs.Known.{Open}
use Rattle.page_store.specs.Stores.{after_stores, IsInPage}
use Rattle.pmem_layout.specs.Places.{runtime_frame}
use Rattle.version_rooms.proofs.laws.stored_pages_run.Goals as goal

pub returns : goal.returns
returns c = λ r f g v contents test rest noted only h.
    c.rooms_are_apart.ensures.pages r r.pages f g v contents (after_stores test g contents.pages) Open Open rest
    (record {
      at = λ i other. ⊎_elim (λ (same : g i ≡ f i). calm_same (f i) (g i) same)
          (λ (is : IsInPage test i). absurd (other (ap owner is.place ∙ c.owners.ensures.frame (runtime_frame is.page) is.word)))
          (only i);
    })
    h
    (c.stored_pages_run.ensures r.pages f g v contents.saved.pages contents.pages test noted only h.keep.pages)
