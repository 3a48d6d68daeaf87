-- Plays in which each input is bytes: pages have bytes, and entries and inputs are in form. Each needs the other.
use Rattle.std.specs.Prelude.{ℕ, List, [], ◌∷◌, All}
use Rattle.std.proofs.lemmas.List.Elements.{All-head, All-tail}
use Rattle.sls_base.specs.declared.image.Image.{Image}
use Rattle.plain_state.specs.declared.label.Label.{Label}
use Rattle.plain_model.specs.Worlds.{World}
use Rattle.plain_model.specs.Play.{after, play}
use Rattle.plain_model.specs.Initial.{IsAccepted, first_world}
use Rattle.plain_model.specs.MayStep.{MayStep, MayPlay}
use Rattle.plain_laws.specs.Plays.{Both}
use Rattle.plain_laws.specs.Sound.{HaveForms}
use Rattle.plain_laws.specs.Bounds.{IsOfBytes, HasBytes, HasEntries, HasPages}
use Rattle.plain_laws.proofs.Entries.{first_entries, stays_with_entries}
use Rattle.plain_laws.proofs.Forms.{stays_formed}
use Rattle.plain_laws.proofs.FormsImages.{first_formed}
use Rattle.plain_laws.proofs.PageLabels.{first_pages, stays_with_pages}

-- what each label keeps that may befall the world and is bytes, a play of such labels keeps
pub byte_played : (P : World → Type 0) → ((w : World) (label : Label) → MayStep w label → HasBytes label → P w → P (after w label)) → (w : World) (labels : List Label)
    → MayPlay w labels → All HasBytes labels → P w → P (play w labels)
byte_played P keeps w [] may bytes h = h
byte_played P keeps w (label ∷ labels) may bytes h =
    byte_played P keeps (after w label) labels may.1 (All-tail HasBytes label labels bytes) (keeps w label may.0 (All-head HasBytes label labels bytes) h)

-- objects have their forms, pages have bytes, and entries and inputs are in form
pub record IsOfBytesNow (w : World) : Type 0 where
  pub forms : Both HaveForms w
  pub pages : Both HasPages w
  pub entries : Both HasEntries w

pub first_of_bytes : (image : Image) (cores : ℕ) → IsAccepted image → IsOfBytes image → IsOfBytesNow (first_world image cores)
first_of_bytes image cores accepted bytes =
    let forms = first_formed image cores accepted in
    let pages = first_pages image cores bytes in
    let entries = first_entries image cores in
    record { forms = (forms, forms); pages = (pages, pages); entries = (entries, entries) }

pub stays_of_bytes : (w : World) (label : Label) → MayStep w label → HasBytes label → IsOfBytesNow w → IsOfBytesNow (after w label)
stays_of_bytes w label may bytes h = record {
  forms = stays_formed w label h.forms;
  pages = stays_with_pages w label h.entries.0 h.pages;
  entries = stays_with_entries w label may bytes h.forms.0 h.pages.0 h.entries;
}

pub always_of_bytes : (image : Image) (cores : ℕ) (labels : List Label) → IsAccepted image → IsOfBytes image → MayPlay (first_world image cores) labels → All HasBytes labels
    → IsOfBytesNow (play (first_world image cores) labels)
always_of_bytes image cores labels accepted bytes may inputs = byte_played IsOfBytesNow stays_of_bytes (first_world image cores) labels may inputs (first_of_bytes image cores accepted bytes)
