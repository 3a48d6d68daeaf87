-- All laws of the worlds that a machine comes to, put together.
use Rattle.std.specs.Prelude.{ℕ, List, All}
use Rattle.sls_base.specs.declared.image.Image.{Image}
use Rattle.plain_state.specs.declared.label.Label.{Label}
use Rattle.plain_model.specs.Worlds.{World}
use Rattle.plain_model.specs.Play.{after, play}
use Rattle.plain_model.specs.Initial.{IsAccepted, first_world}
use Rattle.plain_model.specs.MayStep.{MayStep, MayPlay}
use Rattle.plain_laws.specs.Bounds.{IsOfBytes, HasBytes}
use Rattle.plain_laws.specs.Whole.{IsSound}
use Rattle.plain_laws.proofs.PlacedImages.{first_placed}
use Rattle.plain_laws.proofs.PlacedLabels.{stays_placed}
use Rattle.plain_laws.proofs.PresentImages.{first_present}
use Rattle.plain_laws.proofs.PresentLabels.{stays_present}
use Rattle.plain_laws.proofs.InRangeLabels.{first_below, stays_below}
use Rattle.plain_laws.proofs.FormsImages.{first_formed}
use Rattle.plain_laws.proofs.Forms.{stays_formed}
use Rattle.plain_laws.proofs.NamesImages.{first_names}
use Rattle.plain_laws.proofs.NamesLabels.{stays_named}
use Rattle.plain_laws.proofs.ApartImages.{first_apart}
use Rattle.plain_laws.proofs.ApartLabels.{stays_apart}
use Rattle.plain_laws.proofs.FixedLabels.{first_fixed, stays_fixed}
use Rattle.plain_laws.proofs.Entries.{first_entries, stays_with_entries}
use Rattle.plain_laws.proofs.PageLabels.{first_pages, stays_with_pages}
use Rattle.plain_laws.proofs.ThreadInstructions.{KnowsTable}
use Rattle.plain_laws.proofs.ThreadLabels.{first_threads, stays_with_threads}
use Rattle.plain_laws.proofs.Parts.{first_in_order, stays_in_order}
use Rattle.plain_laws.proofs.Rooms.{first_in_room, stays_in_room}
use Rattle.plain_laws.proofs.SavedImages.{first_saved}
use Rattle.plain_laws.proofs.Saved.{saved_after}
use Rattle.plain_laws.proofs.Tracked.{first_tracked, tracked_after}
use Rattle.plain_laws.proofs.BytePlays.{byte_played}

pub first_sound : (image : Image) (cores : ℕ) → IsAccepted image → IsOfBytes image → IsSound (first_world image cores)
first_sound image cores accepted bytes = record {
  placed = (first_placed image cores, first_placed image cores);
  present = (first_present image cores, first_present image cores);
  in_range = (first_below image cores accepted, first_below image cores accepted);
  forms = (first_formed image cores accepted, first_formed image cores accepted);
  names = (first_names image cores, first_names image cores);
  apart = (first_apart image cores accepted, first_apart image cores accepted);
  fixed = (first_fixed image cores, first_fixed image cores);
  entries = (first_entries image cores, first_entries image cores);
  pages = (first_pages image cores bytes, first_pages image cores bytes);
  threads = (first_threads image cores accepted, first_threads image cores accepted);
  order = first_in_order image cores;
  room = first_in_room image cores;
  saved = first_saved image cores accepted;
  tracked = first_tracked image cores;
}

pub stays_sound : KnowsTable → (w : World) (label : Label) → MayStep w label → HasBytes label → IsSound w → IsSound (after w label)
stays_sound table w label may bytes h =
    let placed = h.placed.0 in
    let range = h.in_range.0 in
    let forms = h.forms.0 in
    record {
      placed = stays_placed w label h.placed;
      present = stays_present w label may h.placed h.present;
      in_range = stays_below w label placed h.in_range;
      forms = stays_formed w label h.forms;
      names = stays_named w label placed range h.names;
      apart = stays_apart w label range h.apart.0 h.apart.1;
      fixed = stays_fixed w label placed h.fixed;
      entries = stays_with_entries w label may bytes forms h.pages.0 h.entries;
      pages = stays_with_pages w label h.entries.0 h.pages;
      threads = stays_with_threads table w label may forms h.pages.0 h.entries.0 h.threads;
      order = stays_in_order w label h.order;
      room = stays_in_room w label may h.order h.room;
      saved = saved_after w label placed h.saved;
      tracked = tracked_after w label (record { placed = placed; range = range; forms = forms; names = h.names.0 }) h.tracked;
    }

pub always_sound : KnowsTable → (image : Image) (cores : ℕ) (labels : List Label) → IsAccepted image → IsOfBytes image → MayPlay (first_world image cores) labels → All HasBytes labels
    → IsSound (play (first_world image cores) labels)
always_sound table image cores labels accepted bytes may inputs =
    byte_played IsSound (stays_sound table) (first_world image cores) labels may inputs (first_sound image cores accepted bytes)
