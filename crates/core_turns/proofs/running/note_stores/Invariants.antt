-- It was noted of each page as far as the loop has come, and of no other.
use Rattle.std.proofs.Common.{◌≡◌, ℕ, take}
use Rattle.std.specs.Prelude.{Option}
use Rattle.pmem_model.specs.Words.{Word}
use Rattle.page_store.specs.Stages.{stage_of}
use Rattle.durable_state.specs.Parts.{Parts}
use Rattle.version_rooms.specs.Rest.{AreAtRest}
use Rattle.call_readings.specs.Need.{has_page}
use Rattle.core_turns.proofs.Noted.{noted}
use Rattle.core_turns.proofs.running.note_stores.Given as goal

abbrev pub invariant-loop-page : goal.invariant-loop-page
invariant-loop-page l = record {
  stages : (page : ℕ) → stage_of l.rooms.pages page
      ≡ noted (has_page (take l.page-index l.pages) page) (stage_of l.initial.rooms.pages page);
  same : l.rooms ≡ record l.initial.rooms { pages = l.rooms.pages };
  at_rest : (f : ℕ → Word) (v : ℕ) (saved : Parts) (now : ℕ → Option (ℕ → ℕ)) → AreAtRest l.initial.rooms f v saved now
      → (after : ℕ → Option (ℕ → ℕ)) × AreAtRest l.rooms f v saved after;
}
