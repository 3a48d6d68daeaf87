-- Which running objects can be saved once they are swept.
use Rattle.std.specs.Prelude.{◌≡◌, ℕ, ◌<◌, true, length, Option, None, is_some, if◌then◌else◌}
use Rattle.sls_base.specs.declared.limits.TheConstants.{OUTPUT_CHANNELS, PAGES}
use Rattle.plain_model.specs.Objects.{page_of_channel}
use Rattle.plain_model.specs.Worlds.{World}
use Rattle.plain_laws.specs.Whole.{IsSound}
use Rattle.kobj_table.specs.declared.objects.Objects.{Objects}
use Rattle.kobj_table.specs.Objects.{Rest, slot_at, state_of, HasNoStrays}
use Rattle.object_records.specs.Records.{record_at}
use Rattle.object_records.specs.Ranges.{HasFixedSlots}
use Rattle.object_records.specs.Pages.{is_content}
use Rattle.call_readings.specs.Kernel.{CountsEntries}
use Rattle.out_gate.specs.Entries.{EntriesStand}
use Rattle.saved_state.specs.State.{content_of}

-- Objects run as a sound world. Each page on which they have content has words, and its number stands for these. The
-- rings count the entries that were put, and those that the device hasn't accepted stand on pages that have content.
pub record IsRunning (o : Objects) (rest : Rest) (pages : ℕ → Option (ℕ → ℕ)) (w : World) : Type 0 where
  pub sound : IsSound w
  pub now : w.now ≡ state_of o rest
  pub slots : HasFixedSlots o
  pub strays : HasNoStrays o
  pub words : (page : ℕ) → page < PAGES → is_content (record_at o) page ≡ true → is_some (pages page) ≡ true
  pub agree : (page offset : ℕ) → page < PAGES → is_content (record_at o) page ≡ true
      → content_of pages page offset ≡ rest.content page offset
  pub rings : (id : ℕ) → CountsEntries (slot_at o id) w
  pub entries : EntriesStand rest.content w rest.out
  pub waiting : (channel : ℕ) → channel < OUTPUT_CHANNELS
      → length (w.released channel) < length (rest.out channel)
      → is_content (record_at o) (page_of_channel channel) ≡ true

-- the words of the pages on which objects have content
abbrev pub words_kept : Objects → (ℕ → Option (ℕ → ℕ)) → ℕ → Option (ℕ → ℕ)
words_kept o pages page = if is_content (record_at o) page then pages page else None
