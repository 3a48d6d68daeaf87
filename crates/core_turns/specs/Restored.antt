-- When what was restored is a world.
use Rattle.std.specs.Prelude.{◌≡◌, ℕ, ◌<◌, List, slice_index}
use Rattle.sls_base.specs.declared.limits.TheConstants.{OUTPUT_CHANNELS, PAGES}
use Rattle.pmem_model.specs.Memory.{Memory, word_at, AllHome}
use Rattle.plain_state.specs.Worlds.{World, accepted_count}
use Rattle.plain_model.specs.Play.{cut}
use Rattle.plain_laws.specs.Whole.{IsSound}
use Rattle.page_store.specs.Stages.{stage_of, IsAsRecovered}
use Rattle.durable_state.specs.Parts.{Parts}
use Rattle.version_rooms.specs.Rest.{AreAtRest}
use Rattle.saved_state.specs.State.{ArePartsOf}
use Rattle.saved_state.specs.Running.{ArePutBack}
use Rattle.tree_restore.specs.declared.recovery.Restored.{Restored}

-- Rooms and objects are a world's to which nothing has happened since its last commit or cut: the rooms are at rest with
-- the parts of its saved copy, to no page was anything stored, and the objects are put back from the parts.
pub record IsRestored (r : Restored) (accepted : List ℕ) (m : Memory) (w : World) : Type 0 where
  pub saved : Parts
  pub at_rest : AreAtRest r.rooms (word_at m) w.version saved saved.pages
  pub are : ArePartsOf w.base (accepted_count w) saved w.saved
  pub objects : ArePutBack r.objects saved
  pub stages : (page : ℕ) → page < PAGES → IsAsRecovered (stage_of r.rooms.pages page)
  pub off : cut w ≡ w
  pub sound : IsSound w
  pub counted : (channel : ℕ) → channel < OUTPUT_CHANNELS → slice_index accepted channel ≡ accepted_count w channel
  pub home : AllHome m
