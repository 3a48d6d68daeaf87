-- What recovery comes to is the saved copy of the world.
use Rattle.std.specs.Prelude.{◌≡◌, ℕ, ◌<◌, List}
use Rattle.std.proofs.Common.{subst}
use Rattle.sls_base.specs.declared.limits.TheConstants.{PAGES}
use Rattle.pmem_model.specs.Memory.{Memory, word_at}
use Rattle.plain_state.specs.States.{State}
use Rattle.plain_state.specs.Worlds.{World}
use Rattle.object_records.specs.Ranges.{IsSoundState}
use Rattle.object_records.specs.Records.{HasOwnLists, record_at}
use Rattle.page_store.specs.Stages.{stage_of, IsAsRecovered}
use Rattle.durable_state.specs.Parts.{Parts}
use Rattle.version_rooms.specs.Rest.{AreAtRest}
use Rattle.saved_state.specs.State.{ArePartsOf, rest_of}
use Rattle.tree_restore.specs.declared.recovery.Recovery.{Recovery}
use Rattle.tree_restore.specs.declared.recovery.Restored.{Restored}
use Rattle.tree_restore.specs.Restores.{RestoreShows}
use Rattle.tree_restore.specs.Whole.{AreWhole}
use Rattle.core_turns.specs.Restored.{IsRestored}
use Rattle.kernel_machine.specs.Worlds.{IsRecovering}

-- Parts of a state are whole.
pub whole : (base accepted : ℕ → ℕ) (p : Parts) (s : State) → ArePartsOf base accepted p s → AreWhole p
whole base accepted p s are = record {
  rest = rest_of p.pages s;
  sound = subst IsSoundState are.state are.sound;
  none = are.none;
  used = are.used_objects;
  pages = are.pages.each;
}

module _ (r : Recovery) (m : Memory) (restored : Restored)
    (rest : (v : ℕ) (saved : Parts) → AreWhole saved → RestoreShows r (word_at m) v saved
    → AreAtRest restored.rooms (word_at m) v saved saved.pages)
    (records : (v : ℕ) (saved : Parts) → AreWhole saved → RestoreShows r (word_at m) v saved
    → (i : ℕ) → record_at restored.objects i ≡ saved.objects i)
    (own : HasOwnLists restored.objects)
    (stages : (v : ℕ) (saved : Parts) → RestoreShows r (word_at m) v saved
    → (page : ℕ) → page < PAGES → IsAsRecovered (stage_of restored.rooms.pages page))
    (accepted : List ℕ) (w : World) (h : IsRecovering r accepted m w) where
  is_whole : AreWhole h.saved
  is_whole = whole w.base (λ channel. Rattle.plain_state.specs.Worlds.accepted_count w channel) h.saved w.saved h.are

  pub is_restored : IsRestored restored accepted m w
  is_restored = record {
    saved = h.saved;
    at_rest = rest w.version h.saved is_whole h.shows;
    are = h.are;
    objects = record { records = records w.version h.saved is_whole h.shows; own = own };
    stages = stages w.version h.saved h.shows;
    off = h.off;
    sound = h.sound;
    counted = h.counted;
    home = h.home;
  }
