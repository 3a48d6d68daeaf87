-- Running cores outlive whatever stores nothing.
use Rattle.std.specs.Prelude.{ℕ, ◌+◌, ◌/◌, ◌%◌, List, Option}
use Rattle.std.proofs.Common.{ap, sym, ◌∙◌}
use Rattle.pmem_model.specs.Words.{Word}
use Rattle.pmem_model.specs.Events.{IsCalm}
use Rattle.pmem_model.specs.Memory.{Memory, word_at, SameHomes}
use Rattle.pmem_layout.specs.Places.{frame_at, runtime_frame}
use Rattle.plain_state.specs.Worlds.{World}
use Rattle.kobj_table.specs.Objects.{Rest}
use Rattle.page_store.specs.Known.{Phase, Open}
use Rattle.durable_state.specs.Parts.{Parts}
use Rattle.version_rooms.specs.declared.rooms.Rooms.{Rooms}
use Rattle.version_rooms.specs.Rooms.{Contents, IsAtRest, RoomsShow}
use Rattle.version_rooms.specs.Rest.{AreAtRest}
use Rattle.call_readings.specs.declared.content.TheConstants.{WORD_BYTES}
use Rattle.call_readings.specs.Content.{byte_of, Reads}
use Rattle.kernel_calls.specs.declared.calls.Calls.{Calls}
use Rattle.kernel_calls.specs.Kernel.{Holds}
use Rattle.core_turns.specs.declared.running.Running.{Running}
use Rattle.core_turns.specs.Runs.{Runs}

module _ (old new : Memory) (calm : IsCalm (word_at old) (word_at new)) (homes : SameHomes old new) where
  still_reads : (content : ℕ → ℕ → ℕ) → Reads content old → Reads content new
  still_reads content h = record {
    home = λ page offset below inside at_home. (
        let word = frame_at (runtime_frame page) + offset / WORD_BYTES in
        h.home page offset below inside (sym (homes (1 + runtime_frame page)) ∙ at_home)
        ∙ ap (λ (x : ℕ). byte_of x (offset % WORD_BYTES)) (sym (calm.at word).cached)
        );
    end = h.end;
    none = h.none;
  }

  still_holds : (k : Calls) (accepted : List ℕ) (rest : Rest) (w : World) → Holds k accepted old rest w
      → Holds k accepted new rest w
  still_holds k accepted rest w h = record {
    now = h.now;
    sound = h.sound;
    counted = h.counted;
    attached = h.attached;
    inputs = h.inputs;
    content = still_reads rest.content h.content;
    entries = h.entries;
    scheduler = h.scheduler;
    strays = h.strays;
  }

  module _ (law : (r : Rooms) (f g : ℕ → Word) (v : ℕ) (c : Contents) (phase : Phase) → IsAtRest r → IsCalm f g
      → RoomsShow r f v c phase → RoomsShow r g v c phase) where
    still_at_rest : (r : Rooms) (v : ℕ) (saved : Parts) (pages : ℕ → Option (ℕ → ℕ))
        → AreAtRest r (word_at old) v saved pages → AreAtRest r (word_at new) v saved pages
    still_at_rest r v saved pages h = record {
      shows = λ objects.
          law r (word_at old) (word_at new) v (record { saved = saved; objects = objects; pages = pages }) Open
          h.committer calm (h.shows objects);
      committer = h.committer;
      records = h.records;
      idle = h.idle;
      log = h.log;
    }

    pub still_runs : (k : Running) (accepted : List ℕ) (w : World) → Runs k accepted old w → Runs k accepted new w
    still_runs k accepted w h = record {
      rest = h.rest;
      holds = still_holds k.calls accepted h.rest w h.holds;
      saved = h.saved;
      pages = h.pages;
      at_rest = still_at_rest k.rooms w.version h.saved h.pages h.at_rest;
      are = h.are;
      slots = h.slots;
      fresh = h.fresh;
      stored = h.stored;
      unchanged = h.unchanged;
      waiting = h.waiting;
      counts = h.counts;
      prepares = h.prepares;
      in_range = h.in_range;
      home = λ bank below. homes bank ∙ h.home bank below;
    }
