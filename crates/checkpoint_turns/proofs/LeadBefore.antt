-- A checkpoint before its commit stays a world's, where the next version is being written still.
use Rattle.std.specs.Prelude.{◌≡◌, ℕ, List, Option}
use Rattle.std.proofs.Common.{sym, subst, ◌∙◌}
use Rattle.pmem_model.specs.Memory.{Memory, SameHomes, word_at}
use Rattle.plain_state.specs.Worlds.{World}
use Rattle.plain_model.specs.Sweep.{swept}
use Rattle.alloc_journal.specs.Sets.{has}
use Rattle.page_store.specs.Shows.{PagesShow}
use Rattle.version_rooms.specs.declared.rooms.Rooms.{Rooms}
use Rattle.saved_state.specs.Running.{AreNumbersOf}
use Rattle.leader_helper.specs.declared.leader.Leader.{Leader}
use Rattle.leader_helper.specs.Leads.{IsWriting}
use Rattle.leader_helper.specs.Stages.{page_phase}
use Rattle.core_turns.specs.Runs.{objects_of}
use Rattle.core_turns.proofs.Content.{reads_now}
use Rattle.checkpoint_turns.specs.declared.checkpoint.Checkpoint.{Checkpoint}
use Rattle.checkpoint_turns.specs.Checkpoints.{AreInHand, IsBefore, contents_of}
use Rattle.checkpoint_turns.proofs.LeadContent.{StandFor, ReadBytes, can_then, rest_then, state_same}

-- a checkpoint with another leader and other rooms, of whose cores these pages are in hand
abbrev pub led_on : Checkpoint → Leader → Rooms → List (Option ℕ) → Checkpoint
led_on k l r hands = record k { leader = l; running = record k.running { rooms = r; prepares = hands } }

module _ (k : Checkpoint) (accepted : List ℕ) (m : Memory) (w : World) (h : IsBefore k accepted m w)
    (l : Leader) (r : Rooms) (hands : List (Option ℕ)) (next : Memory)
    (writing : IsWriting l r (word_at next) w.version (contents_of h.saved (objects_of k.running) h.pages))
    (of_records : StandFor) (zeros : ReadBytes) where
  pages_show : PagesShow r.pages (word_at next) w.version h.saved.pages h.pages (page_phase l.stage)
  pages_show = writing.shows.keep.pages

  pub before_still : r.numbers.running ≡ k.running.rooms.numbers.running → SameHomes m next
      → AreInHand (led_on k l r hands) w → IsBefore (led_on k l r hands) accepted next w
  before_still running homes in_hand = record {
    sound = h.sound;
    cores = h.cores;
    rest = rest_then (objects_of k.running) h.rest h.pages w h.can r.pages next w.version h.saved.pages
        (page_phase l.stage) pages_show;
    now = state_same (objects_of k.running) h.rest h.pages w h.can r.pages next w.version h.saved.pages
        (page_phase l.stage) pages_show of_records zeros ∙ h.now;
    content = reads_now next;
    saved = h.saved;
    pages = h.pages;
    are = h.are;
    writing = writing;
    can = can_then (objects_of k.running) h.rest h.pages w h.can r.pages next w.version h.saved.pages
        (page_phase l.stage) pages_show of_records zeros;
    numbers = subst (λ (set : List ℕ). AreNumbersOf (has set) (swept w.now)) (sym running) h.numbers;
    devices = record {
      inputs = h.devices.inputs;
      rings = h.devices.rings;
      accepted_are = h.devices.accepted_are;
      saved = h.devices.saved;
    };
    in_hand = in_hand;
    spared = h.spared;
    home = λ bank below. homes bank ∙ h.home bank below;
  }
