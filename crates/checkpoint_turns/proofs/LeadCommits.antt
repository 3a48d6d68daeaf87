-- The leader's fence committed what it wrote.
use Rattle.std.specs.Prelude.{◌≡◌, ◌<◌, ℕ, List, Option, None, length}
use Rattle.std.proofs.Common.{refl, ◌∙◌}
use Rattle.sls_base.specs.declared.fixed.TheConstants.{LEADER}
use Rattle.sls_base.specs.declared.limits.TheConstants.{PAGES}
use Rattle.pmem_model.specs.Memory.{AllHome, Memory, SameHomes, word_at}
use Rattle.plain_state.specs.Worlds.{World}
use Rattle.plain_model.specs.Play.{commit}
use Rattle.page_store.specs.Stages.{after, stage_of}
use Rattle.durable_state.specs.Parts.{Parts}
use Rattle.version_rooms.specs.declared.rooms.Rooms.{Rooms}
use Rattle.leader_helper.specs.declared.leader.Leader.{Leader}
use Rattle.leader_helper.specs.Leads.{IsApplying}
use Rattle.leader_helper.proofs.Applies.{is_calm}
use Rattle.core_turns.specs.Runs.{objects_of}
use Rattle.checkpoint_turns.specs.declared.checkpoint.Checkpoint.{Checkpoint}
use Rattle.checkpoint_turns.specs.Checkpoints.{Before, Behind, IsBefore, IsBehind, IsOf, NoneInHand}
use Rattle.checkpoint_turns.specs.Steps.{Commits, IsLeaders}
use Rattle.checkpoint_turns.proofs.CommitsNext.{CommitLaws, CommitsWritten, CountsRings, commits_next}
use Rattle.checkpoint_turns.proofs.LeadBefore.{led_on}

-- It commits before the commit alone.
pub before_led : (k : Checkpoint) (accepted : List ℕ) (m : Memory) (w : World) → IsOf k accepted m w
    → ((v : ℕ) (saved : Parts) (pages : ℕ → Option (ℕ → ℕ))
    → IsApplying k.leader k.running.rooms (word_at m) v saved pages → ⊥)
    → IsBefore k accepted m w
before_led k accepted m w (Before h) none = h
before_led k accepted m w (Behind h) none = absurd (none w.version h.saved h.pages h.applying)

-- the checkpoint behind the commit, which counts the saved entries anew
abbrev pub counted_anew : Checkpoint → Leader → Rooms → List ℕ → Checkpoint
counted_anew k l r counts =
    record { running = record k.running { rooms = r; saved = counts }; leader = l; spared = k.spared }

version_applied : (c : Checkpoint) (accepted : List ℕ) (m : Memory) (w : World) → IsBehind c accepted m w
    → c.running.rooms.numbers.work.version ≡ w.version
version_applied c accepted m w h = ((is_calm h.applying).1 (λ i. None)).keep.numbers.version_is

module _ (k : Checkpoint) (accepted : List ℕ) (m : Memory) (w : World) (h : IsBefore k accepted m w)
    (l : Leader) (r : Rooms) (counts : List ℕ) (next : Memory) where
  pub commits : length w.now.cores ≡ length w.saved.cores → CommitLaws
      → CommitsWritten k h.saved h.pages w.version l r next
      → NoneInHand k
      → ((page : ℕ) → page < PAGES → stage_of r.pages page ≡ after (stage_of k.running.rooms.pages page))
      → SameHomes m next → CountsRings (objects_of k.running) counts
      → IsLeaders k m LEADER (led_on k l r k.running.prepares) next
      → (version : ℕ) → version ≡ r.numbers.work.version
      → Commits k accepted m w LEADER version (counted_anew k l r counts) next
  commits cores laws written free stages homes counted turn version is =
      let home : AllHome next = λ bank below. homes bank ∙ h.home bank below in
      let behind : IsBehind (counted_anew k l r counts) accepted next (commit w) =
      commits_next k accepted m w h cores laws l r next written free stages home counts counted k.spared in
      record {
        turn = record {
          leader = refl;
          free = free;
          prepares = refl;
          left = turn.left;
          memory = turn.memory;
        };
        committed = record {
          was = h;
          version_is = is ∙ version_applied (counted_anew k l r counts) accepted next (commit w) behind;
          is_behind = behind;
        };
      }
