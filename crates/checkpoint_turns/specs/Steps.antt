-- What a turn within a checkpoint does.
use Rattle.std.specs.Prelude.{◌≡◌, ◌≢◌, ◌⊎◌, ℕ, ◌+◌, ◌<◌, List, Some, None}
use Rattle.sls_base.specs.declared.fixed.TheConstants.{LEADER}
use Rattle.sls_base.specs.declared.limits.TheConstants.{PAGES}
use Rattle.pmem_model.specs.Memory.{Memory, word_at, KeepsCounts, count_up}
use Rattle.pmem_operations.specs.Operations.{IsAtMostOne}
use Rattle.plain_state.specs.Worlds.{World}
use Rattle.plain_model.specs.Play.{commit}
use Rattle.cow_fault.specs.Faults.{faulted}
use Rattle.page_store.specs.declared.stage.PageStage.TheVariants as stages
use Rattle.page_store.specs.Stages.{stage_of, state_of}
use Rattle.core_turns.specs.declared.running.Running.{Running}
use Rattle.core_turns.specs.Runs.{Runs, prepared_by}
use Rattle.core_turns.specs.Turns.{IsWritable, OthersStay}
use Rattle.checkpoint_turns.specs.declared.checkpoint.Checkpoint.{Checkpoint}
use Rattle.checkpoint_turns.specs.declared.checkpoint.Led.{Led}
use Rattle.checkpoint_turns.specs.declared.checkpoint.Led.TheVariants as led
use Rattle.checkpoint_turns.specs.Checkpoints.{IsBefore, IsBehind, NoneInHand, turns_left}

-- The core does one operation at most on the memory.
pub record DoesOne (core : ℕ) (before after : Memory) : Type 0 where
  pub counts : KeepsCounts before after
  pub ops : (after.ops ≡ before.ops) ⊎ (after.ops ≡ count_up before.ops)
  pub operation : IsAtMostOne core (word_at before) (word_at after)

-- Nothing happens.
pub record IsSame (old : Checkpoint) (before : Memory) (new : Checkpoint) (after : Memory) : Type 0 where
  pub same : new ≡ old
  pub memory : after ≡ before

-- A core goes on with the page that it has in hand. The world stays.
pub record Prepares (old : Checkpoint) (accepted : List ℕ) (before : Memory) (w : World) (core page : ℕ)
    (new : Checkpoint) (after : Memory) : Type 0 where
  pub in_hand : prepared_by old.running core ≡ Some page
  pub was : IsBefore old accepted before w
  pub is_before : IsBefore new accepted after w
  pub stage : stage_of new.running.rooms.pages page ≡ faulted (stage_of old.running.rooms.pages page) core
  pub stages : (other : ℕ) → other ≢ page
      → stage_of new.running.rooms.pages other ≡ stage_of old.running.rooms.pages other
  pub done : IsWritable new.running page → prepared_by new.running core ≡ None
  pub goes_on : (IsWritable new.running page → ⊥) → prepared_by new.running core ≡ Some page
  pub others : OthersStay old.running new.running core
  pub left : turns_left new ≡ turns_left old
  pub memory : DoesOne core before after

-- The leader waits for another core that has a page in hand.
pub record Waits (old : Checkpoint) (accepted : List ℕ) (before : Memory) (w : World) (core : ℕ)
    (new : Checkpoint) (after : Memory) : Type 0 where
  pub leader : core ≡ LEADER
  pub free : prepared_by old.running core ≡ None
  pub was : IsBefore old accepted before w
  pub other : ℕ
  pub not_leader : other ≢ LEADER
  pub page : ℕ
  pub in_hand : prepared_by old.running other ≡ Some page
  pub same : IsSame old before new after

-- Another core has nothing to do.
pub record Pauses (old : Checkpoint) (before : Memory) (core : ℕ) (new : Checkpoint) (after : Memory) : Type 0 where
  pub other : core ≢ LEADER
  pub free : prepared_by old.running core ≡ None
  pub same : IsSame old before new after

-- What is so of each turn of the leader but its last one: no core has a page in hand, and of the turns that are left it
-- is one.
pub record IsLeaders (old : Checkpoint) (before : Memory) (core : ℕ) (new : Checkpoint) (after : Memory) : Type 0 where
  pub leader : core ≡ LEADER
  pub free : NoneInHand old
  pub prepares : new.running.prepares ≡ old.running.prepares
  pub left : turns_left old ≡ turns_left new + 1
  pub memory : DoesOne LEADER before after

-- The same side of the commit as before it.
pub data StaysOf (old : Checkpoint) (accepted : List ℕ) (before : Memory) (w : World)
    (new : Checkpoint) (after : Memory) : Type 0 where
  Before : IsBefore old accepted before w → IsBefore new accepted after w → StaysOf old accepted before w new after
  Behind : IsBehind old accepted before w → IsBehind new accepted after w → StaysOf old accepted before w new after

-- A turn of the leader that doesn't commit. The world stays, and pages may be stored to as before.
pub record Goes (old : Checkpoint) (accepted : List ℕ) (before : Memory) (w : World) (core : ℕ)
    (new : Checkpoint) (after : Memory) : Type 0 where
  pub turn : IsLeaders old before core new after
  pub stays : StaysOf old accepted before w new after
  pub states : (page : ℕ) → page < PAGES
      → state_of new.running.rooms.pages page ≡ state_of old.running.rooms.pages page

-- The next version was committed.
pub record HasCommitted (old : Checkpoint) (accepted : List ℕ) (before : Memory) (w : World) (version : ℕ)
    (new : Checkpoint) (after : Memory) : Type 0 where
  pub was : IsBefore old accepted before w
  pub version_is : version ≡ w.version + 1
  pub is_behind : IsBehind new accepted after (commit w)

-- The leader's fence commits.
pub record Commits (old : Checkpoint) (accepted : List ℕ) (before : Memory) (w : World) (core version : ℕ)
    (new : Checkpoint) (after : Memory) : Type 0 where
  pub turn : IsLeaders old before core new after
  pub committed : HasCommitted old accepted before w version new after

-- a page is at the stage at which it was, or it is fresh
abbrev pub StaysOrIsFresh : Running → Running → ℕ → Type 0
StaysOrIsFresh old new page =
    (stage_of new.rooms.pages page ≡ stage_of old.rooms.pages page)
    ⊎ (stage_of new.rooms.pages page ≡ stages.Fresh)

-- The leader's last turn: the cores run on, as cores of the world.
pub record Ends (old : Checkpoint) (accepted : List ℕ) (before : Memory) (w : World) (core : ℕ)
    (new : Checkpoint) (after : Memory) : Type 0 where
  pub leader : core ≡ LEADER
  pub was : IsBehind old accepted before w
  pub left : turns_left old ≡ 1 + old.spared
  pub memory : after ≡ before
  pub prepares : new.running.prepares ≡ old.running.prepares
  pub stages : (page : ℕ) → page < PAGES → StaysOrIsFresh old.running new.running page
  pub runs : Runs new.running accepted after w

-- What a turn of a core does in a world, by what it answers.
abbrev pub TurnGoes : Checkpoint → List ℕ → Memory → World → ℕ → Led → Checkpoint → Memory → Type 0
TurnGoes old accepted before w core (led.Prepared page) new after =
    Prepares old accepted before w core page new after
TurnGoes old accepted before w core led.Waits new after = Waits old accepted before w core new after
TurnGoes old accepted before w core led.Paused new after = Pauses old before core new after
TurnGoes old accepted before w core led.Led new after = Goes old accepted before w core new after
TurnGoes old accepted before w core (led.Committed version) new after =
    Commits old accepted before w core version new after
TurnGoes old accepted before w core led.Ended new after = Ends old accepted before w core new after

-- A write-back committed the next version. No core had a page in hand, and the leader has as many turns left as
-- before.
pub record CommitsBack (old : Checkpoint) (accepted : List ℕ) (before : Memory) (w : World) (version : ℕ)
    (new : Checkpoint) (after : Memory) : Type 0 where
  pub committed : HasCommitted old accepted before w version new after
  pub free : NoneInHand old
  pub prepares : new.running.prepares ≡ old.running.prepares
  pub left : turns_left new ≡ turns_left old
