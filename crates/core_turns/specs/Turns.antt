-- What a turn of a core does.
use Rattle.std.specs.Prelude.{◌≡◌, ◌≢◌, ◌⊎◌, ℕ, ◌<◌, true, List, Some, None}
use Rattle.sls_base.specs.declared.limits.TheConstants.{PAGES}
use Rattle.pmem_model.specs.Memory.{Memory, KeepsCounts, count_up, word_at}
use Rattle.pmem_operations.specs.Operations.{IsAtMostOne}
use Rattle.page_store.specs.declared.stage.PageState.TheVariants.{Preparing, Writable}
use Rattle.page_store.specs.Stages.{stage_of, state_of, stored}
use Rattle.cow_fault.specs.Faults.{faulted}
use Rattle.plain_state.specs.declared.label.Reply.{Reply}
use Rattle.plain_state.specs.declared.label.Reply.TheVariants as replies
use Rattle.plain_state.specs.Worlds as worlds
use Rattle.plain_state.specs.Worlds.{World}
use Rattle.plain_state.specs.Ticks.{tick, tick_reply, touches, must_store}
use Rattle.call_readings.specs.Need.{has_page}
use Rattle.kernel_calls.specs.Instructions.{StoresPages}
use Rattle.core_turns.specs.declared.running.Running.{Running}
use Rattle.core_turns.specs.declared.turn.Turn.{Turn}
use Rattle.core_turns.specs.declared.turn.Turn.TheVariants as turns
use Rattle.core_turns.specs.Runs.{Runs, prepared_by}

-- no core prepares a page
abbrev pub IsAtHand : Running → ℕ → Type 0
IsAtHand k page = (core : ℕ) → prepared_by k core ≢ Some page

-- a page may be stored to
abbrev pub IsWritable : Running → ℕ → Type 0
IsWritable k page = state_of k.rooms.pages page ≡ Writable

-- One of some pages is in a core's hand, as its room says.
pub record IsPreparedOf (k : Running) (pages : List ℕ) (page core : ℕ) : Type 0 where
  pub among : has_page pages page ≡ true
  pub in_hand : state_of k.rooms.pages page ≡ Preparing core

-- One of some pages may not be stored to.
pub record IsUnwritableOf (k : Running) (pages : List ℕ) (page : ℕ) : Type 0 where
  pub among : has_page pages page ≡ true
  pub not_yet : IsWritable k page → ⊥

-- the other cores have in hand what they had
abbrev pub OthersStay : Running → Running → ℕ → Type 0
OthersStay old new core = (other : ℕ) → other ≢ core → prepared_by new other ≡ prepared_by old other

-- a page is at the stage at which it was, or it was stored to
abbrev pub StaysOrIsStored : Running → Running → ℕ → Type 0
StaysOrIsStored old new page =
    (stage_of new.rooms.pages page ≡ stage_of old.rooms.pages page)
    ⊎ (stage_of new.rooms.pages page ≡ stored (stage_of old.rooms.pages page))

-- A whole tick of the plain machine, by a core that has no page in hand: each page that it touches is at hand, and each
-- that it must store to may be stored to.
pub record Ticks (old : Running) (accepted : List ℕ) (before : Memory) (w : World) (core : ℕ) (reply : Reply)
    (new : Running) (after : Memory) : Type 0 where
  pub free : prepared_by old core ≡ None
  pub touched : (page : ℕ) → touches w core page ≡ true → IsAtHand old page
  pub writable : (page : ℕ) → must_store w core page ≡ true → IsWritable old page
  pub reply_is : tick_reply w core ≡ reply
  pub runs : Runs new accepted after (tick w core)
  pub prepares : new.prepares ≡ old.prepares
  pub stages : (page : ℕ) → page < PAGES → StaysOrIsStored old new page
  pub words : StoresPages (must_store w core) before after
  pub idle : reply ≡ replies.Idle → after ≡ before

-- A core begins to prepare a page of the running state that is at hand, to which its tick must store and may not yet.
pub record Begins (old : Running) (w : World) (core page : ℕ) : Type 0 where
  pub free : prepared_by old core ≡ None
  pub there : worlds.has_page w.now page ≡ true
  pub stores : must_store w core page ≡ true
  pub not_yet : IsWritable old page → ⊥
  pub at_hand : IsAtHand old page

-- a core has a page in hand, or begins to prepare it
abbrev pub MayPrepare : Running → World → ℕ → ℕ → Type 0
MayPrepare old w core page = (prepared_by old core ≡ Some page) ⊎ Begins old w core page

-- A step by which a core prepares a page. The world stays, and the page is in its hand until it may be stored to.
pub record Prepares (old : Running) (accepted : List ℕ) (before : Memory) (w : World) (core page : ℕ)
    (new : Running) (after : Memory) : Type 0 where
  pub in_range : page < PAGES
  pub why : MayPrepare old w core page
  pub runs : Runs new accepted after w
  pub stage : stage_of new.rooms.pages page ≡ faulted (stage_of old.rooms.pages page) core
  pub stages : (other : ℕ) → other ≢ page → stage_of new.rooms.pages other ≡ stage_of old.rooms.pages other
  pub done : IsWritable new page → prepared_by new core ≡ None
  pub goes_on : (IsWritable new page → ⊥) → prepared_by new core ≡ Some page
  pub others : OthersStay old new core
  pub counts : KeepsCounts before after
  pub one : after.ops ≡ count_up before.ops
  pub operation : IsAtMostOne core (word_at before) (word_at after)

-- A core waits for a page that its tick touches and that another core prepares. Nothing changes.
pub record Waits (old : Running) (before : Memory) (w : World) (core page other : ℕ) (new : Running) (after : Memory)
    : Type 0 where
  pub free : prepared_by old core ≡ None
  pub touched : touches w core page ≡ true
  pub prepares : prepared_by old other ≡ Some page
  pub same : new ≡ old
  pub memory : after ≡ before

-- What a turn of a core does in a world, by what it answers.
abbrev pub Goes : Running → List ℕ → Memory → World → ℕ → Turn → Running → Memory → Type 0
Goes old accepted before w core (turns.Ticked reply) new after = Ticks old accepted before w core reply new after
Goes old accepted before w core (turns.Prepared page) new after = Prepares old accepted before w core page new after
Goes old accepted before w core (turns.Waits page other) new after = Waits old before w core page other new after
