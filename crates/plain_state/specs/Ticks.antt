-- A tick of a core: it takes a thread where it has none, the thread does one instruction or call, and the slice falls by one.
use Rattle.std.specs.Prelude.{ℕ, ◌+◌, ◌-◌, ◌==◌, ◌||◌, Bool, false, if◌then◌else◌, List, [], ◌∷◌, ◌++◌, drop, Option, Some, None, slice_index_or, slice_set}
use Rattle.std.specs.List.{list_any}
use Rattle.sls_base.specs.declared.limits.TheConstants.{CORE_SLICE}
use Rattle.sls_base.specs.declared.fixed.TheConstants.{SCHEDULER, FIRST_OUTPUT_RING}
use Rattle.sls_base.specs.declared.thread.Thread.{Thread as ThreadRecord}
use Rattle.sls_base.specs.declared.thread.ThreadState.{ThreadState}
use Rattle.sls_base.specs.declared.thread.ThreadState.TheVariants.{Ready, Running, Stopped}
use Rattle.plain_state.specs.declared.objects.Occupant.{Occupant}
use Rattle.plain_state.specs.declared.effect.Output.{Output}
use Rattle.plain_state.specs.declared.effect.Goes.{Goes}
use Rattle.plain_state.specs.declared.effect.Goes.TheVariants.{On, Back, Asleep, Stop}
use Rattle.plain_state.specs.declared.label.Reply.{Reply}
use Rattle.plain_state.specs.declared.label.Reply.TheVariants.{Retired, Idle, Wished}
use Rattle.plain_state.specs.Objects.{Object, Thread, page_of_channel}
use Rattle.plain_state.specs.States.{State, thread_at, with_object}
use Rattle.plain_state.specs.Memory.{with_stores, page_at}
use Rattle.plain_state.specs.Worlds.{World}
use Rattle.plain_state.specs.Effects.{Effect, Change}
use Rattle.plain_state.specs.Instructions.{instruction}

-- Who runs.

-- a thread with its slice, and the queue without it
pub record Chosen : Type 0 where
  pub occupant : Occupant
  pub queue : List ℕ

-- the front of the run queue, with a whole slice
abbrev pub front : List ℕ → Option Chosen
front [] = None
front (id ∷ queue) = Some (record { occupant = record { thread = id; slice = CORE_SLICE }; queue = queue })

-- the core's own thread, or that
abbrev pub own_or_front : Option Occupant → List ℕ → Option Chosen
own_or_front (Some occupant) queue = Some (record { occupant = occupant; queue = queue })
own_or_front None queue = front queue

-- whom a core runs next
abbrev pub chosen : State → ℕ → Option Chosen
chosen s core = own_or_front (slice_index_or s.cores core None) s.queue

-- What becomes of it.

-- a thread that would go on goes to the queue's back where nothing of its slice is left
abbrev pub at_slice_end : ℕ → Goes → Goes
at_slice_end left On = if left == 0 then Back else On
at_slice_end left goes = goes

-- what it does then, and where it stands: on its core, at the queue's back, or in neither

abbrev pub state_after : ℕ → Goes → ThreadState
state_after core On = Running core
state_after core Back = Ready
state_after core (Asleep state) = state
state_after core (Stop cause) = Stopped cause

abbrev pub on_core : ℕ → ℕ → Goes → Option Occupant
on_core id left On = Some (record { thread = id; slice = left })
on_core id left _ = None

abbrev pub at_back : ℕ → Goes → List ℕ
at_back id Back = id ∷ []
at_back id _ = []

-- the thread after its instruction
abbrev pub thread_after : ℕ → ThreadRecord → Goes → Effect → ThreadRecord
thread_after core thread goes e =
    record { group = thread.group; space = thread.space; state = state_after core goes; pc = e.regs.pc; x = e.regs.x }

-- What becomes of the rest.

-- the objects after changes, one after another
abbrev pub with_changes : (ℕ → Option Object) → List Change → ℕ → Option Object
with_changes objects [] = objects
with_changes objects (change ∷ changes) = with_changes (with_object objects change.id change.object) changes

abbrev pub with_output : (ℕ → List (List ℕ)) → Option Output → ℕ → List (List ℕ)
with_output out None channel = out channel
with_output out (Some output) channel =
    if channel == output.channel then out channel ++ output.bytes.items ∷ [] else out channel

-- The state after an effect of the thread that a core runs, where the thread then goes on or leaves. Threads that it makes Ready
-- stand in the queue before it.
abbrev pub state_with : State → ℕ → Chosen → Goes → Effect → State
state_with s core c goes e =
    let id = c.occupant.thread in record {
      objects = with_object (with_changes (with_stores s.objects e.stores) e.changes) id
          (Thread (thread_after core (thread_at s id) goes e));
      queue = c.queue ++ e.wakes ++ at_back id goes;
      cores = slice_set s.cores core (on_core id (c.occupant.slice - 1) goes);
      out = with_output s.out e.output;
      inputs = if e.takes then drop 1 s.inputs else s.inputs;
    }

-- the slice falls by one
unfoldable pub state_of_effect : State → ℕ → Chosen → Effect → State
state_of_effect s core c e = state_with s core c (at_slice_end (c.occupant.slice - 1) e.goes) e

-- Which pages it loads from and stores to, and which objects it writes.

abbrev pub puts_on : Option Output → ℕ → Bool
puts_on None channel = false
puts_on (Some output) channel = output.channel == channel

abbrev pub puts_to_page : Option Output → ℕ → Bool
puts_to_page None page = false
puts_to_page (Some output) page = page_of_channel output.channel == page

abbrev pub puts_to_ring : Option Output → ℕ → Bool
puts_to_ring None i = false
puts_to_ring (Some output) i = FIRST_OUTPUT_RING + output.channel == i

abbrev pub loads_from : State → Effect → ℕ → Bool
loads_from s e page = list_any (λ place. (page_at s.objects place).number == page) e.loads

abbrev pub stores_to : State → Effect → ℕ → Bool
stores_to s e page =
    list_any (λ store. (page_at s.objects store.place).number == page) e.stores || puts_to_page e.output page

-- the objects that are made or written beside the scheduler and the thread: those changed, those that have a page that is
-- stored to, and the ring of an entry
abbrev pub writes : Effect → ℕ → Bool
writes e i =
    list_any (λ change. change.id == i) e.changes
    || (list_any (λ store. store.place.memory == i) e.stores || puts_to_ring e.output i)

-- Ticks.

-- what the thread that is chosen does
abbrev pub effect_for : World → Chosen → Effect
effect_for w c = instruction w c.occupant.thread (thread_at w.now c.occupant.thread)

-- the world after an effect
abbrev pub world_of_effect : World → ℕ → Chosen → Effect → World
world_of_effect w core c e = record w {
  now = state_of_effect w.now core c e;
  stored = λ page. w.stored page || stores_to w.now e page;
  changed = λ i. w.changed i || ((i == SCHEDULER) || ((i == c.occupant.thread) || writes e i));
}

-- a core that has no thread to run is idle
abbrev pub ticked : World → ℕ → Option Chosen → World
ticked w core None = w
ticked w core (Some c) = world_of_effect w core c (effect_for w c)

abbrev pub tick : World → ℕ → World
tick w core = ticked w core (chosen w.now core)

abbrev pub reply_for : World → Option Chosen → Reply
reply_for w None = Idle
reply_for w (Some c) = if (effect_for w c).wishes then Wished else Retired

abbrev pub tick_reply : World → ℕ → Reply
tick_reply w core = reply_for w (chosen w.now core)

-- the next tick of a core fetches from, loads from or stores to a page

abbrev pub touches_for : World → Option Chosen → ℕ → Bool
touches_for w None page = false
touches_for w (Some c) page = loads_from w.now (effect_for w c) page || stores_to w.now (effect_for w c) page

abbrev pub touches : World → ℕ → ℕ → Bool
touches w core page = touches_for w (chosen w.now core) page

-- it stores to a page

abbrev pub stores_for : World → Option Chosen → ℕ → Bool
stores_for w None page = false
stores_for w (Some c) page = stores_to w.now (effect_for w c) page

abbrev pub must_store : World → ℕ → ℕ → Bool
must_store w core page = stores_for w (chosen w.now core) page
