-- What a tick changes, what it reaches, and on what of a world it depends.
use Rattle.std.specs.Prelude.{◌≡◌, ◌≢◌, ◌⊎◌, ℕ, ◌-◌, ◌≤◌, Bool, true, false, if◌then◌else◌, List, [], ◌++◌, length, drop, is_some, Contains, Some, None, slice_index_or, slice_set}
use Rattle.rv_table.specs.declared.Instr.TheVariants.{Ecall}
use Rattle.rv_table.specs.Decoded.{decoded}
use Rattle.sls_base.specs.declared.fixed.TheConstants.{SCHEDULER}
use Rattle.sls_base.specs.declared.limits.TheConstants.{INSTRUCTION_BYTES}
use Rattle.sls_base.specs.declared.rights.TheConstants.{EXECUTE}
use Rattle.sls_base.specs.declared.thread.Thread.{Thread as ThreadRecord}
use Rattle.plain_state.specs.declared.calls.TheConstants.{ANSWER}
use Rattle.plain_state.specs.declared.calls.Call.{Call}
use Rattle.plain_state.specs.declared.calls.Refusal.{Refusal}
use Rattle.plain_state.specs.declared.calls.Refusal.TheVariants.{BadCall}
use Rattle.plain_state.specs.declared.effect.Goes.{Goes}
use Rattle.plain_state.specs.declared.effect.Goes.TheVariants.{On}
use Rattle.plain_model.specs.Objects.{Page, Thread, page_numbers}
use Rattle.plain_model.specs.States.{State, thread_at}
use Rattle.plain_model.specs.Memory.{is_covered}
use Rattle.plain_model.specs.Worlds.{World, is_used_object, is_used_page, put_count, accepted_count}
use Rattle.plain_model.specs.Effects.{next_pc}
use Rattle.plain_model.specs.Calls.{call_named}
use Rattle.plain_model.specs.CallRefusals.{refusal_of}
use Rattle.plain_model.specs.Instructions.{seen_by, value_at, fetched}
use Rattle.plain_model.specs.Ticks.{Chosen, effect_for, at_slice_end, at_back, on_core, state_after, puts_on, stores_to, tick, writes}
use Rattle.plain_laws.specs.Kept.{page_of}

-- the run queue without its front, where a core that has no thread takes that
abbrev pub queue_left : State → ℕ → List ℕ
queue_left s core = if is_some (slice_index_or s.cores core None) then s.queue else drop 1 s.queue

-- what becomes of the thread that a core runs, its slice counted
abbrev pub goes_for : World → Chosen → Goes
goes_for w c = at_slice_end (c.occupant.slice - 1) (effect_for w c).goes

-- A tick of a core by the thread that it runs changes no object but that thread and what its effect writes, and puts
-- on no other channel. Who is woken stands behind the queue, in order, and then the thread, if it goes to the back.
pub record ChangesOnly (w : World) (core : ℕ) (c : Chosen) : Type 0 where
  pub objects : (i : ℕ) → i ≢ c.occupant.thread → writes (effect_for w c) i ≡ false
      → (tick w core).now.objects i ≡ w.now.objects i
  pub out : (channel : ℕ) → puts_on (effect_for w c).output channel ≡ false
      → (tick w core).now.out channel ≡ w.now.out channel
  pub inputs : (tick w core).now.inputs ≡ (if (effect_for w c).takes then drop 1 w.now.inputs else w.now.inputs)
  pub queue : (tick w core).now.queue
      ≡ queue_left w.now core ++ (effect_for w c).wakes ++ at_back c.occupant.thread (goes_for w c)
  pub cores : (other : ℕ) → other ≢ core
      → slice_index_or (tick w core).now.cores other None ≡ slice_index_or w.now.cores other None
  pub saved : (tick w core).saved ≡ w.saved
  pub released : (tick w core).released ≡ w.released
  pub base : (tick w core).base ≡ w.base
  pub version : (tick w core).version ≡ w.version

-- A page that the tick doesn't store to stays, with each byte.
abbrev pub KeepsPages : World → ℕ → Chosen → Type 0
KeepsPages w core c =
    (i k : ℕ) (page : Page) → page_of w.now i k ≡ Some page → stores_to w.now (effect_for w c) page.number ≡ false
    → page_of (tick w core).now i k ≡ Some page

-- An object that has pages keeps their numbers, in their order.
abbrev pub KeepsPageNumbers : World → ℕ → Type 0
KeepsPageNumbers w core =
    (i : ℕ) → page_numbers (w.now.objects i) ≢ []
    → page_numbers ((tick w core).now.objects i) ≡ page_numbers (w.now.objects i)

-- Refused calls.

-- the refusal of the call that a thread names: BadCall where it names none
abbrev pub RefusedBy : World → ℕ → ThreadRecord → Refusal → Type 0
RefusedBy w id thread refusal =
    ((call_named thread ≡ None) × (refusal ≡ BadCall))
    ⊎ ((call : Call) × (call_named thread ≡ Some call) × (refusal_of w id thread call ≡ Some refusal))

-- the thread that a core runs
abbrev pub thread_of : World → Chosen → ThreadRecord
thread_of w c = thread_at w.now c.occupant.thread

-- it is at an ECALL that is refused
pub record IsRefused (w : World) (c : Chosen) (refusal : Refusal) : Type 0 where
  pub covered : is_covered (seen_by w.now (thread_of w c)) EXECUTE (thread_of w c).pc INSTRUCTION_BYTES ≡ true
  pub ecall : decoded (value_at w.now (fetched w.now (thread_of w c))) ≡ Some Ecall
  pub refused : RefusedBy w c.occupant.thread (thread_of w c) refusal

-- the thread that has its answer, behind the call and where it then stands
abbrev pub answered : ℕ → ThreadRecord → Goes → ℕ → ThreadRecord
answered core thread goes answer = record {
  group = thread.group;
  space = thread.space;
  state = state_after core goes;
  pc = next_pc thread;
  x = slice_set thread.x ANSWER answer;
}

-- The tick changes x10, the pc, the state and the place of the thread, and of the world nothing else but that the
-- scheduler and the thread count as changed.
pub record OnlyAnswers (w : World) (core : ℕ) (c : Chosen) (answer : ℕ) : Type 0 where
  pub goes : goes_for w c ≡ at_slice_end (c.occupant.slice - 1) On
  pub thread : (tick w core).now.objects c.occupant.thread
      ≡ Some (Thread (answered core (thread_of w c) (goes_for w c) answer))
  pub others : (i : ℕ) → i ≢ c.occupant.thread → (tick w core).now.objects i ≡ w.now.objects i
  pub queue : (tick w core).now.queue ≡ queue_left w.now core ++ at_back c.occupant.thread (goes_for w c)
  pub cores : (tick w core).now.cores
      ≡ slice_set w.now.cores core (on_core c.occupant.thread (c.occupant.slice - 1) (goes_for w c))
  pub out : (channel : ℕ) → (tick w core).now.out channel ≡ w.now.out channel
  pub inputs : (tick w core).now.inputs ≡ w.now.inputs
  pub saved : (tick w core).saved ≡ w.saved
  pub released : (tick w core).released ≡ w.released
  pub base : (tick w core).base ≡ w.base
  pub version : (tick w core).version ≡ w.version
  pub stored : (page : ℕ) → (tick w core).stored page ≡ w.stored page
  pub changed : (i : ℕ) → i ≢ c.occupant.thread → i ≢ SCHEDULER → (tick w core).changed i ≡ w.changed i

-- Reach.

-- at most so many numbers pass a test: they are all in a list of that length
pub record PassAtMost (most : ℕ) (test : ℕ → Bool) : Type 0 where
  pub numbers : List ℕ
  pub count : length numbers ≤ most
  pub all : (n : ℕ) → test n ≡ true → Contains numbers n

-- What an instruction does depends on this of a world alone: the objects, the inputs that wait, the numbers in use,
-- and the counts of entries put and accepted.
pub record IsAlike (w v : World) : Type 0 where
  pub objects : w.now.objects ≡ v.now.objects
  pub inputs : w.now.inputs ≡ v.now.inputs
  pub used_objects : (i : ℕ) → is_used_object w i ≡ is_used_object v i
  pub used_pages : (page : ℕ) → is_used_page w page ≡ is_used_page v page
  pub put : (channel : ℕ) → put_count w channel ≡ put_count v channel
  pub accepted : (channel : ℕ) → accepted_count w channel ≡ accepted_count v channel
