-- Objects whose numbers are in range: those that have a record.
use Rattle.std.specs.Prelude.{◌≡◌, ◌≢◌, ℕ, ◌%◌, ◌^◌, ◌<◌, ◌≤◌, ◌⊎◌, false, length, slice_index, slice_index_or, List, All, AllPairs, None, IfSome}
use Rattle.sls_base.specs.declared.causes.TheConstants.{LOST_OBJECT}
use Rattle.sls_base.specs.declared.limits.TheConstants.{OBJECTS, PAGES, GROUP_SLOTS, SPACE_REGIONS, MEMORY_PAGES, CORES, CORE_SLICE, OUTPUT_CHANNELS, REGISTERS, INSTRUCTION_BYTES}
use Rattle.sls_base.specs.declared.thread.ThreadState.{ThreadState}
use Rattle.sls_base.specs.declared.thread.ThreadState.TheVariants.{Ready, Running, Waiting, Calling, Served, Serving, Stopped}
use Rattle.sls_base.specs.declared.thread.Thread.{Thread}
use Rattle.sls_base.specs.declared.thread.Ring.{Ring}
use Rattle.cap_group.specs.declared.group.Group.{Group}
use Rattle.cap_group.specs.Group.{IsGroup}
use Rattle.mem_space.specs.declared.memory.MemPage.{MemPage}
use Rattle.mem_space.specs.declared.memory.Memory.{Memory}
use Rattle.mem_space.specs.declared.space.Space.{Space}
use Rattle.mem_space.specs.Space.{IsSpace}
use Rattle.kobj_codec.specs.declared.obj.ConnectionRec.{ConnectionRec}
use Rattle.kobj_codec.specs.declared.obj.NotificationRec.{NotificationRec}
use Rattle.kobj_codec.specs.declared.obj.Scheduler.{Scheduler}
use Rattle.kobj_codec.specs.declared.obj.Obj.{Obj}
use Rattle.kobj_codec.specs.declared.obj.Obj.TheVariants as objs

-- a list of threads, each once
pub record IsList (ids : List ℕ) : Type 0 where
  pub most : length ids ≤ OBJECTS
  pub below : All (λ id. id < OBJECTS) ids
  pub distinct : AllPairs (λ a b. a ≢ b) ids

-- a group with all its slots, each capability of which is in form
pub record IsGroupRec (g : Group) : Type 0 where
  pub size : length g.slots ≡ GROUP_SLOTS
  pub slots : IsGroup g

-- the core or the object that a state names is one that there can be, and so is the cause
abbrev pub IsState : ThreadState → Type 0
IsState Ready = Unit {0}
IsState (Running core) = core < CORES
IsState (Waiting object) = object < OBJECTS
IsState (Calling object) = object < OBJECTS
IsState (Served object) = object < OBJECTS
IsState (Serving object) = object < OBJECTS
IsState (Stopped cause) = cause ≤ LOST_OBJECT

pub record IsThread (t : Thread) : Type 0 where
  pub group : t.group < OBJECTS
  pub space : t.space < OBJECTS
  pub state : IsState t.state
  pub pc : t.pc % INSTRUCTION_BYTES ≡ 0
  pub pc_fits : t.pc < 2 ^ 32
  pub registers : length t.x ≡ REGISTERS
  pub first : slice_index t.x 0 ≡ 0
  pub fit : (j : ℕ) → slice_index t.x j < 2 ^ 32

-- a space in form, with as many regions as it may have
pub record IsSpaceRec (s : Space) : Type 0 where
  pub most : length s.regions.items ≤ SPACE_REGIONS
  pub space : IsSpace s

abbrev pub IsPage : MemPage → Type 0
IsPage p = p.page < PAGES

pub record IsMemory (m : Memory) : Type 0 where
  pub some : 1 ≤ length m.pages.items
  pub most : length m.pages.items ≤ MEMORY_PAGES
  pub pages : All IsPage m.pages.items

pub record IsConnection (c : ConnectionRec) : Type 0 where
  pub server : c.server < OBJECTS
  pub client : IfSome c.client (λ id. id < OBJECTS)
  pub clients : IsList c.clients.items

pub record IsNotification (n : NotificationRec) : Type 0 where
  pub count : n.count < 2 ^ 32
  pub waiters : IsList n.waiters.items

-- The input ring is the one behind those of the output channels. It has no page and, since no input is kept, no count.
pub record IsRing (r : Ring) : Type 0 where
  pub channel : r.channel ≤ OUTPUT_CHANNELS
  pub count : r.count < 2 ^ 64
  pub page : r.page < PAGES
  pub input : (r.channel < OUTPUT_CHANNELS) ⊎ ((r.fresh ≡ false) × (r.count ≡ 0) × (r.page ≡ 0))

-- a thread on a core, with what is left of its slice
abbrev pub IsOccupant : ℕ × ℕ → Type 0
IsOccupant o = (o.0 < OBJECTS) × (1 ≤ o.1) × (o.1 ≤ CORE_SLICE)

pub record IsScheduler (s : Scheduler) : Type 0 where
  pub some : 1 ≤ s.cores
  pub most : s.cores ≤ CORES
  pub size : length s.running ≡ CORES
  pub occupants : (core : ℕ) → IfSome (slice_index_or s.running core None) IsOccupant
  pub past : (core : ℕ) → s.cores ≤ core → slice_index_or s.running core None ≡ None
  pub queue : IsList s.queue.items

abbrev pub IsObj : Obj → Type 0
IsObj (objs.Group g) = IsGroupRec g
IsObj (objs.Thread t) = IsThread t
IsObj (objs.Space s) = IsSpaceRec s
IsObj (objs.Memory m) = IsMemory m
IsObj (objs.Connection c) = IsConnection c
IsObj (objs.Notification n) = IsNotification n
IsObj (objs.Ring r) = IsRing r
IsObj (objs.Scheduler s) = IsScheduler s
