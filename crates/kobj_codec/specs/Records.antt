-- Which words stand for an object: word 0, its head, and the words behind it, by kind. What isn't named is 0.
use Rattle.std.specs.Prelude.{◌≡◌, ℕ, zero, suc, ◌+◌, ◌-◌, ◌*◌, ◌^◌, ◌<◌, ◌==◌, nat_lt, if◌then◌else◌, Bool, true, false, List, [], ◌∷◌, length, slice_get, slice_index, slice_index_or, Option, Some, None}
use Rattle.sls_base.specs.declared.limits.TheConstants.{CORES}
use Rattle.sls_base.specs.declared.thread.ThreadState.{ThreadState}
use Rattle.sls_base.specs.declared.thread.ThreadState.TheVariants.{Ready, Running, Waiting, Calling, Served, Serving, Stopped}
use Rattle.sls_base.specs.declared.thread.Thread.{Thread}
use Rattle.cap_group.specs.declared.cap.Cap.{Cap}
use Rattle.cap_group.specs.Group.{cap_at}
use Rattle.mem_space.specs.declared.region.Region.{Region}
use Rattle.mem_space.specs.declared.memory.MemPage.{MemPage}
use Rattle.pmem_layout.specs.declared.places.TheConstants.{SLOT_WORDS}
use Rattle.pmem_layout.specs.Bits.{fields}
use Rattle.kobj_codec.specs.declared.kinds.TheConstants.{GROUP_KIND, THREAD_KIND, SPACE_KIND, MEMORY_KIND, CONNECTION_KIND, NOTIFICATION_KIND, RING_KIND, SCHEDULER_KIND}
use Rattle.kobj_codec.specs.declared.space.TheConstants.{PAGE_BITS, COUNT_BITS, FIRST_BITS, MEMORY_BITS, RIGHTS_BITS, UNNAMED_BITS}
use Rattle.kobj_codec.specs.declared.obj.Obj.{Obj}
use Rattle.kobj_codec.specs.declared.obj.Obj.TheVariants as objs

-- `count` numbers of a row from number `at` on in one word, each in `width` bits, the lowest first
abbrev pub packed : ℕ → ℕ → (ℕ → ℕ) → ℕ → ℕ
packed width zero row at = 0
packed width (suc count) row at = row at + 2 ^ width * packed width count row (at + 1)

-- word k of a row of numbers of 8, of 16 and of 32 bits
abbrev pub bytes_word : (ℕ → ℕ) → ℕ → ℕ
bytes_word row k = packed 8 8 row (8 * k)

abbrev pub shorts_word : (ℕ → ℕ) → ℕ → ℕ
shorts_word row k = packed 16 4 row (4 * k)

abbrev pub halves_word : (ℕ → ℕ) → ℕ → ℕ
halves_word row k = packed 32 2 row (2 * k)

-- Parts of records. Where a part isn't there, its number is 0.

abbrev pub mark : Bool → ℕ
mark true = 1
mark false = 0

-- a slot of a group
abbrev pub slot_number : Option Cap → ℕ
slot_number None = 0
slot_number (Some cap) = 0x8000 + 16 * cap.object + cap.rights

-- a thread's state, and what it names
abbrev pub state_number : ThreadState → ℕ
state_number Ready = 0
state_number (Running _) = 1
state_number (Waiting _) = 2
state_number (Calling _) = 3
state_number (Served _) = 4
state_number (Serving _) = 5
state_number (Stopped _) = 6

abbrev pub about : ThreadState → ℕ
about Ready = 0
about (Running core) = core
about (Waiting object) = object
about (Calling object) = object
about (Served object) = object
about (Serving object) = object
about (Stopped cause) = cause

-- half 0 is pc, and half j is register j
abbrev pub half : Thread → ℕ → ℕ
half t j = if j == 0 then t.pc else slice_index t.x j

-- a region of a space
abbrev pub region_word : Option Region → ℕ
region_word None = 0
region_word (Some r) =
    fields ((PAGE_BITS, r.base) ∷ (COUNT_BITS, r.count) ∷ (FIRST_BITS, r.first) ∷ (MEMORY_BITS, r.memory)
    ∷ (RIGHTS_BITS, r.rights) ∷ (UNNAMED_BITS, 0) ∷ (1, 1) ∷ [])

-- a page of a memory object
abbrev pub page_number : Option MemPage → ℕ
page_number None = 0
page_number (Some p) = p.page + 0x8000 * mark p.fresh

-- the client that a connection serves
abbrev pub client_number : Option ℕ → ℕ
client_number None = 0
client_number (Some client) = client + 2 ^ 8

-- what runs on a core: a thread, and what is left of its slice
abbrev pub core_word : Option (ℕ × ℕ) → ℕ
core_word None = 0
core_word (Some o) = fields ((8, o.0) ∷ (8, o.1) ∷ (47, 0) ∷ (1, 1) ∷ [])

-- a list of threads: its length, and then its numbers
abbrev pub listed_word : List ℕ → ℕ → ℕ
listed_word ids i = if i == 0 then length ids else bytes_word (slice_index ids) (i - 1)

-- Records.

abbrev pub head_word : Obj → ℕ
head_word (objs.Group g) = GROUP_KIND
head_word (objs.Thread t) =
    fields ((8, THREAD_KIND) ∷ (8, t.group) ∷ (8, t.space) ∷ (8, state_number t.state) ∷ (8, about t.state) ∷ [])
head_word (objs.Space s) = SPACE_KIND
head_word (objs.Memory m) = fields ((8, MEMORY_KIND) ∷ (8, length m.pages.items) ∷ [])
head_word (objs.Connection c) = fields ((8, CONNECTION_KIND) ∷ (8, c.server) ∷ (9, client_number c.client) ∷ [])
head_word (objs.Notification n) = fields ((8, NOTIFICATION_KIND) ∷ (24, 0) ∷ (32, n.count) ∷ [])
head_word (objs.Ring r) = fields ((8, RING_KIND) ∷ (8, r.channel) ∷ (1, mark r.fresh) ∷ [])
head_word (objs.Scheduler s) = fields ((8, SCHEDULER_KIND) ∷ (8, s.cores) ∷ [])

abbrev pub word_behind : Obj → ℕ → ℕ
word_behind (objs.Group g) i = shorts_word (λ j. slot_number (cap_at g j)) i
word_behind (objs.Thread t) i = halves_word (half t) i
word_behind (objs.Space s) i = region_word (slice_get s.regions.items i)
word_behind (objs.Memory m) i = shorts_word (λ j. page_number (slice_get m.pages.items j)) i
word_behind (objs.Connection c) i = listed_word c.clients.items i
word_behind (objs.Notification n) i = listed_word n.waiters.items i
word_behind (objs.Ring r) i = slice_index (r.count ∷ r.page ∷ []) i
word_behind (objs.Scheduler s) i =
    if nat_lt i CORES then core_word (slice_index_or s.running i None) else listed_word s.queue.items (i - CORES)

-- The words are an object's record.
pub record IsRecord (words : ℕ → ℕ) (o : Obj) : Type 0 where
  pub head : words 0 ≡ head_word o
  pub behind : (i : ℕ) → i + 1 < SLOT_WORDS → words (i + 1) ≡ word_behind o i
