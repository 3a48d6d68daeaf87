-- Which plain object stands in a slot.
use Rattle.std.specs.Prelude.{ℕ, ◌==◌, Bool, true, false, if◌then◌else◌, List, [], map, take, Option, Some, None, option_map}
use Rattle.sls_base.specs.declared.limits.TheConstants.{OUTPUT_CHANNELS}
use Rattle.cap_group.specs.declared.cap.Cap.{Cap}
use Rattle.mem_space.specs.declared.region.Region.{Region}
use Rattle.mem_space.specs.declared.memory.MemPage.{MemPage}
use Rattle.mem_space.specs.declared.memory.Memory.{Memory}
use Rattle.mem_space.specs.declared.space.Space.{Space}
use Rattle.plain_state.specs.declared.objects.Capability.{Capability}
use Rattle.plain_state.specs.declared.objects.Occupant.{Occupant}
use Rattle.plain_state.specs.declared.objects.Region.{Region as PlainRegion}
use Rattle.plain_model.specs.Objects as plain
use Rattle.plain_model.specs.Objects.{Object, Page}
use Rattle.kobj_table.specs.declared.slot.Slot.{Slot}
use Rattle.kobj_table.specs.declared.slot.Slot.TheVariants as slots

abbrev pub capability_of : Cap → Capability
capability_of cap = record { object = cap.object; rights = cap.rights }

abbrev pub region_of : Region → PlainRegion
region_of r = record { base = r.base; count = r.count; first = r.first; memory = r.memory; rights = r.rights }

-- the bytes of a page: zero where it is fresh, else the content that its number stands for
abbrev pub bytes_of : (ℕ → ℕ → ℕ) → ℕ → Bool → ℕ → ℕ
bytes_of content number true offset = 0
bytes_of content number false offset = content number offset

abbrev pub page_of : (ℕ → ℕ → ℕ) → MemPage → Page
page_of content p = record { number = p.page; byte = bytes_of content p.page p.fresh }

-- the channels behind those of the outputs are the input's
abbrev pub ring_of : ℕ → Object
ring_of channel = if channel == OUTPUT_CHANNELS then plain.InputRing else plain.OutputRing channel

-- The object in a slot, where its list has these threads and each page number stands for some content.
abbrev pub object_of : (ℕ → ℕ → ℕ) → Slot → List ℕ → Option Object
object_of content slots.Empty threads = None
object_of content (slots.Group group) threads = Some (plain.Group (map (option_map capability_of) group.slots))
object_of content (slots.Thread thread) threads = Some (plain.Thread thread)
object_of content (slots.Space space) threads = Some (plain.Space (map region_of space.regions.items))
object_of content (slots.Memory memory) threads = Some (plain.Memory (map (page_of content) memory.pages.items))
object_of content (slots.Connection c) threads = Some (plain.Connection c.server c.client threads)
object_of content (slots.Notification note) threads = Some (plain.Notification note.count threads)
object_of content (slots.Ring ring) threads = Some (ring_of ring.channel)
object_of content (slots.Scheduler cores) threads = Some plain.Scheduler

-- the object has a list of threads
abbrev pub has_list : Slot → Bool
has_list (slots.Connection c) = true
has_list (slots.Notification note) = true
has_list _ = false

-- the memory object in a slot; where there is another, one without pages
abbrev pub memory_in : Slot → Memory
memory_in (slots.Memory memory) = memory
memory_in _ = record { pages = record { items = [] } }

-- the space in a slot; where there is another object, one without regions

abbrev pub is_space : Slot → Bool
is_space (slots.Space space) = true
is_space _ = false

abbrev pub space_in : Slot → Space
space_in (slots.Space space) = space
space_in _ = record { regions = record { items = [] } }

-- Cores.

abbrev pub is_scheduler : Slot → Bool
is_scheduler (slots.Scheduler cores) = true
is_scheduler _ = false

abbrev pub occupant_of : (ℕ × ℕ) → Occupant
occupant_of running = record { thread = running.0; slice = running.1 }

-- what each core runs
abbrev pub cores_of : Slot → List (Option Occupant)
cores_of (slots.Scheduler cores) = take cores.cores (map (option_map occupant_of) cores.running)
cores_of _ = []
