-- The state that an image begins with, and which images are accepted.
use Rattle.std.specs.Prelude.{◌≡◌, ◌⊎◌, ℕ, ◌+◌, ◌*◌, ◌/◌, ◌%◌, ◌^◌, ◌<◌, ◌≤◌, true, false, if◌then◌else◌, List, [], ◌∷◌, ◌++◌, length, map, filter, take, drop, replicate, sum_by, All, AllPairs, Any, Option, Some, None, slice_index, slice_get, slice_set}
use Rattle.std.specs.List.{range_with_len}
use Rattle.sls_base.specs.declared.limits.TheConstants.{PAGE_BYTES, GROUP_SLOTS, OUTPUT_CHANNELS, OBJECTS, PAGES, MEMORY_PAGES, INSTRUCTION_BYTES}
use Rattle.sls_base.specs.declared.fixed.TheConstants.{ROOT_GROUP, FIRST_OUTPUT_RING, INPUT_RING, FIRST_PROGRAM_OBJECT, FIRST_PROGRAM_PAGE}
use Rattle.sls_base.specs.declared.rights.TheConstants.{ALL_RIGHTS, EXECUTE, REGION_RIGHTS}
use Rattle.sls_base.specs.declared.thread.ThreadState.TheVariants.{Ready}
use Rattle.sls_base.specs.declared.image.Image.{Image}
use Rattle.sls_base.specs.declared.image.Program.{Program}
use Rattle.sls_base.specs.declared.image.RegionSpec.{RegionSpec}
use Rattle.plain_state.specs.declared.calls.TheConstants.{FIRST_ARGUMENT}
use Rattle.plain_model.specs.declared.image.TheConstants.{PROGRAMS, PROGRAM_THREADS, PROGRAM_REGIONS}
use Rattle.plain_state.specs.declared.objects.Capability.{Capability}
use Rattle.plain_state.specs.declared.objects.Region.{Region}
use Rattle.plain_state.specs.Objects.{Object, Group, Thread, Space, Memory, OutputRing, InputRing, Scheduler, Page, empty_slots, includes, is_thread, inserted}
use Rattle.plain_state.specs.States.{State, zero_registers}
use Rattle.plain_state.specs.Worlds.{World}

-- Numbers: a program has its group, its space, a memory object for each region and its threads, in this order, and each region
-- has its pages.

abbrev pub program_size : Program → ℕ
program_size p = 2 + length p.regions.items + p.threads

abbrev pub pages_taken : RegionSpec → ℕ
pages_taken spec = spec.pages

abbrev pub program_pages : Program → ℕ
program_pages p = sum_by pages_taken p.regions.items

-- One program, from object number n and page number k on.

-- capabilities with empty slots behind them
abbrev pub slots_with : List (Option Capability) → List (Option Capability)
slots_with caps = take GROUP_SLOTS (caps ++ empty_slots)

abbrev pub all_rights : ℕ → Option Capability
all_rights object = Some (record { object = object; rights = ALL_RIGHTS })

-- a capability that is there where a bit of the program's channels is set: a bit for each output channel, one for the input
-- and one for the root group, in this order
abbrev pub if_set : Program → ℕ → ℕ → Option Capability
if_set p bit object = if includes p.channels (2 ^ bit) then all_rights object else None

-- itself, its space, its channels, the root group, its memory objects and its threads
abbrev pub program_caps : Program → ℕ → List (Option Capability)
program_caps p n =
    all_rights n ∷ all_rights (n + 1)
    ∷ map (λ channel. if_set p channel (FIRST_OUTPUT_RING + channel)) (range_with_len 0 OUTPUT_CHANNELS)
    ++ if_set p OUTPUT_CHANNELS INPUT_RING ∷ if_set p (OUTPUT_CHANNELS + 1) ROOT_GROUP
    ∷ map all_rights (range_with_len (n + 2) (length p.regions.items + p.threads))

-- a region over a memory object, from its first page on
abbrev pub region_over : RegionSpec → ℕ → Region
region_over spec n = record {
  base = spec.base / PAGE_BYTES;
  count = spec.pages;
  first = 0;
  memory = n;
  rights = spec.rights;
}

-- the regions by rising base; their memory objects are numbered from n on
abbrev pub program_regions : List RegionSpec → ℕ → List Region
program_regions [] n = []
program_regions (spec ∷ specs) n = inserted (region_over spec n) (program_regions specs (n + 1))

-- page j of a region's content, with zeros behind the content
abbrev pub page_of_content : List ℕ → ℕ → ℕ → Page
page_of_content content k j =
    record { number = k + j; byte = slice_index (take PAGE_BYTES (drop (PAGE_BYTES * j) content)) }

abbrev pub memory_of : RegionSpec → ℕ → Object
memory_of spec k = Memory (map (page_of_content spec.content.items k) (range_with_len 0 spec.pages))

abbrev pub program_memories : List RegionSpec → ℕ → List Object
program_memories [] k = []
program_memories (spec ∷ specs) k = memory_of spec k ∷ program_memories specs (k + pages_taken spec)

-- thread j begins at the entry with its first argument j
abbrev pub program_thread : Program → ℕ → ℕ → Object
program_thread p n j =
    Thread (record {
      group = n;
      space = n + 1;
      state = Ready;
      pc = p.entry;
      x = slice_set zero_registers FIRST_ARGUMENT j;
    })

abbrev pub program_objects : Program → ℕ → ℕ → List Object
program_objects p n k =
    Group (slots_with (program_caps p n)) ∷ Space (program_regions p.regions.items (n + 2))
    ∷ program_memories p.regions.items k ++ map (program_thread p n) (range_with_len 0 p.threads)

-- All programs, one after another.

abbrev pub programs_objects : List Program → ℕ → ℕ → List Object
programs_objects [] n k = []
programs_objects (p ∷ ps) n k = program_objects p n k ++ programs_objects ps (n + program_size p) (k + program_pages p)

abbrev pub group_numbers : List Program → ℕ → List ℕ
group_numbers [] n = []
group_numbers (p ∷ ps) n = n ∷ group_numbers ps (n + program_size p)

-- the root group has the programs' groups, in order
abbrev pub root_group : List Program → Object
root_group ps = Group (slots_with (map all_rights (group_numbers ps FIRST_PROGRAM_OBJECT)))

-- the objects in order of number
unfoldable pub image_objects : List Program → List Object
image_objects ps =
    root_group ps ∷ Scheduler ∷ map OutputRing (range_with_len 0 OUTPUT_CHANNELS) ++ InputRing
    ∷ programs_objects ps FIRST_PROGRAM_OBJECT FIRST_PROGRAM_PAGE

-- the threads stand in the run queue in order of number
abbrev pub thread_numbers : List Object → List ℕ
thread_numbers objects = filter (λ i. is_thread (slice_get objects i)) (range_with_len 0 (length objects))

abbrev pub initial : Image → ℕ → State
initial image cores = record {
  objects = slice_get (image_objects image.programs.items);
  queue = thread_numbers (image_objects image.programs.items);
  cores = replicate cores None;
  out = λ channel. [];
  inputs = [];
}

-- The first world: the running state and the saved copy are the initial one, and nothing else has been.
abbrev pub first_world : Image → ℕ → World
first_world image cores = record {
  now = initial image cores;
  saved = initial image cores;
  released = λ channel. [];
  base = λ channel. 0;
  version = 0;
  stored = λ page. false;
  changed = λ i. false;
}

-- Which images are accepted.

-- two regions of a program have no address in common
abbrev pub IsApart : RegionSpec → RegionSpec → Type 0
IsApart a b = (a.base + PAGE_BYTES * a.pages ≤ b.base) ⊎ (b.base + PAGE_BYTES * b.pages ≤ a.base)

pub record IsRegion (spec : RegionSpec) : Type 0 where
  pub base : spec.base % PAGE_BYTES ≡ 0
  pub some_page : 1 ≤ spec.pages
  pub pages : spec.pages ≤ MEMORY_PAGES
  pub end : spec.base + PAGE_BYTES * spec.pages ≤ 2 ^ 32
  pub some_right : 1 ≤ spec.rights
  pub rights : spec.rights ≤ REGION_RIGHTS
  pub content : length spec.content.items ≤ PAGE_BYTES * spec.pages

-- the entry is in a region from which instructions may be fetched
pub record IsEntered (p : Program) (spec : RegionSpec) : Type 0 where
  pub executes : includes spec.rights EXECUTE ≡ true
  pub from : spec.base ≤ p.entry
  pub below : p.entry < spec.base + PAGE_BYTES * spec.pages

pub record IsProgram (p : Program) : Type 0 where
  pub some_thread : 1 ≤ p.threads
  pub threads : p.threads ≤ PROGRAM_THREADS
  pub some_region : 1 ≤ length p.regions.items
  pub regions : length p.regions.items ≤ PROGRAM_REGIONS
  pub each_region : All IsRegion p.regions.items
  pub apart : AllPairs IsApart p.regions.items
  pub channels : p.channels < 2 ^ (OUTPUT_CHANNELS + 2)
  pub entry : p.entry % INSTRUCTION_BYTES ≡ 0
  pub entered : Any (IsEntered p) p.regions.items

pub record IsAccepted (image : Image) : Type 0 where
  pub some_program : 1 ≤ length image.programs.items
  pub programs : length image.programs.items ≤ PROGRAMS
  pub each_program : All IsProgram image.programs.items
  pub objects : FIRST_PROGRAM_OBJECT + sum_by program_size image.programs.items ≤ OBJECTS
  pub pages : FIRST_PROGRAM_PAGE + sum_by program_pages image.programs.items ≤ PAGES
