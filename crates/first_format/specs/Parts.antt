-- The parts of the first version: what an image begins with, as the rooms of the memory say it.
use Rattle.std.specs.Prelude.{ℕ, ◌-◌, ◌*◌, ◌==◌, Bool, true, false, if◌then◌else◌, length, map, nat_lt, replicate, Option, Some, None, option_map, is_some, slice_index}
use Rattle.std.specs.List.{range_with_len}
use Rattle.std.specs.Int.{w64, from_le_bytes}
use Rattle.sls_base.specs.declared.limits.TheConstants.{CORES, OBJECTS, OUTPUT_CHANNELS}
use Rattle.sls_base.specs.declared.image.Image.{Image}
use Rattle.cap_group.specs.declared.cap.Cap.{Cap}
use Rattle.mem_space.specs.declared.region.Region.{Region}
use Rattle.mem_space.specs.declared.memory.MemPage.{MemPage}
use Rattle.plain_state.specs.declared.objects.Capability.{Capability}
use Rattle.plain_state.specs.declared.objects.Region.{Region as PlainRegion}
use Rattle.plain_model.specs.Objects as plain
use Rattle.plain_model.specs.Objects.{Object, Page, page_of_channel}
use Rattle.plain_model.specs.Worlds.{has_page}
use Rattle.plain_model.specs.Initial.{initial}
use Rattle.kobj_codec.specs.declared.obj.Obj.{Obj}
use Rattle.kobj_codec.specs.declared.obj.Obj.TheVariants as objs
use Rattle.object_records.specs.Records.{listed}
use Rattle.call_readings.specs.declared.content.TheConstants.{WORD_BYTES}
use Rattle.durable_state.specs.Parts.{Parts}
use Rattle.first_state.specs.Content.{content_on}

-- Records.

-- nothing of the image stands on a page
abbrev pub is_fresh : Image → ℕ → Bool
is_fresh image page = length (content_on image page) == 0

abbrev pub cap_of : Capability → Cap
cap_of cap = record { object = cap.object; rights = cap.rights }

abbrev pub region_of : PlainRegion → Region
region_of r = record { base = r.base; count = r.count; first = r.first; memory = r.memory; rights = r.rights }

abbrev pub mem_page_of : Image → Page → MemPage
mem_page_of image page = record { page = page.number; fresh = is_fresh image page.number }

-- The record of an object of the image: nothing has been put, so an output ring counts nothing and its page is fresh,
-- and nothing runs on the cores.
abbrev pub record_of_object : Image → ℕ → Object → Obj
record_of_object image cores (plain.Group slots) = objs.Group (record { slots = map (option_map cap_of) slots })
record_of_object image cores (plain.Thread thread) = objs.Thread thread
record_of_object image cores (plain.Space regions) =
    objs.Space (record { regions = record { items = map region_of regions } })
record_of_object image cores (plain.Memory pages) =
    objs.Memory (record { pages = record { items = map (mem_page_of image) pages } })
record_of_object image cores (plain.Connection server client clients) =
    objs.Connection (record { server = server; client = client; clients = listed clients })
record_of_object image cores (plain.Notification count waiters) =
    objs.Notification (record { count = count; waiters = listed waiters })
record_of_object image cores (plain.OutputRing channel) =
    objs.Ring (record { channel = channel; fresh = true; count = 0; page = page_of_channel channel })
record_of_object image cores plain.InputRing =
    objs.Ring (record { channel = OUTPUT_CHANNELS; fresh = false; count = 0; page = 0 })
record_of_object image cores plain.Scheduler =
    objs.Scheduler (record {
      cores = cores;
      running = replicate CORES None;
      queue = listed (initial image cores).queue;
    })

-- The parts.

-- the numbers in use: those of the first state's objects, and behind them those of their pages
unfoldable pub first_numbers : Image → ℕ → ℕ → Bool
first_numbers image cores n =
    if nat_lt n OBJECTS then is_some ((initial image cores).objects n) else has_page (initial image cores) (n - OBJECTS)

-- the records of its objects
unfoldable pub first_records : Image → ℕ → ℕ → Option Obj
first_records image cores i = option_map (record_of_object image cores) ((initial image cores).objects i)

-- word j of a page, by the bytes of the image that stand there
unfoldable pub page_word : Image → ℕ → ℕ → ℕ
page_word image page j =
    from_le_bytes w64 (map (slice_index (content_on image page)) (range_with_len (WORD_BYTES * j) WORD_BYTES))

-- the words of the pages on which something of the image stands
unfoldable pub first_pages : Image → ℕ → Option (ℕ → ℕ)
first_pages image page = if is_fresh image page then None else Some (page_word image page)

abbrev pub first_parts : Image → ℕ → Parts
first_parts image cores = record {
  cores = cores;
  numbers = first_numbers image cores;
  objects = first_records image cores;
  pages = first_pages image;
}
