-- Which state of the plain machine is saved: the one that the parts of a version are.
use Rattle.std.specs.Prelude.{◌≡◌, ℕ, ◌+◌, ◌/◌, ◌%◌, ◌<◌, ◌≤◌, ◌&&◌, nat_lt, if◌then◌else◌, List, [], length, Option, Some, None, is_some, slice_index_or}
use Rattle.sls_base.specs.declared.limits.TheConstants.{OBJECTS, OUTPUT_CHANNELS, PAGES, PAGE_BYTES, RING_ENTRIES, VERSION_AT}
use Rattle.sls_base.specs.declared.fixed.TheConstants.{FIRST_OUTPUT_RING}
use Rattle.sls_base.specs.declared.thread.Ring.{Ring}
use Rattle.pmem_layout.specs.declared.number.Number.TheVariants.{Object, Page}
use Rattle.pmem_layout.specs.Numbers.{index_of}
use Rattle.page_store.specs.Shows.{words_of}
use Rattle.durable_state.specs.Parts.{Parts, PartsStand}
use Rattle.plain_model.specs.Objects.{page_of_channel}
use Rattle.plain_model.specs.States.{State}
use Rattle.plain_model.specs.Worlds.{has_page}
use Rattle.plain_model.specs.Sweep.{swept}
use Rattle.kobj_table.specs.Objects.{Rest}
use Rattle.kobj_codec.specs.declared.obj.Obj.{Obj}
use Rattle.kobj_codec.specs.declared.obj.Obj.TheVariants as objs
use Rattle.object_records.specs.Records.{state_of_records}
use Rattle.object_records.specs.Ranges.{IsSoundState}
use Rattle.object_records.specs.Pages.{is_content}
use Rattle.call_readings.specs.declared.content.TheConstants.{WORD_BYTES}
use Rattle.call_readings.specs.Content.{byte_of}
use Rattle.out_gate.specs.Entries.{HasEntry}

-- Pages.

-- the bytes of pages, by the words of each that has content; there are none behind a page's end, nor past the last page
abbrev pub content_of : (ℕ → Option (ℕ → ℕ)) → ℕ → ℕ → ℕ
content_of pages page offset =
    if nat_lt page PAGES && nat_lt offset PAGE_BYTES
    then byte_of (words_of (pages page) (offset / WORD_BYTES)) (offset % WORD_BYTES)
    else 0

-- Words are told of the pages on which records have content, and of no others.
pub record AreOfRecords (records : ℕ → Option Obj) (pages : ℕ → Option (ℕ → ℕ)) : Type 0 where
  pub each : (page : ℕ) → page < PAGES → is_some (pages page) ≡ is_content records page
  pub past : (page : ℕ) → PAGES ≤ page → pages page ≡ None

-- Rings.

-- An output ring has its channel and its page. It counts the entries that were put, of which the device had accepted
-- `base` when the play began, and by now `accepted`. Each that it hasn't accepted stands on the page.
pub record IsRing (channel base accepted : ℕ) (byte : ℕ → ℕ) (out : List (List ℕ)) (ring : Ring) : Type 0 where
  pub channel_is : ring.channel ≡ channel
  pub page : ring.page ≡ page_of_channel channel
  pub count : ring.count ≡ base + length out
  pub begun : base ≤ accepted
  pub put : accepted ≤ ring.count
  pub room : ring.count ≤ accepted + RING_ENTRIES
  pub entries : (i : ℕ) → accepted ≤ base + i → i < length out → HasEntry byte (base + i) (slice_index_or out i [])

-- a number has such a ring
abbrev pub HasRing : ℕ → ℕ → ℕ → (ℕ → ℕ) → List (List ℕ) → Option Obj → Type 0
HasRing channel base accepted byte out told =
    (ring : Ring) × (told ≡ Some (objs.Ring ring)) × IsRing channel base accepted byte out ring

-- States.

-- what of a state doesn't stand in records, where pages have these words
abbrev pub rest_of : (ℕ → Option (ℕ → ℕ)) → State → Rest
rest_of pages s = record { content = content_of pages; out = s.out; inputs = s.inputs }

-- The parts of a version are a state: it is what the records stand for, sound and swept; the numbers in use are those
-- of its objects and of their pages; and of each channel the entries stand that the device hasn't accepted. No word of
-- the memory is named, and no input.
pub record ArePartsOf (base accepted : ℕ → ℕ) (p : Parts) (s : State) : Type 0 where
  pub state : s ≡ state_of_records p.objects (rest_of p.pages s)
  pub sound : IsSoundState s
  pub swept : swept s ≡ s
  pub cores : length s.cores ≡ p.cores
  pub none : (i : ℕ) → OBJECTS ≤ i → p.objects i ≡ None
  pub used_objects : (i : ℕ) → i < OBJECTS → p.numbers (index_of (Object i)) ≡ is_some (p.objects i)
  pub used_pages : (page : ℕ) → page < PAGES → p.numbers (index_of (Page page)) ≡ has_page s page
  pub pages : AreOfRecords p.objects p.pages
  pub rings : (channel : ℕ) → channel < OUTPUT_CHANNELS
      → HasRing channel (base channel) (accepted channel) (content_of p.pages (page_of_channel channel)) (s.out channel)
      (p.objects (FIRST_OUTPUT_RING + channel))
  pub channels : (channel : ℕ) → OUTPUT_CHANNELS ≤ channel → s.out channel ≡ []

-- Durable words read at a version are a state.
pub record ReadsAs (words : ℕ → ℕ) (version : ℕ) (base accepted : ℕ → ℕ) (s : State) : Type 0 where
  pub parts : Parts
  pub stand : PartsStand words version parts
  pub are : ArePartsOf base accepted parts s

-- They stand for the state that they are at the version in the version word.
abbrev pub Stands : (ℕ → ℕ) → (ℕ → ℕ) → (ℕ → ℕ) → State → Type 0
Stands words base accepted s = ReadsAs words (words VERSION_AT) base accepted s

-- Two states are the same but for inputs that wait and for entries that the device has accepted.
pub record SameReads (base accepted : ℕ → ℕ) (s t : State) : Type 0 where
  pub objects : (i : ℕ) → s.objects i ≡ t.objects i
  pub queue : s.queue ≡ t.queue
  pub cores : s.cores ≡ t.cores
  pub counts : (channel : ℕ) → length (s.out channel) ≡ length (t.out channel)
  pub entries : (channel i : ℕ) → accepted channel ≤ base channel + i
      → slice_index_or (s.out channel) i [] ≡ slice_index_or (t.out channel) i []
