-- The kernel's values stay a world's where the pages that aren't fresh read as they did.
use Rattle.std.specs.Prelude.{◌≡◌, ℕ, ◌+◌, ◌<◌, ◌≤◌, ◌==◌, true, false, List, [], length, Contains, Option, Some, None, slice_index_or}
use Rattle.std.specs.List.{list_any}
use Rattle.std.proofs.Common.{refl, ap, sym, subst, ◌∙◌, arith, inl, inr}
use Rattle.std.proofs.lemmas.Bool.{cases_lt, eq-eqb}
use Rattle.std.proofs.lemmas.List.Folds.{list_any_at}
use mathlib.Core.Path.{fun_ext}
use Rattle.sls_base.specs.declared.limits.TheConstants.{FRAME_WORDS, OBJECTS, OUTPUT_CHANNELS, PAGES}
use Rattle.sls_base.specs.declared.fixed.TheConstants.{SCHEDULER}
use Rattle.sls_base.proofs.ListTests.{any_in, in_range}
use Rattle.pmem_model.specs.Memory.{Memory, word_at}
use Rattle.link_lists.specs.Lists.{list_at}
use Rattle.mem_space.specs.declared.memory.MemPage.{MemPage}
use Rattle.plain_state.specs.Objects.{every_object, page_of_channel}
use Rattle.plain_state.specs.States.{State}
use Rattle.plain_state.specs.Worlds.{World}
use Rattle.kobj_codec.specs.declared.obj.Obj.{Obj}
use Rattle.kobj_table.specs.declared.objects.Objects.{Objects}
use Rattle.kobj_table.specs.declared.slot.Slot.{Slot}
use Rattle.kobj_table.specs.Objects.{Rest, slot_at, state_of}
use Rattle.kobj_table.specs.Slots.{is_scheduler, object_of}
use Rattle.object_records.specs.Pages.{has_content, has_content_in, is_content}
use Rattle.object_records.specs.Records.{ReadsPage, record_at, record_of, SameBytes, state_of_records}
use Rattle.page_store.specs.Stages.{stage_of}
use Rattle.page_store.specs.declared.stage.PageStage.TheVariants.{Fresh}
use Rattle.out_gate.specs.Entries.{HasEntry}
use Rattle.kernel_calls.specs.Kernel.{Holds}
use Rattle.core_turns.specs.declared.running.Running.{Running}
use Rattle.core_turns.specs.Runs.{objects_of, Runs}
use Rattle.core_turns.proofs.Content.{content_at, reads_now, reads_same, same_bytes, words_in}
use Rattle.core_turns.proofs.Marking.{has_it}

-- A page that a record reads has content.

read_one : (page : ℕ) → has_it page (record { page = page; fresh = false }) ≡ true
read_one page = (let same : (page == page) ≡ true = eq-eqb page page refl in rw same refl)

read_in : (page : ℕ) (items : List MemPage) → Contains items (record { page = page; fresh = false })
    → list_any (has_it page) items ≡ true
read_in page items at =
    list_any_at (has_it page) items at.0 (record { page = page; fresh = false }) at.1
    (ap (has_it page) at.2 ∙ read_one page)

not_in_none : (p : MemPage) → Contains [] p → ⊥
not_in_none p at = (let below = at.1 in omega (arith, below))

pub read_has_content : (obj : Obj) (page : ℕ) → ReadsPage obj page → has_content obj page ≡ true
read_has_content (Obj.Memory memory) page reads = read_in page memory.pages.items reads
read_has_content (Obj.Group group) page reads = absurd (not_in_none _ reads)
read_has_content (Obj.Thread thread) page reads = absurd (not_in_none _ reads)
read_has_content (Obj.Space space) page reads = absurd (not_in_none _ reads)
read_has_content (Obj.Connection c) page reads = absurd (not_in_none _ reads)
read_has_content (Obj.Notification note) page reads = absurd (not_in_none _ reads)
read_has_content (Obj.Ring ring) page reads = absurd (not_in_none _ reads)
read_has_content (Obj.Scheduler scheduler) page reads = absurd (not_in_none _ reads)

-- A number past the last has no record, where no object stands there.

no_record : (content : ℕ → ℕ → ℕ) (slot : Slot) (threads : List ℕ) → object_of content slot threads ≡ None
    → record_of slot threads ≡ None
no_record content Slot.Empty threads none = refl
no_record content (Slot.Group group) threads none = absurd (cc)
no_record content (Slot.Thread thread) threads none = absurd (cc)
no_record content (Slot.Space space) threads none = absurd (cc)
no_record content (Slot.Memory memory) threads none = absurd (cc)
no_record content (Slot.Connection c) threads none = absurd (cc)
no_record content (Slot.Notification note) threads none = absurd (cc)
no_record content (Slot.Ring ring) threads none = absurd (cc)
no_record content (Slot.Scheduler cores) threads none = absurd (cc)

module _ (k : Running) (accepted : List ℕ) (m : Memory) (w : World) (h : Runs k accepted m w) where
  records_in_range : (i : ℕ) (obj : Obj) → record_at (objects_of k) i ≡ Some obj → i < OBJECTS
  unfolding state_of
  records_in_range i obj is = elim (cases_lt i OBJECTS) [
    | inl below ↦ below
    | inr past ↦
        (let none : object_of h.rest.content (slot_at (objects_of k) i) (list_at (objects_of k).links i) ≡ None =
        ap (λ (s : State). s.objects i) (sym h.holds.now) ∙ h.holds.sound.in_range.0 i past in
        let no : Some obj ≡ None =
        sym is ∙ no_record h.rest.content (slot_at (objects_of k) i) (list_at (objects_of k).links i) none in
        absurd (cc))
  ]

  pub read_is_content : (i page : ℕ) (obj : Obj) → record_at (objects_of k) i ≡ Some obj → ReadsPage obj page
      → is_content (record_at (objects_of k)) page ≡ true
  unfolding is_content every_object
  read_is_content i page obj is reads =
      any_in (λ j. has_content_in (record_at (objects_of k) j) page) every_object i
      (in_range 0 OBJECTS i (omega arith) (let below = records_in_range i obj is in omega (arith, below)))
      (ap (λ (told : Option Obj). has_content_in told page) is ∙ read_has_content obj page reads)

  out_same : w.now.out ≡ h.rest.out
  unfolding state_of
  out_same = ap (λ (s : State). s.out) h.holds.now

  module _ (next : Memory)
      (words : (page : ℕ) → page < PAGES → (stage_of k.rooms.pages page ≡ Fresh → ⊥)
      → (j : ℕ) → j < FRAME_WORDS → words_in (word_at next) page j ≡ words_in (word_at m) page j) where
    -- what there is of the state beside the objects, with the bytes that the memory has now
    abbrev pub rest_now : Rest
    rest_now = record h.rest { content = content_at next }

    not_fresh : (page : ℕ) → page < PAGES → is_content (record_at (objects_of k)) page ≡ true
        → stage_of k.rooms.pages page ≡ Fresh → ⊥
    not_fresh page below is e = (let no : true ≡ false = sym is ∙ (h.fresh page below).0 e in cc)

    pub content_same : (page offset : ℕ) → is_content (record_at (objects_of k)) page ≡ true
        → content_at next page offset ≡ h.rest.content page offset
    content_same page offset is =
        same_bytes (words_in (word_at next) page) (words_in (word_at m) page) page offset
        (λ below j inside. words page below (not_fresh page below is) j inside)
        ∙ sym (reads_same h.rest.content m page offset h.holds.content h.home)

    read_same : (i : ℕ) (obj : Obj) → record_at (objects_of k) i ≡ Some obj
        → SameBytes h.rest.content (content_at next) obj
    read_same i obj is page offset reads = content_same page offset (read_is_content i page obj is reads)

    entries_stand : (channel i : ℕ) → channel < OUTPUT_CHANNELS → length (w.released channel) ≤ i
        → i < length (h.rest.out channel)
        → HasEntry (content_at next (page_of_channel channel)) (w.base channel + i)
        (slice_index_or (h.rest.out channel) i [])
    entries_stand channel i below from inside =
        let same : length (w.now.out channel) ≡ length (h.rest.out channel) =
        ap (λ (out : ℕ → List (List ℕ)). length (out channel)) out_same in
        let is = h.waiting channel below (omega (arith, from, inside, same)) in
        let bytes : content_at next (page_of_channel channel) ≡ h.rest.content (page_of_channel channel) =
        fun_ext (λ offset. content_same (page_of_channel channel) offset is) in
        subst (λ (byte : ℕ → ℕ). HasEntry byte (w.base channel + i) (slice_index_or (h.rest.out channel) i []))
        (sym bytes) (h.holds.entries channel i below from inside)

    module _
        (of_records : (o : Objects) (rest : Rest) → is_scheduler (slot_at o SCHEDULER) ≡ true
        → state_of o rest ≡ state_of_records (record_at o) rest)
        (zeros : (records : ℕ → Option Obj) (rest : Rest) (content : ℕ → ℕ → ℕ)
        → ((i : ℕ) (obj : Obj) → records i ≡ Some obj → SameBytes rest.content content obj)
        → state_of_records records (record rest { content = content }) ≡ state_of_records records rest) where
      state_same : state_of (objects_of k) rest_now ≡ state_of (objects_of k) h.rest
      state_same =
          of_records (objects_of k) rest_now h.holds.scheduler
          ∙ zeros (record_at (objects_of k)) h.rest (content_at next) read_same
          ∙ sym (of_records (objects_of k) h.rest h.holds.scheduler)

      pub still_held : Holds k.calls accepted next rest_now w
      still_held = record {
        now = h.holds.now ∙ sym state_same;
        sound = h.holds.sound;
        counted = h.holds.counted;
        attached = h.holds.attached;
        inputs = h.holds.inputs;
        content = reads_now next;
        entries = entries_stand;
        scheduler = h.holds.scheduler;
        strays = h.holds.strays;
      }
