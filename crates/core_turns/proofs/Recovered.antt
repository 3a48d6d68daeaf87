-- What the rooms tell of objects and of pages, where nothing was stored since the committed version.
use Rattle.std.specs.Prelude.{◌≡◌, ℕ, suc, ◌+◌, ◌/◌, ◌%◌, ◌<◌, ◌≤◌, ◌&&◌, ◌||◌, nat_lt, Bool, true, false, if◌then◌else◌, List, [], ◌∷◌, map, All, Option, Some, None, IfSome}
use Rattle.std.proofs.Common.{refl, ap, sym, subst, ◌∙◌, arith, inl, inr}
use Rattle.std.proofs.lemmas.Bool.{cases_lt, lt-ltb, ltb-true, le-ltb}
use Rattle.std.proofs.Math.Bool.{or-false}
use Rattle.sls_base.specs.declared.limits.TheConstants.{FRAME_WORDS, OBJECTS, OUTPUT_CHANNELS, PAGE_BYTES, PAGES}
use Rattle.sls_base.specs.declared.thread.Ring.{Ring}
use Rattle.mem_space.specs.declared.memory.MemPage.{MemPage}
use Rattle.pmem_model.specs.Words.{Word}
use Rattle.pmem_model.specs.Memory.{Memory, word_at}
use Rattle.pmem_layout.specs.Places.{frame_at, runtime_frame}
use Rattle.kobj_codec.specs.declared.obj.Obj.{Obj}
use Rattle.kobj_codec.specs.Objects.{IsObj, IsPage}
use Rattle.kobj_table.specs.declared.slot.Slot.{Slot}
use Rattle.object_root.specs.declared.stage.Phase.{Phase as RootPhase}
use Rattle.object_root.specs.declared.stage.Phase.TheVariants.{Records}
use Rattle.object_root.specs.Room.{stage_at}
use Rattle.object_root.specs.Shows.{IsSaved, ObjectShows, ShowsIn}
use Rattle.object_records.specs.Records.{record_of}
use Rattle.page_store.specs.declared.stage.PageStage.{PageStage}
use Rattle.page_store.specs.declared.stage.PageStage.TheVariants as stages
use Rattle.page_store.specs.declared.stage.Origin.{Origin}
use Rattle.page_store.specs.declared.stage.Origin.TheVariants.{Zeros, Copy}
use Rattle.page_store.specs.declared.stage.Writes.TheVariants.{Nothing, Stored, Flushed}
use Rattle.page_store.specs.declared.stage.PageState.TheVariants.{Preparing}
use Rattle.page_store.specs.Stages.{stage_of, state_at, IsAsRecovered}
use Rattle.page_store.specs.Shows.{Has, Holds, words_of}
use Rattle.durable_state.specs.Parts.{Parts}
use Rattle.version_rooms.specs.declared.rooms.Rooms.{Rooms}
use Rattle.version_rooms.specs.Rest.{AreAtRest}
use Rattle.call_readings.specs.declared.content.TheConstants.{WORD_BYTES}
use Rattle.call_readings.specs.Content.{byte_of, Reads}
use Rattle.saved_state.specs.State.{content_of}
use Rattle.core_turns.specs.Marks.{is_zeroed, was_fresh, page_again, ring_again, slot_again}

-- Stages.

none_had : (now : Option (ℕ → ℕ)) (held : ℕ → ℕ) → now ≡ None → Has now held → ⊥
none_had now held none has = subst (λ (x : Option (ℕ → ℕ)). Has x held) none has

pub fresh_without : (stage : PageStage) (saved now : Option (ℕ → ℕ)) (held kept : ℕ → ℕ) (old v : ℕ)
    → IsAsRecovered stage → Holds stage saved now held kept old v → stage ≡ stages.Fresh → now ≡ None
fresh_without stages.Fresh saved now held kept old v is holds e = holds.1
fresh_without stages.Protected saved now held kept old v is holds e = absurd (cc)
fresh_without (stages.Preparing core next) saved now held kept old v is holds e = absurd is
fresh_without (stages.Writable origin writes) saved now held kept old v is holds e = absurd (cc)

pub without_fresh : (stage : PageStage) (saved now : Option (ℕ → ℕ)) (held kept : ℕ → ℕ) (old v : ℕ)
    → IsAsRecovered stage → Holds stage saved now held kept old v → now ≡ None → stage ≡ stages.Fresh
without_fresh stages.Fresh saved now held kept old v is holds none = refl
without_fresh stages.Protected saved now held kept old v is holds none = absurd (none_had now held none holds.as_now)
without_fresh (stages.Preparing core next) saved now held kept old v is holds none = absurd is
without_fresh (stages.Writable Copy Nothing) saved now held kept old v is holds none =
    absurd (none_had now held none holds.1.0)
without_fresh (stages.Writable Copy Stored) saved now held kept old v is holds none = absurd is
without_fresh (stages.Writable Copy Flushed) saved now held kept old v is holds none = absurd is
without_fresh (stages.Writable Zeros Nothing) saved now held kept old v is holds none = absurd is
without_fresh (stages.Writable Zeros Stored) saved now held kept old v is holds none = absurd is
without_fresh (stages.Writable Zeros Flushed) saved now held kept old v is holds none = absurd is

pub not_zeroed : (stage : PageStage) → IsAsRecovered stage → is_zeroed stage ≡ false
not_zeroed stages.Fresh is = refl
not_zeroed stages.Protected is = refl
not_zeroed (stages.Preparing core next) is = absurd is
not_zeroed (stages.Writable Copy writes) is = refl
not_zeroed (stages.Writable Zeros Nothing) is = absurd is
not_zeroed (stages.Writable Zeros Stored) is = absurd is
not_zeroed (stages.Writable Zeros Flushed) is = absurd is

pub not_stored : (stage : PageStage) (origin : Origin) → IsAsRecovered stage → stage ≡ stages.Writable origin Stored → ⊥
not_stored stage Zeros is e = subst IsAsRecovered e is
not_stored stage Copy is e = subst IsAsRecovered e is

pub not_preparing : (stage : PageStage) (core : ℕ) → IsAsRecovered stage → state_at stage ≡ Preparing core → ⊥
not_preparing stages.Fresh core is e = absurd (cc)
not_preparing stages.Protected core is e = absurd (cc)
not_preparing (stages.Preparing c next) core is e = is
not_preparing (stages.Writable origin writes) core is e = absurd (cc)

-- Marks are as they were where no page was zeroed.

module _ (r : Rooms) (stages_are : (page : ℕ) → page < PAGES → IsAsRecovered (stage_of r.pages page)) where
  none_zeroed : (page : ℕ) → page < PAGES → was_fresh r page ≡ false
  none_zeroed page below = not_zeroed (stage_of r.pages page) (stages_are page below)

  page_same : (p : MemPage) → IsPage p → page_again r p ≡ p
  page_same p below =
      ap (λ (fresh : Bool). record { page = p.page; fresh = fresh })
      (ap (λ (b : Bool). p.fresh || b) (none_zeroed p.page below) ∙ or-false p.fresh)

  pages_same : (pages : List MemPage) → All IsPage pages → map (page_again r) pages ≡ pages
  pages_same [] all = refl
  pages_same (p ∷ pages) all =
      let first : page_again r p ≡ p = page_same p (all 0 p (omega arith)) in
      let rest : map (page_again r) pages ≡ pages =
      pages_same pages (λ k d below. all (suc k) d (omega (arith, below))) in
      ap (λ (x : MemPage). x ∷ map (page_again r) pages) first ∙ ap (λ (l : List MemPage). p ∷ l) rest

  ring_same : (ring : Ring) → ring.page < PAGES → ring_again r ring ≡ ring
  ring_same ring below =
      ap (λ (fresh : Bool). record { channel = ring.channel; fresh = fresh; count = ring.count; page = ring.page })
      (ap (λ (b : Bool). ring.fresh || b && nat_lt ring.channel OUTPUT_CHANNELS) (none_zeroed ring.page below)
      ∙ or-false ring.fresh)

  pub slot_same : (slot : Slot) (threads : List ℕ) → IfSome (record_of slot threads) IsObj → slot_again r slot ≡ slot
  slot_same (Slot.Memory memory) threads is =
      ap (λ (items : List MemPage). Slot.Memory (record { pages = record { items = items } }))
      (pages_same memory.pages.items is.pages)
  slot_same (Slot.Ring ring) threads is = ap Slot.Ring (ring_same ring is.page)
  slot_same Slot.Empty threads is = refl
  slot_same (Slot.Group group) threads is = refl
  slot_same (Slot.Thread thread) threads is = refl
  slot_same (Slot.Space space) threads is = refl
  slot_same (Slot.Connection connection) threads is = refl
  slot_same (Slot.Notification note) threads is = refl
  slot_same (Slot.Scheduler cores) threads is = refl

-- The content of pages that a memory has.

abbrev pub held_by : Memory → ℕ → ℕ → ℕ
held_by m page offset =
    if nat_lt page PAGES && nat_lt offset PAGE_BYTES
    then byte_of (word_at m (frame_at (runtime_frame page) + offset / WORD_BYTES)).cached (offset % WORD_BYTES)
    else 0

past_end : (a b : Bool) (x : ℕ) → b ≡ false → (if a && b then x else 0) ≡ 0
past_end true b x e = rw e refl
past_end false b x e = refl

pub held_reads : (m : Memory) → Reads (held_by m) m
held_reads m = record {
  home = λ page offset below inside at_home. (
      let first = lt-ltb page PAGES below in
      let second = lt-ltb offset PAGE_BYTES inside in
      rw (first, second) refl
      );
  end = λ page offset past. past_end (nat_lt page PAGES) (nat_lt offset PAGE_BYTES) _ (le-ltb offset PAGE_BYTES past);
  none = λ page offset past. (let apart = le-ltb page PAGES past in rw apart refl);
}

same_where : (a b : Bool) (x y : ℕ) → (b ≡ true → x ≡ y) → (if a && b then x else 0) ≡ (if a && b then y else 0)
same_where true true x y same = same refl
same_where true false x y same = refl
same_where false b x y same = refl

module _ (m : Memory) (pages : ℕ → Option (ℕ → ℕ)) (page : ℕ) (content : ℕ → ℕ) (has : pages page ≡ Some content)
    (reads : (j : ℕ) → j < FRAME_WORDS → (word_at m (frame_at (runtime_frame page) + j)).cached ≡ content j) where
  pub held_same : (offset : ℕ) → held_by m page offset ≡ content_of pages page offset
  held_same offset = same_where (nat_lt page PAGES) (nat_lt offset PAGE_BYTES) _ _ (λ inside.
      let below = ltb-true offset PAGE_BYTES inside in
      ap (λ (x : ℕ). byte_of x (offset % WORD_BYTES)) (reads (offset / WORD_BYTES) (omega (arith, below)))
      ∙ ap (λ (words : Option (ℕ → ℕ)). byte_of (words_of words (offset / WORD_BYTES)) (offset % WORD_BYTES)) (sym has))

-- The records that are saved are in range.

saved_is : (told : Option Obj) (old tag : ℕ) → IsSaved told old tag → IfSome told IsObj
saved_is None old tag is = tt
saved_is (Some obj) old tag is = is.0

none_is : (told : Option Obj) → told ≡ None → IfSome told IsObj
none_is told none = subst (λ (x : Option Obj). IfSome x IsObj) (sym none) tt

pub saved_in_range : (r : Rooms) (f : ℕ → Word) (v : ℕ) (p : Parts) (pages : ℕ → Option (ℕ → ℕ))
    → AreAtRest r f v p pages → ((i : ℕ) → OBJECTS ≤ i → p.objects i ≡ None) → (i : ℕ) → IfSome (p.objects i) IsObj
saved_in_range r f v p pages rest none i = elim (cases_lt i OBJECTS) [
  | inl below ↦
      let shows = (rest.shows (λ j. None)).keep.objects.shows in
      let each = subst (λ (phase : RootPhase). ShowsIn phase r.roots f v p.objects (λ j. None)) rest.records shows in
      let here : ObjectShows Records (stage_at r.roots i) f v i (p.objects i) None = each i below in
      saved_is (p.objects i) here.old here.tag here.saved_is
  | inr past ↦ none_is (p.objects i) (none i past)
]
