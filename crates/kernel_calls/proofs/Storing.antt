-- What a store of a thread comes to.
use Rattle.std.specs.Prelude.{◌≡◌, ◌≢◌, ℕ, ◌+◌, ◌%◌, ◌<◌, ◌≤◌, Bool, true, false, if◌then◌else◌, List, [], ◌++◌, drop, Option, Some, None, option_map, is_some}
use Rattle.std.proofs.Common.{refl, ap, sym, ◌∙◌, arith, inl, inr}
use Rattle.std.proofs.lemmas.Bool.{ne_eqb}
use Rattle.sls_base.specs.declared.fixed.TheConstants.{FIRST_OUTPUT_RING}
use Rattle.sls_base.specs.declared.limits.TheConstants.{OUTPUT_CHANNELS, PAGE_BYTES}
use Rattle.sls_base.specs.declared.causes.TheConstants.{NO_ACCESS}
use Rattle.sls_base.specs.declared.rights.TheConstants.{WRITE}
use Rattle.sls_base.specs.declared.thread.Thread.{Thread as ThreadRecord}
use Rattle.link_lists.specs.Lists.{list_at}
use Rattle.ipc_note.specs.declared.lists.TheConstants.{RUN_QUEUE}
use Rattle.mem_space.specs.declared.memory.MemPage.{MemPage}
use Rattle.rv_table.specs.Table.{IsOneOf, store_ops}
use Rattle.rv_core.specs.Effect.{size_of}
use Rattle.rv_core.specs.declared.registers.Regs.{Regs}
use Rattle.pmem_model.specs.Memory.{Memory}
use Rattle.plain_state.specs.declared.effect.ByteStore.{ByteStore}
use Rattle.plain_state.specs.declared.effect.Output.{Output}
use Rattle.plain_state.specs.Objects.{OutputRing, page_of_channel}
use Rattle.plain_state.specs.States.{State}
use Rattle.plain_state.specs.Worlds.{World}
use Rattle.plain_state.specs.Memory.{is_covered, with_stores}
use Rattle.plain_state.specs.Effects.{Change, Effect, goes_on, stops}
use Rattle.plain_state.specs.Instructions.{seen_by, store_effect}
use Rattle.plain_state.specs.Ticks.{with_changes, with_output}
use Rattle.plain_laws.specs.Sound.{AreApart}
use Rattle.kobj_table.specs.declared.objects.Objects.{Objects}
use Rattle.kobj_table.specs.Objects.{Rest, slot_at, object_at, state_of}
use Rattle.call_readings.specs.declared.devices.Devices.{Devices}
use Rattle.call_readings.specs.Content.{Reads}
use Rattle.call_readings.specs.Kernel.{world_of}
use Rattle.page_bytes.specs.Bytes.{with_bytes, SeesPage}
use Rattle.out_gate.specs.Entries.{EntriesStand}
use Rattle.kernel_calls.specs.declared.runtime.Runtime.{Runtime}
use Rattle.kernel_calls.specs.declared.done.Done.{Done}
use Rattle.kernel_calls.specs.Does.{Obeys, Tells}
use Rattle.kernel_calls.specs.Instructions.{Finds, HasRings, KeepsRingPages, Stored}
use Rattle.kernel_calls.proofs.Contents.{counted_again, told_same}
use Rattle.kernel_calls.proofs.Entries.{entries_kept}
use Rattle.kernel_calls.proofs.Frames.{no_more}

-- an aligned store is on one page
pub sizes : (op at : ℕ) → IsOneOf op store_ops → at % size_of op ≡ 0 → (1 ≤ size_of op) × (at % PAGE_BYTES + size_of op ≤ PAGE_BYTES)
sizes op at (inl e) aligned = rw e (omega arith, omega arith)
sizes op at (inr (inl e)) aligned = let a : at % 2 ≡ 0 = rw e at aligned in rw e (omega arith, omega (arith, a))
sizes op at (inr (inr (inl e))) aligned = let a : at % 4 ≡ 0 = rw e at aligned in rw e (omega arith, omega (arith, a))
sizes op at (inr (inr (inr none))) aligned = absurd none

pub some_found : {A B C : Type 0} (f : B → C) (g : A → B) (found : Option A) (x : C) → Some x ≡ option_map f (option_map g found) → is_some found ≡ true
some_found f g (Some a) x e = refl
some_found f g None x e = absurd (cc)

pub none_found : {A B C : Type 0} (f : B → C) (g : A → B) (found : Option A) → None ≡ option_map f (option_map g found) → is_some found ≡ false
none_found f g (Some a) e = absurd (cc)
none_found f g None e = refl

pub number_found : {A B : Type 0} (f : B → ℕ) (g : A → B) (found : Option A) (x : B) → Some x ≡ option_map g found → option_map (λ a. f (g a)) found ≡ Some (f x)
number_found f g (Some a) x e = let same : x ≡ g a = cc in rw same refl
number_found f g None x e = absurd (cc)

module _ (o : Objects) (rest : Rest) (m : Memory) (regs : Regs) (stores : List ByteStore) (thread : ThreadRecord) where
  pub stored_if : (covered : Bool) → covered ≡ true → (content : ℕ → ℕ → ℕ) → Reads content m →
      state_of o (record rest { content = content }) ≡ record (state_of o rest) { objects = with_stores (state_of o rest).objects stores } → KeepsRingPages rest.content content →
      Stored o rest (if covered then record (goes_on regs) { stores = stores } else stops thread NO_ACCESS) m
  stored_if true is content reads state rings = record { content = content; reads = reads; state = state; rings = rings }
  stored_if false is content reads state rings = absurd (cc)

  pub kept_if : (covered : Bool) → covered ≡ false → Reads rest.content m →
      Stored o rest (if covered then record (goes_on regs) { stores = stores } else stops thread NO_ACCESS) m
  kept_if true is reads = absurd (cc)
  kept_if false is reads = record { content = rest.content; reads = reads; state = refl; rings = λ channel offset below. refl }

module _ (done : Done) (regs : Regs) (stores : List ByteStore) (thread : ThreadRecord) where
  pub goes_if : (covered : Bool) → covered ≡ true → Tells done (goes_on regs) →
      Tells done (if covered then record (goes_on regs) { stores = stores } else stops thread NO_ACCESS)
  goes_if true is tells = record { regs = tells.regs; goes = tells.goes; takes = tells.takes; wishes = tells.wishes }
  goes_if false is tells = absurd (cc)

  pub stops_if : (covered : Bool) → covered ≡ false → Tells done (stops thread NO_ACCESS) →
      Tells done (if covered then record (goes_on regs) { stores = stores } else stops thread NO_ACCESS)
  stops_if true is tells = absurd (cc)
  stops_if false is tells = tells

-- Of a store's effect all but this is nothing.
record StoresAlone (e : Effect) : Type 0 where
  changes : e.changes ≡ []
  wakes : e.wakes ≡ []
  output : e.output ≡ None
  takes : e.takes ≡ false

alone_if : (covered : Bool) (regs : Regs) (stores : List ByteStore) (thread : ThreadRecord) →
    StoresAlone (if covered then record (goes_on regs) { stores = stores } else stops thread NO_ACCESS)
alone_if true regs stores thread = record { changes = refl; wakes = refl; output = refl; takes = refl }
alone_if false regs stores thread = record { changes = refl; wakes = refl; output = refl; takes = refl }

store_alone : (s : State) (thread : ThreadRecord) (op at value : ℕ) → StoresAlone (store_effect s thread op at value)
store_alone s thread op at value = alone_if (is_covered (seen_by s thread) WRITE at (size_of op)) _ _ thread

-- the law that entries stand still where the pages of rings have the same bytes
abbrev pub StandStill : Type 0
StandStill = (first second : ℕ → ℕ → ℕ) (w : World) (out : ℕ → List (List ℕ)) → ((channel offset : ℕ) → channel < OUTPUT_CHANNELS → second (page_of_channel channel) offset ≡ first (page_of_channel channel) offset) →
    EntriesStand first w out → EntriesStand second w out

obeyed_alone : StandStill → (k : Runtime) (devices : Devices) (input : List ℕ) (old new : Memory) (rest : Rest) (w : World) (e : Effect) (done : Done) → StoresAlone e → Finds k devices input old rest w →
    Stored k.objects rest e new → Tells done e → (after : Rest) × Obeys k k rest after new w e done
unfolding world_of state_of
obeyed_alone law k devices input old new rest w e done alone finds stored tells = (
  record rest { content = stored.content },
  record {
    objects = λ i. ap (λ (s : State). s.objects i) stored.state
        ∙ sym (ap (λ (c : List Change). with_changes (with_stores (object_at rest.content k.objects) e.stores) c i) alone.changes);
    queue = sym (ap (λ (l : List ℕ). list_at k.objects.links RUN_QUEUE ++ l) alone.wakes ∙ no_more (list_at k.objects.links RUN_QUEUE));
    scheduler = refl;
    out = sym (ap (λ (o : Option Output). with_output rest.out o) alone.output);
    inputs = sym (ap (λ (b : Bool). if b then drop 1 rest.inputs else rest.inputs) alone.takes);
    counted = counted_again k.numbers k.objects k.objects rest (record rest { content = stored.content }) w (λ i. told_same stored.content rest.content k.objects i) finds.found.counted;
    rings = λ id. entries_kept (slot_at k.objects id) (world_of k.objects (record rest { content = stored.content }) w) (world_of k.objects rest w) (λ channel. refl) (finds.found.attached.rings id);
    content = stored.reads;
    entries = law rest.content stored.content w rest.out stored.rings finds.entries;
    caller = tells;
  },
)

-- a store changes nothing but the content of pages
pub store_obeyed : StandStill → (k : Runtime) (devices : Devices) (input : List ℕ) (old new : Memory) (rest : Rest) (w : World) (s : State) (thread : ThreadRecord) (op at value : ℕ) (done : Done) →
    Finds k devices input old rest w → Stored k.objects rest (store_effect s thread op at value) new → Tells done (store_effect s thread op at value) →
    (after : Rest) × Obeys k k rest after new w (store_effect s thread op at value) done
store_obeyed law k devices input old new rest w s thread op at value done finds stored tells =
    obeyed_alone law k devices input old new rest w (store_effect s thread op at value) done (store_alone s thread op at value) finds stored tells

-- Bytes on a page that a space shows are on the page of no ring.

abbrev pub RingsApart : Type 0
RingsApart = (objects : Objects) (rest : Rest) (space right at id channel : ℕ) (page : MemPage) → AreApart (state_of objects rest) → SeesPage objects space right at page → page.fresh ≡ false →
    object_at rest.content objects id ≡ Some (OutputRing channel) → page.page ≢ page_of_channel channel

pub rings_kept : RingsApart → (o : Objects) (rest : Rest) (space right at offset : ℕ) (page : MemPage) (bytes : List ℕ) → AreApart (state_of o rest) → HasRings o → SeesPage o space right at page → page.fresh ≡ false →
    KeepsRingPages rest.content (with_bytes rest.content page.page offset bytes)
rings_kept law o rest space right at offset page bytes apart rings sees stored channel k below =
    let other = law o rest space right at (FIRST_OUTPUT_RING + channel) channel page apart sees stored (rings rest.content channel below) in
    rw (ne_eqb (page_of_channel channel) page.page (λ same. other (sym same))) refl

-- each page is of one object alone whatever that is
pub apart_always : ((objects : Objects) (rest : Rest) (content : ℕ → ℕ → ℕ) → AreApart (state_of objects rest) → AreApart (state_of objects (record rest { content = content }))) →
    (o : Objects) (rest : Rest) → AreApart (state_of o rest) → (other : Rest) → AreApart (state_of o other)
unfolding state_of
apart_always law o rest apart other = let a = law o rest other.content apart in record { in_range = a.in_range; once = a.once; apart = a.apart }
