-- What an instruction of a thread comes to.
use Rattle.std.specs.Prelude.{◌≡◌, ℕ, Bool, true, false, if◌then◌else◌, List, drop, Option, Some, None, option_map}
use Rattle.std.proofs.Common.{refl, ap, sym, subst, ◌∙◌}
use Rattle.sls_base.specs.declared.limits.TheConstants.{INSTRUCTION_BYTES}
use Rattle.sls_base.specs.declared.rights.TheConstants.{READ, EXECUTE}
use Rattle.sls_base.specs.declared.causes.TheConstants.{NO_ACCESS}
use Rattle.sls_base.specs.declared.thread.Thread.{Thread as ThreadRecord}
use Rattle.rv_table.specs.Decoded.{decoded}
use Rattle.rv_core.specs.Effect.{effect, size_of}
use Rattle.rv_core.specs.declared.registers.Regs.{Regs}
use Rattle.pmem_model.specs.Memory.{Memory}
use Rattle.plain_state.specs.declared.calls.Call.{Call}
use Rattle.plain_state.specs.declared.calls.Call.TheVariants as calls
use Rattle.plain_state.specs.declared.effect.ByteStore.{ByteStore}
use Rattle.plain_state.specs.declared.effect.Output.{Output}
use Rattle.plain_state.specs.declared.effect.Place.{Place}
use Rattle.plain_state.specs.States.{State}
use Rattle.plain_state.specs.Worlds.{World}
use Rattle.plain_state.specs.Memory.{is_covered, with_stores}
use Rattle.plain_state.specs.Effects.{Effect, answers, goes_on, stops, regs_of}
use Rattle.plain_state.specs.Instructions.{seen_by, fetched, value_at, with_fetch, obeyed, load_effect, instruction}
use Rattle.plain_state.specs.Ticks.{with_changes, with_output}
use Rattle.sls_base.specs.declared.thread.Ring.{Ring}
use Rattle.kobj_table.specs.declared.slot.Slot.{Slot}
use Rattle.kobj_table.specs.Objects.{Rest, slot_at, object_at, state_of}
use Rattle.call_readings.specs.declared.devices.Devices.{Devices}
use Rattle.call_readings.specs.Content.{number_seen}
use Rattle.call_readings.specs.Kernel.{world_of, IsCounted}
use Rattle.kernel_calls.specs.declared.runtime.Runtime.{Runtime}
use Rattle.kernel_calls.specs.declared.done.Done.{Done}
use Rattle.kernel_calls.specs.Callers.{moves_bytes}
use Rattle.kernel_calls.specs.Does.{Does, Obeys, Tells}
use Rattle.kernel_calls.specs.Instructions.{plan_of, Finds}
use Rattle.kernel_calls.proofs.Entries.{entries_kept, ring_kept}
use Rattle.kernel_calls.proofs.Frames.{unchanged}

-- a thread that stops changes nothing else
pub stopped : {k : Runtime} {rest : Rest} {w : World} {done : Done} → (thread : ThreadRecord) (cause : ℕ) → Tells done (stops thread cause)
    → IsCounted k.numbers (world_of k.objects rest w) → Does k k rest w (stops thread cause) done
stopped thread cause tells h = unchanged refl refl tells h (record { stores = refl; output = refl; takes = refl })

loaded_if : {k : Runtime} {rest : Rest} {w : World} {done : Done} → (covered : Bool) (regs : Regs) (places : List Place) (thread : ThreadRecord)
    → Tells done (if covered then record (goes_on regs) { loads = places } else stops thread NO_ACCESS)
    → IsCounted k.numbers (world_of k.objects rest w)
    → Does k k rest w (if covered then record (goes_on regs) { loads = places } else stops thread NO_ACCESS) done
loaded_if true regs places thread tells h = unchanged refl refl tells h (record { stores = refl; output = refl; takes = refl })
loaded_if false regs places thread tells h = stopped thread NO_ACCESS tells h

-- a load changes nothing else
pub loaded : {k : Runtime} {rest : Rest} {w : World} {done : Done} → (s : State) (thread : ThreadRecord) (op rd at : ℕ)
    → Tells done (load_effect s thread op rd at) → IsCounted k.numbers (world_of k.objects rest w)
    → Does k k rest w (load_effect s thread op rd at) done
loaded s thread op rd at tells h = loaded_if (is_covered (seen_by s thread) READ at (size_of op)) _ _ thread tells h

-- what stores nothing, puts no entry and takes no input leaves what doesn't stand in the objects as it was
pub obeyed_quietly : (k n : Runtime) (devices : Devices) (input : List ℕ) (m : Memory) (rest : Rest) (w : World) (e : Effect) (done : Done) → Finds k devices input m rest w
    → Does k n rest w e done → ((id : ℕ) (ring : Ring) → slot_at n.objects id ≡ Slot.Ring ring → slot_at k.objects id ≡ Slot.Ring ring)
    → (after : Rest) × Obeys k n rest after m w e done
unfolding world_of state_of
obeyed_quietly k n devices input m rest w e done finds d rings = (
  rest,
  record {
    objects = λ i. d.objects i ∙ sym (ap (λ (s : List ByteStore). with_changes (with_stores (object_at rest.content k.objects) s) e.changes i) d.quiet.stores);
    queue = d.queue;
    scheduler = d.scheduler;
    out = sym (ap (λ (o : Option Output). with_output rest.out o) d.quiet.output);
    inputs = sym (ap (λ (b : Bool). if b then drop 1 rest.inputs else rest.inputs) d.quiet.takes);
    counted = d.counted;
    rings = λ id. ring_kept (slot_at n.objects id) (slot_at k.objects id) (world_of n.objects rest w) (rings id)
        (entries_kept (slot_at k.objects id) (world_of n.objects rest w) (world_of k.objects rest w) (λ channel. refl) (finds.found.attached.rings id));
    content = finds.found.content;
    entries = finds.entries;
    caller = d.caller;
  },
)

-- what is answered changes nothing else
pub answered_alone : (k : Runtime) (devices : Devices) (input : List ℕ) (m : Memory) (rest : Rest) (w : World) (thread : ThreadRecord) (given answer : ℕ) (done : Done) → Finds k devices input m rest w
    → Tells done (answers thread given) → given ≡ answer → (after : Rest) × Obeys k k rest after m w (answers thread answer) done
answered_alone k devices input m rest w thread given answer done finds tells same =
    subst (λ (n : ℕ). (after : Rest) × Obeys k k rest after m w (answers thread n) done) same
    (obeyed_quietly k k devices input m rest w (answers thread given) done finds (unchanged refl refl tells finds.found.counted (record { stores = refl; output = refl; takes = refl })) (λ id ring is. is))

-- other calls than put and get move no bytes
pub moves_none : (call : Call) → (call ≡ calls.Put → ⊥) → (call ≡ calls.Get → ⊥) → moves_bytes (Some call) ≡ false
moves_none calls.Put put get = absurd (put refl)
moves_none calls.Get put get = absurd (get refl)
moves_none calls.Yield put get = refl
moves_none calls.Halt put get = refl
moves_none calls.MemNew put get = refl
moves_none calls.Map put get = refl
moves_none calls.Unmap put get = refl
moves_none calls.SpaceNew put get = refl
moves_none calls.GroupNew put get = refl
moves_none calls.CapCopy put get = refl
moves_none calls.CapDrop put get = refl
moves_none calls.ThreadNew put get = refl
moves_none calls.NoteNew put get = refl
moves_none calls.Signal put get = refl
moves_none calls.Wait put get = refl
moves_none calls.ConnNew put get = refl
moves_none calls.ConnCall put get = refl
moves_none calls.Serve put get = refl
moves_none calls.Checkpoint put get = refl

-- that an effect has fetched its instruction changes nothing
pub with_places : {k n : Runtime} {rest : Rest} {m : Memory} {w : World} {e : Effect} {done : Done} → (places : List Place)
    → ((after : Rest) × Obeys k n rest after m w e done) → (after : Rest) × Obeys k n rest after m w (with_fetch places e) done
with_places places d = (
  d.0,
  record {
    objects = d.1.objects;
    queue = d.1.queue;
    scheduler = d.1.scheduler;
    out = d.1.out;
    inputs = d.1.inputs;
    counted = d.1.counted;
    rings = d.1.rings;
    content = d.1.content;
    entries = d.1.entries;
    caller = record { regs = d.1.caller.regs; goes = d.1.caller.goes; takes = d.1.caller.takes; wishes = d.1.caller.wishes };
  },
)

-- The word at the pc.

seen_none : (covered : Bool) (number : ℕ) → None ≡ (if covered then Some number else None) → covered ≡ false
seen_none true number e = absurd (cc)
seen_none false number e = refl

seen_some : (covered : Bool) (number word : ℕ) → Some word ≡ (if covered then Some number else None) → (covered ≡ true) × (number ≡ word)
seen_some true number word e = (refl, cc)
seen_some false number word e = absurd (cc)

abbrev pub word_seen : State → ThreadRecord → Option ℕ
word_seen s thread = number_seen s.objects (seen_by s thread) EXECUTE thread.pc INSTRUCTION_BYTES

pub nothing_fetched : (w : World) (id : ℕ) (thread : ThreadRecord) → None ≡ word_seen w.now thread → instruction w id thread ≡ stops thread NO_ACCESS
unfolding instruction
nothing_fetched w id thread e = rw (seen_none (is_covered (seen_by w.now thread) EXECUTE thread.pc INSTRUCTION_BYTES) _ e) refl

pub word_fetched : (w : World) (id : ℕ) (thread : ThreadRecord) (word : ℕ) → Some word ≡ word_seen w.now thread
    → instruction w id thread ≡ with_fetch (fetched w.now thread) (obeyed w id thread (decoded word))
unfolding instruction
word_fetched w id thread word e =
    let seen = seen_some (is_covered (seen_by w.now thread) EXECUTE thread.pc INSTRUCTION_BYTES) (value_at w.now (fetched w.now thread)) word e in
    rw seen.0 (ap (λ (n : ℕ). with_fetch (fetched w.now thread) (obeyed w id thread (decoded n))) seen.1)

pub plan_fetched : (s : State) (thread : ThreadRecord) (word : ℕ) → Some word ≡ word_seen s thread
    → plan_of s thread ≡ option_map (λ instr. effect instr (regs_of thread)) (decoded word)
plan_fetched s thread word e =
    let seen = seen_some (is_covered (seen_by s thread) EXECUTE thread.pc INSTRUCTION_BYTES) (value_at s (fetched s thread)) word e in
    rw seen.0 (ap (λ (n : ℕ). option_map (λ instr. effect instr (regs_of thread)) (decoded n)) seen.1)
