-- Threads that stand in a table, and what becomes of a caller.
use Rattle.std.specs.Prelude.{◌≡◌, ◌≢◌, ℕ, Bool, true, false, ◌==◌, List, [], Option, Some, None}
use Rattle.std.proofs.Common.{refl, ap, sym, ◌∙◌}
use Rattle.sls_base.specs.declared.limits.TheConstants.{OUTPUT_CHANNELS}
use Rattle.sls_base.specs.declared.thread.Thread.{Thread as ThreadRecord}
use Rattle.sls_base.specs.declared.thread.ThreadState.{ThreadState}
use Rattle.ipc_note.specs.Threads.{with_answer, with_values, with_state}
use Rattle.plain_state.specs.Objects as plain
use Rattle.plain_state.specs.Objects.{Object}
use Rattle.plain_state.specs.declared.effect.Goes.TheVariants.{On, Back, Asleep}
use Rattle.plain_state.specs.declared.effect.Goes.{Goes}
use Rattle.plain_state.specs.Effects.{Effect, Change, goes_on, next_pc, answers, waits}
use Rattle.plain_state.specs.Calls.{arg}
use Rattle.plain_state.specs.CallEffects.{handed}
use Rattle.plain_state.specs.Ticks.{at_slice_end}
use Rattle.plain_laws.specs.Places.{state_of as does}
use Rattle.kobj_table.specs.declared.slot.Slot.{Slot}
use Rattle.kobj_table.specs.Slots.{object_of, ring_of}
use Rattle.std.proofs.lemmas.Bool.{false≢true}
use Rattle.kobj_table.specs.declared.objects.Objects.{Objects}
use Rattle.kobj_table.specs.Objects.{slot_at}
use Rattle.kernel_calls.specs.Callers.{goes_in}
use Rattle.kernel_calls.specs.declared.done.Done.{Done}
use Rattle.kernel_calls.specs.Does.{Tells}
use Rattle.kernel_calls.proofs.Objects.{told}

-- a thread is there and has no pages
pub thread_told : (o : Option Object) (state : ThreadState) → does o ≡ Some state → told o ≡ (true, [])
thread_told None state e = absurd (cc)
thread_told (Some (plain.Thread thread)) state e = refl
thread_told (Some (plain.Group slots)) state e = absurd (cc)
thread_told (Some (plain.Space regions)) state e = absurd (cc)
thread_told (Some (plain.Memory pages)) state e = absurd (cc)
thread_told (Some (plain.Connection server client clients)) state e = absurd (cc)
thread_told (Some (plain.Notification count waiters)) state e = absurd (cc)
thread_told (Some (plain.OutputRing channel)) state e = absurd (cc)
thread_told (Some plain.InputRing) state e = absurd (cc)
thread_told (Some plain.Scheduler) state e = absurd (cc)

-- it stands in its slot
pub is_thread_slot : (content : ℕ → ℕ → ℕ) (slot : Slot) (threads : List ℕ) (state : ThreadState) → does (object_of content slot threads) ≡ Some state →
    (thread : ThreadRecord) × (slot ≡ Slot.Thread thread) × (thread.state ≡ state)
is_thread_slot content Slot.Empty threads state e = absurd (cc)
is_thread_slot content (Slot.Group group) threads state e = absurd (cc)
is_thread_slot content (Slot.Thread thread) threads state e = (thread, refl, same thread.state state e) where
  same : (a b : ThreadState) → Some a ≡ Some b → a ≡ b
  same a b e = cc
is_thread_slot content (Slot.Space space) threads state e = absurd (cc)
is_thread_slot content (Slot.Memory memory) threads state e = absurd (cc)
is_thread_slot content (Slot.Connection connection) threads state e = absurd (cc)
is_thread_slot content (Slot.Notification note) threads state e = absurd (cc)
is_thread_slot content (Slot.Ring ring) threads state e = absurd (no_ring ring.channel (ring.channel == OUTPUT_CHANNELS) refl e) where
  no_ring : (channel : ℕ) (b : Bool) → (channel == OUTPUT_CHANNELS) ≡ b → does (Some (ring_of channel)) ≡ Some state → ⊥
  no_ring channel true is f = let g : does (Some plain.InputRing) ≡ Some state = rw is at f in cc
  no_ring channel false is f = let g : does (Some (plain.OutputRing channel)) ≡ Some state = rw is at f in cc
is_thread_slot content (Slot.Scheduler cores) threads state e = absurd (cc)

-- what becomes of a caller by its registers and its state
abbrev pub of_caller : ThreadRecord → Effect
of_caller thread = record (goes_on (record { pc = next_pc thread; x = thread.x })) { goes = goes_in thread.state }

-- a caller that was given an answer goes on
pub caller_answered : {done : Done} → (thread caller : ThreadRecord) (answer : ℕ) (changes : List Change) (wakes : List ℕ) → Tells done (of_caller caller) →
    caller ≡ with_answer thread answer → goes_in thread.state ≡ On → Tells done (record (answers thread answer) { changes = changes; wakes = wakes })
caller_answered thread caller answer changes wakes tells same awake =
    record { regs = tells.regs ∙ rw same refl; goes = tells.goes ∙ rw same awake; takes = tells.takes; wishes = tells.wishes }

-- so does one that was handed values
pub caller_handed : {done : Done} → (thread caller other : ThreadRecord) (changes : List Change) (wakes : List ℕ) → Tells done (of_caller caller) → caller ≡ with_values thread other →
    goes_in thread.state ≡ On → Tells done (record (goes_on (record { pc = next_pc thread; x = handed thread.x (arg other 1) (arg other 2) })) { changes = changes; wakes = wakes })
caller_handed thread caller other changes wakes tells same awake =
    record { regs = tells.regs ∙ rw same refl; goes = tells.goes ∙ rw same awake; takes = tells.takes; wishes = tells.wishes }

-- one that was given a state in which it waits doesn't
pub caller_waits : {done : Done} → (thread caller : ThreadRecord) (state : ThreadState) (changes : List Change) (wakes : List ℕ) → Tells done (of_caller caller) →
    caller ≡ with_state thread state → goes_in state ≡ Asleep state → Tells done (record (waits thread state) { changes = changes; wakes = wakes })
caller_waits thread caller state changes wakes tells same asleep =
    record { regs = tells.regs ∙ rw same refl; goes = tells.goes ∙ rw same asleep; takes = tells.takes; wishes = tells.wishes }

-- and doesn't go to the queue's back
pub not_back : {done : Done} → (thread caller : ThreadRecord) (state : ThreadState) (left : ℕ) → Tells done (of_caller caller) → caller ≡ with_state thread state →
    goes_in state ≡ Asleep state → at_slice_end left done.goes ≡ Back → ⊥
not_back {done} thread caller state left tells same asleep back =
    let goes : done.goes ≡ Asleep state = tells.goes ∙ rw same asleep in
    let f : Asleep state ≡ Back = ap (λ (g : Goes). at_slice_end left g) (sym goes) ∙ back in cc

abbrev has_thread : Slot → Bool
has_thread (Slot.Thread thread) = true
has_thread slot = false

-- where a thread stands nothing else does
pub apart : (o : Objects) (a b : ℕ) → has_thread (slot_at o a) ≡ true → has_thread (slot_at o b) ≡ false → a ≢ b
apart o a b thread other same = false≢true (sym (rw same other) ∙ thread)
