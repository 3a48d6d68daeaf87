-- Threads in range: each call that isn't refused keeps them so.
use Rattle.std.specs.Prelude.{◌≡◌, ℕ, ◌%◌, ◌≤◌, ◌==◌, Bool, true, false, if◌then◌else◌, List, [], ◌∷◌, length, All, Option, Some, None, slice_index_or, slice_set, unwrap_or}
use Rattle.std.proofs.Common.{refl, arith}
use Rattle.std.proofs.lemmas.Bool.{not-false, eqb-true}
use Rattle.std.proofs.lemmas.List.Elements.{All-head}
use Rattle.sls_base.specs.declared.limits.TheConstants.{GROUP_SLOTS, INSTRUCTION_BYTES}
use Rattle.sls_base.specs.declared.thread.Thread.{Thread as ThreadRecord}
use Rattle.sls_base.specs.declared.thread.ThreadState.{ThreadState}
use Rattle.sls_base.specs.declared.thread.ThreadState.TheVariants.{Ready, Waiting, Calling, Served, Serving}
use Rattle.plain_state.specs.declared.calls.TheConstants.{ANSWER}
use Rattle.plain_state.specs.declared.calls.Call.{Call}
use Rattle.plain_state.specs.declared.calls.Call.TheVariants.{Yield, Halt, Put, Get, MemNew, Map, Unmap, SpaceNew, GroupNew, CapCopy, CapDrop, ThreadNew, NoteNew, Signal, Wait, ConnNew, ConnCall, Serve, Checkpoint}
use Rattle.plain_state.specs.declared.calls.Refusal.TheVariants.{BadAddress}
use Rattle.plain_model.specs.Objects.{Object, Group, Thread, Connection, Notification, slots_of}
use Rattle.plain_model.specs.States.{State, thread_at, zero_registers}
use Rattle.plain_model.specs.Worlds.{World}
use Rattle.plain_model.specs.Effects.{Effect, Change, waits, regs_of}
use Rattle.plain_model.specs.Calls.{arg, free_slot, id_named, named}
use Rattle.plain_model.specs.CallRefusals.{refusal_of}
use Rattle.plain_model.specs.CallEffects.{effect_of_call, answers_with, own_slots, makes, new_thread, signal_effect, wait_effect, call_effect, serve_effect, serve_next, client_done, is_serving, handed}
use Rattle.plain_laws.specs.Sound.{HasForm, HaveForms}
use Rattle.plain_laws.specs.Bounds.{IsStateOf, IsEntry, IsThread, HasEntries}
use Rattle.plain_laws.proofs.FormsCalls.{not_refused}
use Rattle.plain_laws.proofs.PlacedNotifications.{altered}
use Rattle.plain_laws.proofs.ThreadRegisters.{IsWord, AreRegisters, AreInForm, next_in_form, answered_registers, handed_registers, zeros_are_registers, slot_word}
use Rattle.plain_laws.proofs.ThreadEffects.{in_range, OfThread, Fits}
use Rattle.plain_laws.proofs.WalkStates.{OfChanges, of_more_changes}

-- what is read of each number is in form
abbrev pub AllInForm : State → Type 0
AllInForm s = (id : ℕ) → AreInForm (regs_of (thread_at s id))

-- Answers, and threads that wait or stop.

pub fits_answer : (s : State) (thread : ThreadRecord) (answer : ℕ) (changes : List Change) → AreInForm (regs_of thread) → IsWord answer → OfChanges (OfThread s) changes
    → Fits s (answers_with thread answer changes)
fits_answer s thread answer changes h word new = record {
  regs = next_in_form thread (slice_set thread.x ANSWER answer) h.aligned (answered_registers thread.x answer word h.registers);
  goes = tt;
  changes = new;
}

fits_wait : (s : State) (thread : ThreadRecord) (state : ThreadState) (changes : List Change) → AreInForm (regs_of thread) → IsStateOf s state → OfChanges (OfThread s) changes
    → Fits s (record (waits thread state) { changes = changes })
fits_wait s thread state changes h is new = record { regs = next_in_form thread thread.x h.aligned h.registers; goes = is; changes = new }

either_fits : (s : State) (b : Bool) (e f : Effect) → Fits s e → Fits s f → Fits s (if b then e else f)
either_fits s true e f first second = first
either_fits s false e f first second = second

-- a thread that gets another state and other registers
altered_in_range : (s : State) (thread : ThreadRecord) (state : ThreadState) (x : List ℕ) → AreInForm (regs_of thread) → IsStateOf s state → AreRegisters x → IsThread s (altered thread state x)
altered_in_range s thread state x h is new = in_range s (altered thread state x) (record { pc = h.pc; aligned = h.aligned; registers = new }) is

-- and one that is handed two words
handed_in_range : (s : State) (thread from : ThreadRecord) → AreInForm (regs_of thread) → AreInForm (regs_of from)
    → IsThread s (altered thread Ready (handed thread.x (arg from 1) (arg from 2)))
handed_in_range s thread from h k =
    altered_in_range s thread Ready (handed thread.x (arg from 1) (arg from 2)) h tt (handed_registers thread.x (arg from 1) (arg from 2) (k.registers.each _) (k.registers.each _) h.registers)

-- Notifications.

signal_fits : (s : State) (thread : ThreadRecord) (note : ℕ) (o : Option Object) → AllInForm s → AreInForm (regs_of thread) → Fits s (signal_effect s thread note o)
signal_fits s thread note (Some (Notification count [])) all h = fits_answer s thread 0 _ h (omega arith) (tt, tt)
signal_fits s thread note (Some (Notification count (waiter ∷ waiters))) all h =
    let woken = altered_in_range s (thread_at s waiter) Ready (slice_set (thread_at s waiter).x ANSWER 0) (all waiter) tt (answered_registers (thread_at s waiter).x 0 (omega arith) (all waiter).registers) in
    fits_answer s thread 0 _ h (omega arith) (tt, (woken, tt))
signal_fits s thread note o all h = fits_answer s thread 0 [] h (omega arith) tt

wait_fits : (s : State) (id : ℕ) (thread : ThreadRecord) (note : ℕ) (o : Option Object) → AreInForm (regs_of thread) → Fits s (wait_effect id thread note o)
wait_fits s id thread note (Some (Notification count waiters)) h =
    either_fits s (count == 0) _ _ (fits_wait s thread (Waiting note) _ h tt (tt, tt)) (fits_answer s thread 0 _ h (omega arith) (tt, tt))
wait_fits s id thread note o h = fits_answer s thread 0 [] h (omega arith) tt

-- Connections.

call_fits : (s : State) (id : ℕ) (thread : ThreadRecord) (connection : ℕ) (o : Option Object) → AllInForm s → AreInForm (regs_of thread) → Fits s (call_effect s id thread connection o)
call_fits s id thread connection (Some (Connection server client clients)) all h =
    either_fits s (is_serving (thread_at s server).state connection) _ _
    (fits_wait s thread (Served connection) _ h tt (tt, (handed_in_range s (thread_at s server) thread (all server) h, tt)))
    (fits_wait s thread (Calling connection) _ h tt (tt, tt))
call_fits s id thread connection o all h = fits_answer s thread 0 [] h (omega arith) tt

done_fits : (s : State) (thread : ThreadRecord) (client : Option ℕ) → AllInForm s → AreInForm (regs_of thread) → OfChanges (OfThread s) (client_done s thread client)
done_fits s thread None all h = tt
done_fits s thread (Some client) all h = (handed_in_range s (thread_at s client) thread (all client) h, tt)

next_fits : (s : State) (thread : ThreadRecord) (connection server : ℕ) (client : Option ℕ) (clients : List ℕ) → AllInForm s → AreInForm (regs_of thread)
    → Fits s (serve_next s thread connection server client clients)
next_fits s thread connection server client (next ∷ clients) all h =
    let caller = thread_at s next in
    let served = altered_in_range s caller (Served connection) caller.x (all next) tt (all next).registers in
    record {
      regs = next_in_form thread (handed thread.x (arg caller 1) (arg caller 2)) h.aligned
          (handed_registers thread.x (arg caller 1) (arg caller 2) ((all next).registers.each _) ((all next).registers.each _) h.registers);
      goes = tt;
      changes = of_more_changes (OfThread s) (client_done s thread client) _ (done_fits s thread client all h) (tt, (served, tt));
    }
next_fits s thread connection server (Some client) [] all h = fits_wait s thread (Serving connection) _ h tt (handed_in_range s (thread_at s client) thread (all client) h, (tt, tt))
next_fits s thread connection server None [] all h = fits_wait s thread (Serving connection) [] h tt tt

serve_fits : (s : State) (thread : ThreadRecord) (connection : ℕ) (o : Option Object) → AllInForm s → AreInForm (regs_of thread) → Fits s (serve_effect s thread connection o)
serve_fits s thread connection (Some (Connection server client clients)) all h = next_fits s thread connection server client clients all h
serve_fits s thread connection o all h = fits_answer s thread 0 [] h (omega arith) tt

-- Inputs and slots.

input_word : (inputs : List (List ℕ)) → All IsEntry inputs → IsWord (length (slice_index_or inputs 0 []))
input_word [] h = omega arith
input_word (input ∷ inputs) h = (let first = All-head IsEntry input inputs h in let room = first.room in omega arith)

slots_few : (o : Option Object) → HasForm o → length (slots_of o) ≤ GROUP_SLOTS
slots_few (Some (Group slots)) h = (let count = h.0 in omega arith)
slots_few o h = omega arith

made_fits : (w : World) (thread : ThreadRecord) (object : Object) → HaveForms w.now → AreInForm (regs_of thread) → OfThread w.now 0 (Some object) → Fits w.now (makes w thread object)
made_fits w thread object forms h new =
    fits_answer w.now thread (unwrap_or (free_slot (own_slots w thread)) 0) _ h (slot_word (slots_of (w.now.objects thread.group)) (slots_few (w.now.objects thread.group) (forms thread.group))) (new, (tt, tt))

made_thread : (w : World) (id : ℕ) (thread : ThreadRecord) → AreInForm (regs_of thread) → refusal_of w id thread ThreadNew ≡ None → IsThread w.now (new_thread w.now thread)
made_thread w id thread h e =
    let address = not-false (arg thread 2 % INSTRUCTION_BYTES == 0) (not_refused w id thread ThreadNew 3 BadAddress e refl).1 in
    in_range w.now (new_thread w.now thread) (record {
      pc = h.registers.each _;
      aligned = eqb-true (arg thread 2 % INSTRUCTION_BYTES) 0 address;
      registers = answered_registers zero_registers (arg thread 3) (h.registers.each _) zeros_are_registers;
    }) tt

-- Each call.

pub calls_fit : (w : World) (id : ℕ) (thread : ThreadRecord) (call : Call) → AllInForm w.now → AreInForm (regs_of thread) → HaveForms w.now → HasEntries w.now → refusal_of w id thread call ≡ None
    → Fits w.now (effect_of_call w id thread call)
unfolding effect_of_call
calls_fit w id thread Yield all h forms entries e = record { regs = (fits_answer w.now thread 0 [] h (omega arith) tt).regs; goes = tt; changes = tt }
calls_fit w id thread Halt all h forms entries e = record { regs = h; goes = omega arith; changes = tt }
calls_fit w id thread Put all h forms entries e = fits_answer w.now thread 0 [] h (omega arith) tt
calls_fit w id thread Get all h forms entries e = fits_answer w.now thread (length (slice_index_or w.now.inputs 0 [])) [] h (input_word w.now.inputs entries.inputs) tt
calls_fit w id thread MemNew all h forms entries e = made_fits w thread _ forms h tt
calls_fit w id thread Map all h forms entries e = fits_answer w.now thread 0 _ h (omega arith) (tt, tt)
calls_fit w id thread Unmap all h forms entries e = fits_answer w.now thread 0 _ h (omega arith) (tt, tt)
calls_fit w id thread SpaceNew all h forms entries e = made_fits w thread _ forms h tt
calls_fit w id thread GroupNew all h forms entries e = made_fits w thread _ forms h tt
calls_fit w id thread CapCopy all h forms entries e =
    fits_answer w.now thread (unwrap_or (free_slot (slots_of (named w.now thread 1))) 0) _ h (slot_word (slots_of (named w.now thread 1)) (slots_few (named w.now thread 1) (forms (id_named w.now thread 1)))) (tt, tt)
calls_fit w id thread CapDrop all h forms entries e = fits_answer w.now thread 0 _ h (omega arith) (tt, tt)
calls_fit w id thread ThreadNew all h forms entries e = made_fits w thread (Thread (new_thread w.now thread)) forms h (made_thread w id thread h e)
calls_fit w id thread NoteNew all h forms entries e = made_fits w thread _ forms h tt
calls_fit w id thread Signal all h forms entries e = signal_fits w.now thread (id_named w.now thread 0) (named w.now thread 0) all h
calls_fit w id thread Wait all h forms entries e = wait_fits w.now id thread (id_named w.now thread 0) (named w.now thread 0) h
calls_fit w id thread ConnNew all h forms entries e = made_fits w thread _ forms h tt
calls_fit w id thread ConnCall all h forms entries e = call_fits w.now id thread (id_named w.now thread 0) (named w.now thread 0) all h
calls_fit w id thread Serve all h forms entries e = serve_fits w.now thread (id_named w.now thread 0) (named w.now thread 0) all h
calls_fit w id thread Checkpoint all h forms entries e = fits_answer w.now thread 0 [] h (omega arith) tt
