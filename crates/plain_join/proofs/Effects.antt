-- What an effect of the whole kernel is of what the program's instruction does, and the state that comes of it.
use Rattle.std.specs.Prelude.{◌≡◌, ℕ, ◌-◌, ◌==◌, nat_lt, Bool, true, false, if◌then◌else◌, List, [], ◌∷◌, ◌++◌, Option}
use Rattle.std.proofs.Common.{refl, ap, sym, ◌∙◌, subst, arith}
use Rattle.std.proofs.lemmas.Bool.Decides.{nat_tests}
use mathlib.Core.Path.{fun_ext}
use Rattle.rv_core.specs.declared.registers.Regs.{Regs}
use Rattle.sls_base.specs.declared.thread.Thread.{Thread as ThreadRecord}
use Rattle.sls_base.specs.declared.thread.ThreadState.{ThreadState}
use Rattle.sls_kernel.specs.declared.thread.RunThread.{RunThread}
use Rattle.sls_kernel.specs.declared.thread.Status.{Status}
use Rattle.sls_kernel.specs.declared.thread.Status.TheVariants.{Ready as IsReady, Running as IsRunning, Stopped as HasStopped}
use Rattle.sls_kernel.specs.Plain.{State as ProgramState, Outcome, GoesOn, Stops, sliced, with_status}
use Rattle.plain_state.specs.declared.effect.Goes.{Goes}
use Rattle.plain_state.specs.declared.effect.Goes.TheVariants.{On, Back, Stop}
use Rattle.plain_state.specs.declared.effect.Place.{Place}
use Rattle.plain_state.specs.declared.objects.Occupant.{Occupant}
use Rattle.plain_model.specs.Objects.{Object, Thread}
use Rattle.plain_model.specs.States.{with_object}
use Rattle.plain_model.specs.Memory.{with_stores}
use Rattle.plain_model.specs.Effects.{Effect, goes_on}
use Rattle.plain_model.specs.Instructions.{with_fetch}
use Rattle.plain_model.specs.Ticks.{Chosen, at_slice_end, at_back, on_core, state_after, with_changes, with_output, state_of_effect}
use Rattle.plain_join.specs.Joined.{memory_object, thread_object, state_of, queue_of, occupant_of}
use Rattle.plain_join.proofs.Canon.{code_state, code_objects, with_thread, same_state}

-- the program's thread, as the whole kernel has it
abbrev pub thread_of : RunThread → ThreadRecord
thread_of thread = record { group = 7; space = 8; state = state_of thread.status; pc = thread.regs.pc; x = thread.regs.x }

-- an effect makes these registers, bytes and entries of a state, and nothing else but that the thread goes on or stops
pub record Makes (s next : ProgramState) (goes : Goes) (e : Effect) : Type 0 where
  pub goes_so : e.goes ≡ goes
  pub regs : e.regs ≡ next.thread.regs
  pub objects : with_changes (with_stores (code_state s).objects e.stores) e.changes
      ≡ code_objects (memory_object next.byte) (thread_object s.thread)
  pub wakes : e.wakes ≡ []
  pub out : with_output s.out e.output ≡ next.out
  pub takes : e.takes ≡ false
  pub wishes : e.wishes ≡ false

abbrev pub Gives : ProgramState → Outcome → Effect → Type 0
Gives s (GoesOn next) e = Makes s next On e
Gives s (Stops cause) e = Makes s s (Stop cause) e

-- what only sets registers, and loads
pub sets_registers : (s : ProgramState) (thread : RunThread) (goes : Goes) (loads : List Place)
    → Makes s (record { thread = thread; byte = s.byte; out = s.out }) goes (record (goes_on thread.regs) { goes = goes; loads = loads })
sets_registers s thread goes loads = record {
  goes_so = refl;
  regs = refl;
  objects = refl;
  wakes = refl;
  out = fun_ext (λ channel. refl);
  takes = refl;
  wishes = refl;
}

-- a fetch before it only loads
makes_fetched : (s next : ProgramState) (goes : Goes) (places : List Place) (e : Effect) → Makes s next goes e
    → Makes s next goes (with_fetch places e)
makes_fetched s next goes places e h = record {
  goes_so = h.goes_so;
  regs = h.regs;
  objects = h.objects;
  wakes = h.wakes;
  out = h.out;
  takes = h.takes;
  wishes = h.wishes;
}

pub fetched_gives : (s : ProgramState) (o : Outcome) (places : List Place) (e : Effect) → Gives s o e → Gives s o (with_fetch places e)
fetched_gives s (GoesOn next) places e h = makes_fetched s next On places e h
fetched_gives s (Stops cause) places e h = makes_fetched s s (Stop cause) places e h

-- no effect here wishes for a checkpoint
pub never_wishes : (s : ProgramState) (o : Outcome) (e : Effect) → Gives s o e → e.wishes ≡ false
never_wishes s (GoesOn next) e h = h.wishes
never_wishes s (Stops cause) e h = h.wishes

-- The state that comes of it.

abbrev pub chosen_with : ℕ → Chosen
chosen_with slice = record { occupant = record { thread = 10; slice = slice }; queue = [] }

-- the thread with these registers, where it goes
abbrev thread_with : Goes → Regs → Object
thread_with goes regs = Thread (record { group = 7; space = 8; state = state_after 0 goes; pc = regs.pc; x = regs.x })

abbrev thread_in : ThreadState → Regs → Object
thread_in state regs = Thread (record { group = 7; space = 8; state = state; pc = regs.pc; x = regs.x })

-- where the thread goes, its status tells
record GoesTo (status : Status) (left : ℕ) (goes : Goes) : Type 0 where
  state : state_after 0 goes ≡ state_of status
  queue : at_back 10 goes ≡ queue_of status
  core : on_core 10 left goes ≡ occupant_of status

made_state : (s next : ProgramState) (goes : Goes) (e : Effect) (slice : ℕ) (status : Status) → Makes s next goes e
    → GoesTo status (slice - 1) (at_slice_end (slice - 1) e.goes)
    → state_of_effect (code_state s) 0 (chosen_with slice) e ≡ code_state (with_status next status)
unfolding state_of_effect
made_state s next goes e slice status h to =
    let left = at_slice_end (slice - 1) e.goes in
    let changed = with_changes (with_stores (code_state s).objects e.stores) e.changes in
    let memory = memory_object next.byte in
    let thread : thread_with left e.regs ≡ thread_object (with_status next status).thread =
    ap (thread_with left) h.regs ∙ ap (λ (state : ThreadState). thread_in state next.thread.regs) to.state in
    same_state (state_of_effect (code_state s) 0 (chosen_with slice) e) (code_state (with_status next status))
    (ap (λ (o : ℕ → Option Object). with_object o 10 (thread_with left e.regs)) h.objects
    ∙ with_thread memory (thread_object s.thread) (thread_with left e.regs)
    ∙ ap (code_objects memory) thread)
    (ap (λ (wakes : List ℕ). wakes ++ at_back 10 left) h.wakes ∙ to.queue)
    (ap (λ (core : Option Occupant). core ∷ []) to.core)
    h.out
    (ap (λ (takes : Bool). if takes then [] else []) h.takes)

-- where an instruction leaves a thread that went on or stopped

goes_to : (e : Effect) (slice : ℕ) (status : Status) (goes : Goes) → at_slice_end (slice - 1) e.goes ≡ goes → GoesTo status (slice - 1) goes
    → GoesTo status (slice - 1) (at_slice_end (slice - 1) e.goes)
goes_to e slice status goes ends to = subst (GoesTo status (slice - 1)) (sym ends) to

stays_on : (s next : ProgramState) (e : Effect) (slice : ℕ) (b : Bool) → nat_lt 1 slice ≡ b → Makes s next On e
    → state_of_effect (code_state s) 0 (chosen_with slice) e ≡ code_state (with_status next (if b then IsRunning (slice - 1) else IsReady))
stays_on s next e slice true more h =
    let some : (slice - 1 == 0) ≡ false = grind (arith, nat_tests) in
    let ends : at_slice_end (slice - 1) e.goes ≡ On = ap (at_slice_end (slice - 1)) h.goes_so ∙ rw some refl in
    let to = goes_to e slice (IsRunning (slice - 1)) On ends (record { state = refl; queue = refl; core = refl }) in
    made_state s next On e slice (IsRunning (slice - 1)) h to
stays_on s next e slice false more h =
    let none : (slice - 1 == 0) ≡ true = grind (arith, nat_tests) in
    let ends : at_slice_end (slice - 1) e.goes ≡ Back = ap (at_slice_end (slice - 1)) h.goes_so ∙ rw none refl in
    let to = goes_to e slice IsReady Back ends (record { state = refl; queue = refl; core = refl }) in
    made_state s next On e slice IsReady h to

pub state_is : (s : ProgramState) (o : Outcome) (e : Effect) (slice : ℕ) → Gives s o e
    → state_of_effect (code_state s) 0 (chosen_with slice) e ≡ code_state (sliced s slice o)
state_is s (GoesOn next) e slice h = stays_on s next e slice (nat_lt 1 slice) refl h
state_is s (Stops cause) e slice h =
    let ends : at_slice_end (slice - 1) e.goes ≡ Stop cause = ap (at_slice_end (slice - 1)) h.goes_so in
    let to = goes_to e slice (HasStopped cause) (Stop cause) ends (record { state = refl; queue = refl; core = refl }) in
    made_state s s (Stop cause) e slice (HasStopped cause) h to
