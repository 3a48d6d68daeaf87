-- Threads in range: what an effect has to give so that they stay so.
use Rattle.std.specs.Prelude.{◌≡◌, ℕ, ◌-◌, ◌<◌, ◌≤◌, ◌==◌, Bool, true, false, if◌then◌else◌, List, length, Option, Some}
use Rattle.std.proofs.Common.{refl, subst, arith}
use Rattle.rv_core.specs.declared.registers.Regs.{Regs}
use Rattle.sls_base.specs.declared.causes.TheConstants.{LOST_OBJECT}
use Rattle.sls_base.specs.declared.thread.Thread.{Thread as ThreadRecord}
use Rattle.sls_base.specs.declared.thread.ThreadState.{ThreadState}
use Rattle.sls_base.specs.declared.thread.ThreadState.TheVariants.{Running, Stopped}
use Rattle.plain_state.specs.declared.effect.Goes.{Goes}
use Rattle.plain_state.specs.declared.effect.Goes.TheVariants.{On, Back, Asleep, Stop}
use Rattle.plain_state.specs.declared.effect.Place.{Place}
use Rattle.plain_model.specs.Objects.{Object, Thread, Memory}
use Rattle.plain_model.specs.States.{State, thread_of, thread_at, no_thread}
use Rattle.plain_model.specs.Memory.{memory_with}
use Rattle.plain_model.specs.Effects.{Effect, Change, regs_of}
use Rattle.plain_model.specs.Ticks.{Chosen, state_after, at_slice_end, state_of_effect}
use Rattle.plain_laws.specs.Bounds.{IsStateOf, IsThread, HasThreads}
use Rattle.plain_laws.proofs.Cores.{effect_keeps_cores}
use Rattle.plain_laws.proofs.ThreadRegisters.{AreInForm, zeros_are_registers}
use Rattle.plain_laws.proofs.WalkStates.{OfChanges, of_effect}

-- Threads and their registers.

pub in_form : (s : State) (thread : ThreadRecord) → IsThread s thread → AreInForm (regs_of thread)
in_form s thread h = record { pc = h.pc; aligned = h.aligned; registers = record { count = h.count; each = h.each; zero = h.zero } }

pub in_range : (s : State) (thread : ThreadRecord) → AreInForm (regs_of thread) → IsStateOf s thread.state → IsThread s thread
in_range s thread h state =
    record { pc = h.pc; aligned = h.aligned; count = h.registers.count; each = h.registers.each; zero = h.registers.zero; state = state }

-- in another state with as many cores
state_moves : (s t : State) (state : ThreadState) → length t.cores ≡ length s.cores → IsStateOf s state → IsStateOf t state
state_moves s t (Running core) e h = omega arith
state_moves s t (Stopped cause) e h = h
state_moves s t state e h = tt

pub thread_moves : (s t : State) (thread : ThreadRecord) → length t.cores ≡ length s.cores → IsThread s thread → IsThread t thread
thread_moves s t thread e h = in_range t thread (in_form s thread h) (state_moves s t thread.state e h.state)

-- Objects: a thread is in range.

abbrev pub OfThread : State → ℕ → Option Object → Type 0
OfThread s i (Some (Thread thread)) = IsThread s thread
OfThread s i o = Unit {0}

of_thread_at : (s : State) (i : ℕ) (o : Option Object) → s.objects i ≡ o → HasThreads s → OfThread s i o
of_thread_at s i (Some (Thread thread)) e h = h i thread e
of_thread_at s i o e h = tt

pub of_threads : (s : State) → HasThreads s → (i : ℕ) → OfThread s i (s.objects i)
of_threads s h i = of_thread_at s i (s.objects i) refl h

pub has_threads : (s t : State) → length t.cores ≡ length s.cores → ((i : ℕ) → OfThread s i (t.objects i)) → HasThreads t
has_threads s t e h i thread is = thread_moves s t thread e (subst (OfThread s i) is (h i))

-- what is read of a number is in form, where there is no thread too

none_in_form : AreInForm (regs_of no_thread)
none_in_form = record { pc = omega arith; aligned = refl; registers = zeros_are_registers }

read_in_form_of : (s : State) (i : ℕ) (o : Option Object) → OfThread s i o → AreInForm (regs_of (thread_of o))
read_in_form_of s i (Some (Thread thread)) h = in_form s thread h
read_in_form_of s i o h = none_in_form

pub read_in_form : (s : State) → HasThreads s → (i : ℕ) → AreInForm (regs_of (thread_at s i))
read_in_form s h i = read_in_form_of s i (s.objects i) (of_threads s h i)

-- Effects.

abbrev pub GoesInRange : State → Goes → Type 0
GoesInRange s (Asleep state) = IsStateOf s state
GoesInRange s (Stop cause) = cause ≤ LOST_OBJECT
GoesInRange s goes = Unit {0}

-- the thread's registers and pc, what becomes of it, and the threads that are changed
pub record AreFit (s : State) (r : Regs) (g : Goes) (made : List Change) : Type 0 where
  pub regs : AreInForm r
  pub goes : GoesInRange s g
  pub changes : OfChanges (OfThread s) made

abbrev pub Fits : State → Effect → Type 0
Fits s e = AreFit s e.regs e.goes e.changes

state_in_range_if : (s : State) (core : ℕ) (b : Bool) → core < length s.cores → IsStateOf s (state_after core (if b then Back else On))
state_in_range_if s core true l = tt
state_in_range_if s core false l = l

state_in_range : (s : State) (core left : ℕ) (goes : Goes) → core < length s.cores → GoesInRange s goes → IsStateOf s (state_after core (at_slice_end left goes))
state_in_range s core left On l h = state_in_range_if s core (left == 0) l
state_in_range s core left Back l h = tt
state_in_range s core left (Asleep state) l h = h
state_in_range s core left (Stop cause) l h = h

stored_thread : (s : State) (i : ℕ) (o : Option Object) (place : Place) (value : ℕ) → OfThread s i o → OfThread s i (memory_with o place value)
stored_thread s i (Some (Memory pages)) place value h = tt
stored_thread s i o place value h = h

-- an effect that fits keeps threads in range
pub effect_threads : (s : State) (core : ℕ) (c : Chosen) (e : Effect) → core < length s.cores → Fits s e → HasThreads s → HasThreads (state_of_effect s core c e)
effect_threads s core c e l fits h =
    has_threads s (state_of_effect s core c e) (effect_keeps_cores s core c e)
    (of_effect (OfThread s) s core c e
    (λ k store m i o. stored_thread s i o _ _)
    fits.changes
    (in_range s _ fits.regs (state_in_range s core (c.occupant.slice - 1) e.goes l fits.goes))
    (of_threads s h))
