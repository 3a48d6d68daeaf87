-- The state of the plain machine.
use Rattle.std.specs.Prelude.{ℕ, List, Option, Some, None, replicate, slice_index, ◌==◌, if◌then◌else◌}
use Rattle.sls_base.specs.declared.limits.TheConstants.{REGISTERS}
use Rattle.sls_base.specs.declared.thread.Thread.{Thread as ThreadRecord}
use Rattle.sls_base.specs.declared.thread.ThreadView.{ThreadView}
use Rattle.sls_base.specs.declared.thread.ThreadState.TheVariants.{Ready}
use Rattle.plain_state.specs.declared.calls.TheConstants.{ANSWER}
use Rattle.plain_state.specs.declared.objects.Occupant.{Occupant}
use Rattle.plain_state.specs.Objects.{Object, Thread}

-- A state: the objects that are there, by number; the threads of the run queue in order; what each core runs; all entries
-- that were put on each output channel since the play began; and the inputs that wait.
pub record State : Type 0 where
  pub objects : ℕ → Option Object
  pub queue : List ℕ
  pub cores : List (Option Occupant)
  pub out : ℕ → List (List ℕ)
  pub inputs : List (List ℕ)

unfoldable pub zero_registers : List ℕ
zero_registers = replicate REGISTERS 0

-- what is read where no thread is
abbrev pub no_thread : ThreadRecord
no_thread = record { group = 0; space = 0; state = Ready; pc = 0; x = zero_registers }

abbrev pub thread_of : Option Object → ThreadRecord
thread_of (Some (Thread thread)) = thread
thread_of _ = no_thread

abbrev pub thread_at : State → ℕ → ThreadRecord
thread_at s id = thread_of (s.objects id)

-- what is told of a thread; nothing of another object
abbrev pub view_of : Option Object → Option ThreadView
view_of (Some (Thread thread)) =
    Some (record { state = thread.state; pc = thread.pc; x10 = slice_index thread.x ANSWER })
view_of _ = None

-- the objects with one at a number
abbrev pub with_object : (ℕ → Option Object) → ℕ → Object → ℕ → Option Object
with_object objects id object i = if i == id then Some object else objects i
