-- Where threads stand: each in one place at most, and where its state says.
use Rattle.std.specs.Prelude.{◌≡◌, ℕ, ◌≤◌, ◌==◌, Bool, true, false, List, [], ◌∷◌, count_by, Option, Some, None, slice_index_or}
use Rattle.sls_base.specs.declared.limits.TheConstants.{CORE_SLICE}
use Rattle.sls_base.specs.declared.thread.ThreadState.{ThreadState}
use Rattle.sls_base.specs.declared.thread.ThreadState.TheVariants.{Ready, Running, Waiting, Calling, Served, Serving, Stopped}
use Rattle.plain_state.specs.declared.objects.Occupant.{Occupant}
use Rattle.plain_model.specs.Objects.{Object, Thread, Connection, Notification}
use Rattle.plain_model.specs.States.{State}

-- what a thread does; nothing where no thread is
abbrev pub state_of : Option Object → Option ThreadState
state_of (Some (Thread thread)) = Some thread.state
state_of _ = None

-- the threads that wait on a notification, the clients that wait on a connection, and the client that it serves

abbrev pub waiters_of : Option Object → List ℕ
waiters_of (Some (Notification count waiters)) = waiters
waiters_of _ = []

abbrev pub clients_of : Option Object → List ℕ
clients_of (Some (Connection server client clients)) = clients
clients_of _ = []

abbrev pub served_of : Option Object → List ℕ
served_of (Some (Connection server (Some client) clients)) = client ∷ []
served_of _ = []

-- the thread of a core
abbrev pub running_on : Option Occupant → List ℕ
running_on (Some occupant) = occupant.thread ∷ []
running_on None = []

-- A place is named by the state of the threads that stand there: the run queue (Ready), a core, a notification's
-- list, a connection's list of clients, and a connection's place of the client that it serves. Who waits for clients,
-- or has stopped, stands nowhere. These are the threads of a place, in order.
abbrev pub threads_in : State → ThreadState → List ℕ
threads_in s Ready = s.queue
threads_in s (Running core) = running_on (slice_index_or s.cores core None)
threads_in s (Waiting id) = waiters_of (s.objects id)
threads_in s (Calling id) = clients_of (s.objects id)
threads_in s (Served id) = served_of (s.objects id)
threads_in s _ = []

-- how often a number stands in a list
abbrev pub times : ℕ → List ℕ → ℕ
times id ids = count_by (λ other. other == id) ids

-- a thread stands in a place
abbrev pub StandsIn : State → ℕ → ThreadState → Type 0
StandsIn s id place = 1 ≤ times id (threads_in s place)

-- No place has a thread twice, and the state of a thread names the place where it stands: so it stands in no other.
pub record IsPlaced (s : State) : Type 0 where
  pub once : (place : ThreadState) (id : ℕ) → times id (threads_in s place) ≤ 1
  pub does : (place : ThreadState) (id : ℕ) → StandsIn s id place → state_of (s.objects id) ≡ Some place

-- a state names a place
abbrev pub names_place : ThreadState → Bool
names_place (Serving id) = false
names_place (Stopped cause) = false
names_place state = true

-- Each thread stands in the place that its state names. Who waits for clients is the server of a connection that
-- serves nobody, and on which nobody waits. Who runs on a core has something left of its slice.
pub record IsPresent (s : State) : Type 0 where
  pub stands : (id : ℕ) (place : ThreadState) → state_of (s.objects id) ≡ Some place → names_place place ≡ true
      → StandsIn s id place
  pub serves : (id connection : ℕ) → state_of (s.objects id) ≡ Some (Serving connection)
      → s.objects connection ≡ Some (Connection id None [])
  pub slices : (core : ℕ) (occupant : Occupant) → slice_index_or s.cores core None ≡ Some occupant
      → (1 ≤ occupant.slice) × (occupant.slice ≤ CORE_SLICE)
