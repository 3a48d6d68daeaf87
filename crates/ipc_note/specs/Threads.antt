-- What a call makes of a thread. Its group, its space and its pc stay.
use Rattle.std.specs.Prelude.{ℕ, slice_index, slice_set}
use Rattle.sls_base.specs.declared.thread.Thread.{Thread}
use Rattle.sls_base.specs.declared.thread.ThreadState.{ThreadState}
use Rattle.ipc_note.specs.declared.thread.TheConstants.{ANSWER, FIRST_VALUE, SECOND_VALUE}

-- with an answer in x10
abbrev pub with_answer : Thread → ℕ → Thread
with_answer thread answer = record thread { x = slice_set thread.x ANSWER answer }

-- with the answer 0, and in x11 and x12 the values that another thread has there
abbrev pub with_values : Thread → Thread → Thread
with_values thread other = record thread {
  x = slice_set (slice_set (slice_set thread.x ANSWER 0) FIRST_VALUE (slice_index other.x FIRST_VALUE))
      SECOND_VALUE (slice_index other.x SECOND_VALUE);
}

-- in another state
abbrev pub with_state : Thread → ThreadState → Thread
with_state thread state = record thread { state = state }
