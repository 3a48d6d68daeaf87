-- What is read step by step, up to the first fault.
use Rattle.std.specs.Prelude.{Result, Ok, Err}
use Rattle.job_script.specs.declared.fault.JobCause.{JobCause}

-- go on with what was found, or stop at the fault
infixl 10 ◌>>=◌
abbrev pub ◌>>=◌ : {A B : Type 0} → Result A JobCause → (A → Result B JobCause) → Result B JobCause
(Ok x) >>= f = f x
(Err cause) >>= f = Err cause
