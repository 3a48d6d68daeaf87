-- What a sink was given, and how often it had no memory.
use Rattle.std.specs.Prelude.{◌≡◌, ℕ, List, take, Result, Ok, Err}
use Rattle.std.specs.declared.option.Option.{Option}
use Rattle.std.specs.Io.KnownBytes.{append_known}
use Rattle.sls_base.specs.Counts.{one_more}
use Rattle.sls_io.specs.declared.sink.SinkError.{SinkError}
use Rattle.sls_io.specs.declared.sink.SinkError.TheVariants.{Failed, Memory}

-- a sink took some first ones of the bytes
abbrev pub AppendsPrefix : Option (List ℕ) → Option (List ℕ) → List ℕ → Type 0
AppendsPrefix before now bytes = (count : ℕ) × (now ≡ append_known before (take count bytes))

-- how often memory was wanting, after an answer: once more where the sink had none for the bytes
abbrev pub wants_after : {A : Type 0} → Result A SinkError → ℕ → ℕ
wants_after (Ok written) wants = wants
wants_after (Err Failed) wants = wants
wants_after (Err Memory) wants = one_more wants
