-- The order of a job: `cores`, 1 to 1,024 words of the program, actions, `end`.
use Rattle.std.specs.Prelude.{ℕ, ◌+◌, Result, Ok, Err, nat_lt, nat_le, if◌then◌else◌}
use Rattle.sls_base.specs.declared.texts.TheConstants.{PROGRAM_WORDS}
use Rattle.job_script.specs.declared.fault.JobCause.{JobCause}
use Rattle.job_script.specs.declared.fault.JobCause.TheVariants.{Order, Draws}
use Rattle.job_script.specs.declared.line.Line.{Line}
use Rattle.job_script.specs.declared.line.Line.TheVariants.{Cores, Code, Run, Checkpoint, Cut, Take, End}
use Rattle.job_script.specs.declared.section.Section.{Section}
use Rattle.job_script.specs.declared.section.Section.TheVariants.{Start, Program, Actions, Ended}

-- the section after an action or `end`, behind some draws: there are at most 2,000,000
abbrev pub after_action : ℕ → Line → Result Section JobCause
after_action draws (Run n) = if nat_le (draws + n) 2000000 then Ok (Actions (draws + n)) else Err Draws
after_action draws Checkpoint = Ok (Actions draws)
after_action draws (Cut seed) = Ok (Actions draws)
after_action draws (Take channel n) = Ok (Actions draws)
after_action draws End = Ok Ended
after_action draws (Cores n) = Err Order
after_action draws (Code word) = Err Order

-- the section after a line of the program, behind some words, or after the first action
abbrev pub after_word : ℕ → Line → Result Section JobCause
after_word words (Code word) = if nat_lt words PROGRAM_WORDS then Ok (Program (words + 1)) else Err Order
after_word words line = if nat_lt 0 words then after_action 0 line else Err Order

-- the section after a line, where it may stand
abbrev pub after : Section → Line → Result Section JobCause
after Start (Cores n) = Ok (Program 0)
after Start line = Err Order
after (Program words) line = after_word words line
after (Actions draws) line = after_action draws line
after Ended line = Err Order
