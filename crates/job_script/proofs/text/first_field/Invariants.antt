use Rattle.std.proofs.Common.{◌≡◌, length}
use Rattle.job_script.specs.Text.{fields_of}
use Rattle.job_script.proofs.text.first_field.Given as goal

-- nothing but spaces was passed
abbrev pub invariant-loop-part : goal.invariant-loop-part
invariant-loop-part l = fields_of l.rest ≡ fields_of l.line

abbrev pub decreases-loop-part : goal.decreases-loop-part
decreases-loop-part l = length l.rest
