-- What tells of want of memory.
use Rattle.std.proofs.Common.{◌≡◌, inl, inr, ℕ, List, ◌++◌, Option, ap, subst, ◌∙◌}
use Rattle.std.specs.Io.KnownBytes.{append_known}
use Rattle.pmem_model.specs.Memory as memory
use Rattle.sls_kernel.specs.Plain.{World}
use Rattle.job_run.specs.declared.lines.BreakCause.{BreakCause}
use Rattle.job_run.specs.declared.lines.BreakCause.TheVariants.{NotLit}
use Rattle.job_run.specs.declared.status.Status.{Status}
use Rattle.job_run.specs.declared.status.Status.TheVariants as status
use Rattle.job_run.specs.declared.report.Printed.{Printed}
use Rattle.job_run.specs.declared.report.Printed.TheVariants as line
use Rattle.job_run.specs.Ends.{BreaksAt}
use Rattle.job_run.specs.Report.{line_text, text_of}
use Rattle.job_run.specs.Job.{TellsWant}
use Rattle.job_run.proofs.Writing.{append_known-append}

-- lines were written before
behind : (old mid new : Option (List ℕ)) (bytes : List ℕ) (wants now : ℕ) (ended : Status) → mid ≡ append_known old bytes → TellsWant ended mid new wants now → TellsWant ended old new wants now
behind old mid new bytes wants now status.Memory before tells = elim tells [
  | inl want ↦ inl want
  | inr more ↦ inr (more.0, (bytes ++ more.1.0, more.1.1 ∙ ap (λ (o : Option (List ℕ)). append_known o (line_text line.Memory)) (ap (λ (o : Option (List ℕ)). append_known o more.1.0) before ∙ append_known-append old bytes more.1.0)))
]
behind old mid new bytes wants now status.Done before tells = tells
behind old mid new bytes wants now status.Usage before tells = tells
behind old mid new bytes wants now status.BadJob before tells = tells
behind old mid new bytes wants now status.ReadFault before tells = tells
behind old mid new bytes wants now status.WriteFault before tells = tells

-- the run broke where the machine could not be lit, and then ended for want of memory
pub behind_break : (cause : BreakCause) (old mid new : Option (List ℕ)) (nvm : memory.Memory) (prints : List (Printed × World)) (wants between now : ℕ) (ended : Status)
    → BreaksAt cause old mid nvm prints → cause ≡ NotLit → between ≡ wants → TellsWant ended mid new between now → TellsWant ended old new wants now
behind_break cause old mid new nvm prints wants between now ended broken is same tells =
    let broke = subst (λ (c : BreakCause). BreaksAt c old mid nvm prints) is broken in
    behind old mid new (text_of broke.before) wants now ended broke.written.2 (subst (λ (n : ℕ). TellsWant ended mid new n now) same tells)
