-- What a run tells of a job that is at fault.
use Rattle.std.proofs.Common.{◌≡◌, inl, inr, ℕ, List, Option, Some, None, IfSome, sym, ◌∙◌, subst}
use Rattle.pmem_model.specs.Memory as memory
use Rattle.job_script.specs.declared.fault.JobCause.{JobCause}
use Rattle.job_script.specs.Grammar.{Good, Faulty, verdict}
use Rattle.job_run.specs.declared.status.Status.{Status}
use Rattle.job_run.specs.declared.status.Status.TheVariants as status
use Rattle.job_run.specs.declared.report.Printed.{Printed}
use Rattle.job_run.specs.declared.report.Printed.TheVariants as line
use Rattle.job_run.specs.Job.{LastLine, LeavesRun, TellsFault, AnswersFault}

told : (left left_after : Option (List ℕ)) (source_ended : Type 0) (faults faults_after : ℕ) (old new : Option (List ℕ)) (came nvm : memory.Memory)
    → LeavesRun left left_after source_ended faults faults_after old new came status.BadJob nvm → IfSome left (λ text. TellsFault text old new)
told None left_after source_ended faults faults_after old new came nvm did = tt
told (Some all) left_after source_ended faults faults_after old new came nvm did = elim did [
  | inl failed ↦ (let other = failed.ends.last_line.0 in cc)
  | inr more ↦ elim more [
    | inl none ↦ (let other = none.last_line.0 in cc)
    | inr rest ↦ elim rest [
      | inl bad ↦ record { at = bad.at; cause = bad.cause; fault = bad.read.is_text ∙ bad.read.says; told = bad.ends.last_line.1 }
      | inr ran ↦ absurd ran.run
    ]
  ]
]

-- a run that is answered so tells the fault
pub tells : (left left_after : Option (List ℕ)) (source_ended : Type 0) (faults faults_after : ℕ) (old new : Option (List ℕ)) (came : memory.Memory) (ended : Status) (nvm : memory.Memory)
    → LeavesRun left left_after source_ended faults faults_after old new came ended nvm → ended ≡ status.BadJob → IfSome left (λ text. TellsFault text old new)
tells left left_after source_ended faults faults_after old new came ended nvm did is =
    let P : Status → Type 0 = λ s. LeavesRun left left_after source_ended faults faults_after old new came s nvm in
    told left left_after source_ended faults faults_after old new came nvm (subst P is did)

-- a last line that tells why nothing was read
others : (wanted : Status) (last : Printed) (at : ℕ) (cause : JobCause) (old new : Option (List ℕ)) (ended : Status) → (wanted ≡ status.Done → ⊥) → (wanted ≡ status.Usage → ⊥) → (wanted ≡ status.BadJob → ⊥)
    → LastLine wanted last old new ended → AnswersFault at cause old new ended
others wanted last at cause old new status.Done done usage bad is = done is.0
others wanted last at cause old new status.Usage done usage bad is = usage is.0
others wanted last at cause old new status.BadJob done usage bad is = absurd (bad is.0)
others wanted last at cause old new status.ReadFault done usage bad is = tt
others wanted last at cause old new status.WriteFault done usage bad is = tt
others wanted last at cause old new status.Memory done usage bad is = tt

-- the line of the fault
own : (at : ℕ) (cause : JobCause) (old new : Option (List ℕ)) (ended : Status) → LastLine status.BadJob (line.BadJob at cause) old new ended → AnswersFault at cause old new ended
own at cause old new status.Done is = let other = is.0 in cc
own at cause old new status.Usage is = let other = is.0 in cc
own at cause old new status.BadJob is = is.1
own at cause old new status.ReadFault is = tt
own at cause old new status.WriteFault is = tt
own at cause old new status.Memory is = tt

-- a job at fault is answered by its fault, where it was read and there was memory
pub answers : (left left_after : Option (List ℕ)) (source_ended : Type 0) (faults faults_after : ℕ) (old new : Option (List ℕ)) (came : memory.Memory) (ended : Status) (nvm : memory.Memory)
    → LeavesRun left left_after source_ended faults faults_after old new came ended nvm → IfSome left (λ text. (at : ℕ) (cause : JobCause) → verdict text ≡ Faulty at cause → AnswersFault at cause old new ended)
answers None left_after source_ended faults faults_after old new came ended nvm did = tt
answers (Some all) left_after source_ended faults faults_after old new came ended nvm did = λ at cause fault. elim did [
  | inl failed ↦ others status.ReadFault line.ReadFault at cause old new ended (λ e. cc) (λ e. cc) (λ e. cc) failed.ends.last_line
  | inr more ↦ elim more [
    | inl none ↦ others status.Memory line.Memory at cause old new ended (λ e. cc) (λ e. cc) (λ e. cc) none.last_line
    | inr rest ↦ elim rest [
      | inl bad ↦
          (let says : Faulty bad.at bad.cause ≡ Faulty at cause = sym (bad.read.is_text ∙ bad.read.says) ∙ fault in
          let line_is : bad.at ≡ at = cc in
          let cause_is : bad.cause ≡ cause = cc in
          let N : ℕ → Type 0 = λ n. LastLine status.BadJob (line.BadJob n bad.cause) old new ended in
          let C : JobCause → Type 0 = λ c. LastLine status.BadJob (line.BadJob at c) old new ended in
          own at cause old new ended (subst C cause_is (subst N line_is bad.ends.last_line)))
      | inr ran ↦ (let says : Good ran.lines ≡ Faulty at cause = sym (ran.read.is_text ∙ ran.read.says) ∙ fault in absurd (cc))
    ]
  ]
]
