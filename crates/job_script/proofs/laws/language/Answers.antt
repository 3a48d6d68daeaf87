use Rattle.job_script.proofs.Verdicts.{job_text, verdict_of_job, first_fault, verdict_of_fault}
use Rattle.job_script.proofs.laws.language.Goals as goal

pub returns : goal.returns
returns c = record {
  job = λ text said. (job_text text said, verdict_of_job text said);
  fault = λ text n cause. (first_fault text n cause, verdict_of_fault);
}
