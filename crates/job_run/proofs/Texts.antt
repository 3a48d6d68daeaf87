-- What is read of a source is its text, or more of it than a job has.
use Rattle.std.proofs.Common.{◌≡◌, inl, inr, ℕ, ◌<◌, ◌≤◌, List, [], length, take, drop, take-append-drop, Option, Some, None, IfSome, is_some, ⊎_elim, arith, sym, ap, refl, ◌∙◌, nat_lt, true}
use Rattle.std.proofs.lemmas.Bool.{cases_lt}
use Rattle.std.proofs.lemmas.Bool.Decides.{nat_tests}
use Rattle.std.proofs.lemmas.List.{take_all, length-take}
use Rattle.std.specs.Io.KnownBytes.{IsAtEnd}
use Rattle.pmem_model.specs.Memory as memory
use Rattle.job_script.specs.declared.line.Line.{Line}
use Rattle.job_script.specs.declared.fault.JobCause.TheVariants.{TooLong}
use Rattle.job_script.specs.Grammar.{Good, Faulty, verdict}
use Rattle.job_run.specs.declared.status.Status.{Status}
use Rattle.sls_io.specs.Source.{TakesAtMost}
use Rattle.job_run.specs.Job.{LeavesText, LeavesRun}

long_verdict : (text : List ℕ) → 65536 < length text → verdict text ≡ Faulty 0 TooLong
unfolding verdict
long_verdict text h = let test : nat_lt 65536 (length text) ≡ true = grind (arith, nat_tests) in rw test refl

same_verdict : (all : List ℕ) → verdict all ≡ verdict (take 65537 all)
same_verdict all = ⊎_elim
    (λ (long : 65536 < length all). long_verdict all long ∙ sym (long_verdict (take 65537 all) (let e = length-take 65537 all in omega arith)))
    (λ (short : length all ≤ 65536). ap verdict (sym (take_all 65537 all (omega arith))))
    (cases_lt 65536 (length all))

good_short : (text : List ℕ) (lines : List Line) → verdict text ≡ Good lines → length text ≤ 65536
good_short text lines good = ⊎_elim
    (λ (long : 65536 < length text). let bad = long_verdict text long in cc)
    (λ (short : length text ≤ 65536). short)
    (cases_lt 65536 (length text))

says_same : (left : Option (List ℕ)) (text : List ℕ) → IfSome left (λ all. text ≡ take 65537 all) → IfSome left (λ all. verdict all ≡ verdict text)
says_same None text h = tt
says_same (Some all) text h = same_verdict all ∙ ap verdict (sym h)

pub leaves : (left left_after : Option (List ℕ)) (source_ended : Type 0) (text : List ℕ) (faults faults_after : ℕ) (old new : Option (List ℕ)) (came : memory.Memory) (ended : Status) (nvm : memory.Memory)
    → IfSome left (λ all. text ≡ take 65537 all) → (length text ≤ 65536 → IsAtEnd left_after × source_ended) → LeavesText text old new came ended nvm → LeavesRun left left_after source_ended faults faults_after old new came ended nvm
leaves left left_after source_ended text faults faults_after old new came ended nvm first end did = elim did [
  | inl none ↦ inr (inl none)
  | inr more ↦ elim more [
    | inl bad ↦ inr (inr (inl (record { at = bad.0; cause = bad.1; read = record { text = text; is_text = says_same left text first; says = bad.2 }; ends = bad.3 })))
    | inr ran ↦ inr (inr (inr (record { lines = ran.0; read = record { text = text; is_text = says_same left text first; says = ran.1 }; at_end = (end (good_short text ran.0 ran.1)).0; met_end = (end (good_short text ran.0 ran.1)).1; run = ran.2 })))
  ]
]

-- What is taken of a source.

pub takes_none : (most : ℕ) (left : Option (List ℕ)) → TakesAtMost most left left
takes_none most None = record { taken = []; few = omega arith; first = refl }
takes_none most (Some all) = record { taken = []; few = omega arith; first = refl }

pub takes_text : (left left_after : Option (List ℕ)) → is_some left_after ≡ is_some left → IfSome left (λ all. left_after ≡ Some (drop 65537 all)) → TakesAtMost 65537 left left_after
takes_text None None told rest = takes_none 65537 None
takes_text None (Some after) told rest = cc
takes_text (Some all) left_after told rest = record {
  taken = take 65537 all;
  few = let e = length-take 65537 all in omega arith;
  first = rw rest (ap Some (sym (take-append-drop 65537 all)));
}
