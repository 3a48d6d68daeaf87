use Rattle.std.proofs.Common.{◌+◌, sym, ap, ◌∙◌, subst, rules}
use Rattle.pmem_model.specs.Memory.{word_at}
use Rattle.sls_kernel.specs.Shows.{memory_of}
use Rattle.sls_kernel.specs.declared.machine.Machine.{Machine}
use Rattle.job_run.specs.Ends.{Keeps}
use Rattle.job_run.specs.WriteBacks.{chooses}
use Rattle.job_run.proofs.Chosen.{IsChosenTo, start, written, passed, kept_back}
use Rattle.job_run.proofs.drive.write_backs.Goals as goal
use Rattle.job_run.proofs.drive.write_backs.Goals.{then-chooses, else-chooses}

pub loop-word-init : goal.loop-word-init
loop-word-init c = record { up = c.requires; kept = λ w s. s; chosen = start c.args.seed (word_at (memory_of c.args.machine.now)) }

pub loop-word-preserved : goal.loop-word-preserved
loop-word-preserved c =
    let i = c.loop-word in
    let first = word_at (memory_of c.args.machine.now) in
    let found = c.in-Some.ensures.found in
    let choice = ap chooses (sym c.next.ensures.given) ∙ sym c.chooses.ensures in
    let P : Machine → Type 0 = λ m. IsChosenTo c.args.seed first (word_at (memory_of m)) (c.in-Some.word + 1) c.next.new.self.state in
    let K : Machine → Type 0 = λ m. Keeps c.args.machine.now m in
    elim c.if-chooses.branch [
      | then-chooses w ↦ record {
        up = search rules;
        kept = subst K (sym w.machine-is) (λ v s. kept_back i.machine w.write_back.new.self w.write_back.result i.invariant.up w.write_back.ensures.commit w.write_back.ensures.world v (i.invariant.kept v s));
        chosen = subst P (sym w.machine-is) (written c.args.seed first (word_at (memory_of i.machine)) i.from c.in-Some.word i.draws.state i.invariant.chosen found.0 found.2 c.in-Some.ensures.before (word_at (memory_of w.write_back.new.self)) c.next.new.self.state c.next.ensures.state (choice ∙ w.if-chooses.true) w.write_back.ensures.words);
      }
      | else-chooses w ↦ record {
        up = search rules;
        kept = subst K (sym w.machine-is) i.invariant.kept;
        chosen = subst P (sym w.machine-is) (passed c.args.seed first (word_at (memory_of i.machine)) i.from c.in-Some.word i.draws.state i.invariant.chosen found.0 found.2 c.in-Some.ensures.before c.next.new.self.state c.next.ensures.state (choice ∙ w.if-chooses.false));
      }
    ]
