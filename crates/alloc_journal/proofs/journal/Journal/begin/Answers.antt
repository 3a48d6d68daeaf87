use Rattle.std.proofs.Common.{◌+◌, ap, arith}
use Rattle.alloc_journal.proofs.SetLemmas.{pending_counts}
use Rattle.alloc_journal.proofs.journal.Journal.begin.Goals as goal

pub returns-clause-kept : goal.returns-clause-kept
returns-clause-kept c =
    let counts = pending_counts c.args.self.now.committed c.args.running.now c.differing-self.result c.differing-self.ensures in record {
      most = omega arith;
      room = λ stage n inside wanted. omega arith;
      has_entries = omega (arith, counts);
      version = c.requires.kept.version;
      next_version = λ logging. c.requires.version;
    }

pub returns-clause-left : goal.returns-clause-left
returns-clause-left c =
    ap (λ n. n + 5) (pending_counts c.args.self.now.committed c.args.running.now c.differing-self.result c.differing-self.ensures)
