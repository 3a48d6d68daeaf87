use Rattle.std.proofs.Common.{inr, arith, slice_index, [], ◌∷◌}
use Rattle.pmem_model.specs.Events.{flush_calm}
use Rattle.pmem_model.specs.PlaceLaws.{inside_word, inside_line}
use Rattle.sls_base.specs.declared.fixed.TheConstants.{LEADER}
use Rattle.version_commit.proofs.Steps.{flushed_on}
use Rattle.version_commit.proofs.step.go_on.Goals as goal

pub burst-requires-clause-inside : goal.burst-requires-clause-inside
burst-requires-clause-inside c = inside_word c.args.at

pub flush-requires-clause-inside : goal.flush-requires-clause-inside
flush-requires-clause-inside c = rw c.line_at.ensures (inside_line c.args.at)

pub returns-in-Flush-clause-others : goal.returns-in-Flush-clause-others
returns-in-Flush-clause-others c = λ i other. flush_calm _ _ LEADER c.line_at.result 8 c.flush.ensures.words i

pub returns-in-Flush-clause-shows : goal.returns-in-Flush-clause-shows
returns-in-Flush-clause-shows c = λ was reads h.
    rw c.in-Flush.is (flushed_on _ _ c.args.at was reads (rw c.line_at.ensures at c.flush.ensures.words) (rw c.in-Flush.is at h))

pub returns-in-Store-clause-operation : goal.returns-in-Store-clause-operation
returns-in-Store-clause-operation c =
    inr (c.operations.ensures.burst LEADER c.args.at 1 (slice_index (c.args.value ∷ [])) _ _ (omega arith) (omega (arith, c.requires.table), inside_word c.args.at) c.burst.ensures.words)

pub returns-in-Flush-clause-operation : goal.returns-in-Flush-clause-operation
returns-in-Flush-clause-operation c =
    let at = c.line_at.ensures in
    inr (c.operations.ensures.flush LEADER c.line_at.result 1 _ _ (omega (arith, at, c.requires.table), rw at (inside_line c.args.at)) c.flush.ensures.words)

pub returns-in-Fence-clause-operation : goal.returns-in-Fence-clause-operation
returns-in-Fence-clause-operation c = inr (c.operations.ensures.fence LEADER _ _ c.fence.ensures.words)
