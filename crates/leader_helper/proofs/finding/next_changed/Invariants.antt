use Rattle.leader_helper.specs.First.{IsNoneFrom}
use Rattle.leader_helper.specs.Leads.{is_changed}
use Rattle.leader_helper.proofs.finding.next_changed.Given as goal

abbrev pub invariant-loop-id : goal.invariant-loop-id
invariant-loop-id l = IsNoneFrom l.first l.id (is_changed l.leader)
