use Rattle.leader_helper.specs.First.{IsNoneFrom}
use Rattle.leader_helper.specs.Turns.{is_to_flush}
use Rattle.leader_helper.proofs.finding.next_stored.Given as goal

abbrev pub invariant-loop-page : goal.invariant-loop-page
invariant-loop-page l = IsNoneFrom l.first l.page (is_to_flush l.rooms)
