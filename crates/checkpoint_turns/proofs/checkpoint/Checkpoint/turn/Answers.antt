-- A core goes on with the page that it has in hand, or the leader waits for one that has, or leads.
use Rattle.std.specs.Prelude.{◌≡◌, None}
use Rattle.std.proofs.Common.{rules, subst, sym}
use Rattle.sls_base.specs.declared.fixed.TheConstants.{LEADER}
use Rattle.core_turns.specs.Runs.{prepared_by}
use Rattle.checkpoint_turns.specs.Steps.{TurnGoes}
use Rattle.checkpoint_turns.proofs.LeadWaits.{waits}
use Rattle.checkpoint_turns.proofs.checkpoint.Checkpoint.turn.Goals as goal

pub returns-in-Some : goal.returns-in-Some
returns-in-Some c = record { goes = λ w is. c.prepare.ensures.goes c.args.accepted.now w is }

pub returns-then-has_page_in_hand : goal.returns-then-has_page_in_hand
returns-then-has_page_in_hand c =
    let k = c.args.self.now in
    let free : prepared_by k.running c.args.core ≡ None = search rules in
    let found = c.has_page_in_hand.ensures.some c.if-has_page_in_hand.true in
    let leader : c.args.core ≡ LEADER = c.if-core-ne-LEADER.false in
    record {
      goes = λ w is. waits k c.args.accepted.now c.args.nvm.now w c.args.core found.0 found.1 leader free found.2 is;
    }

pub returns : goal.returns
returns c =
    let k = c.args.self.now in
    let leader : c.args.core ≡ LEADER = c.if-core-ne-LEADER.false in
    record {
      goes = λ w is. subst (λ (core : _). TurnGoes k c.args.accepted.now c.args.nvm.now w core c.lead.result
          c.lead.new.self c.lead.new.nvm) (sym leader) (c.lead.ensures.goes c.args.accepted.now w is);
    }
