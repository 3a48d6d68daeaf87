use Rattle.std.proofs.Common.{refl}
use Rattle.leader_helper.specs.declared.stage.Stage.TheVariants as at
use Rattle.leader_helper.proofs.Applies.{are_at_rest}
use Rattle.leader_helper.proofs.Turned.{turns_now}
use Rattle.leader_helper.proofs.Writing.{is_led_from, is_led_to, none_applying, none_writing}
use Rattle.leader_helper.proofs.leader.Leader.step.Goals as goal

pub flush_first-requires-clause-led : goal.flush_first-requires-clause-led
flush_first-requires-clause-led c = is_led_to at.Gather c.in-Gather.is refl c.requires.leads

pub flush_first-requires-clause-settled : goal.flush_first-requires-clause-settled
flush_first-requires-clause-settled c = c.requires.settled c.in-Gather.is

pub returns-in-Gather-clause-writes : goal.returns-in-Gather-clause-writes
returns-in-Gather-clause-writes c = λ v cont of h. c.flush_first.ensures.writes v cont h

pub returns-in-Gather-clause-applies : goal.returns-in-Gather-clause-applies
returns-in-Gather-clause-applies c = λ v saved pages h. absurd (none_applying at.Gather c.in-Gather.is refl h)

pub returns-in-Gather-clause-left : goal.returns-in-Gather-clause-left
returns-in-Gather-clause-left c = λ other. c.flush_first.ensures.turn.left

pub returns-in-Gather-clause-led : goal.returns-in-Gather-clause-led
returns-in-Gather-clause-led c = λ other. c.flush_first.ensures.turn.pages

pub returns-in-Gather-clause-running : goal.returns-in-Gather-clause-running
returns-in-Gather-clause-running c = c.flush_first.ensures.turn.running

pub flush_next-requires-clause-led : goal.flush_next-requires-clause-led
flush_next-requires-clause-led c = is_led_to (at.Pages c.in-Pages.first) c.in-Pages.is refl c.requires.leads

pub returns-in-Pages-clause-writes : goal.returns-in-Pages-clause-writes
returns-in-Pages-clause-writes c = λ v cont of h. c.flush_next.ensures.writes v cont h

pub returns-in-Pages-clause-applies : goal.returns-in-Pages-clause-applies
returns-in-Pages-clause-applies c = λ v saved pages h. absurd (none_applying (at.Pages c.in-Pages.first) c.in-Pages.is refl h)

pub returns-in-Pages-clause-left : goal.returns-in-Pages-clause-left
returns-in-Pages-clause-left c = λ other. c.flush_next.ensures.turn.left

pub returns-in-Pages-clause-led : goal.returns-in-Pages-clause-led
returns-in-Pages-clause-led c = λ other. c.flush_next.ensures.turn.pages

pub returns-in-Pages-clause-running : goal.returns-in-Pages-clause-running
returns-in-Pages-clause-running c = c.flush_next.ensures.turn.running

pub write_next-requires-clause-led : goal.write_next-requires-clause-led
write_next-requires-clause-led c = is_led_to (at.Records c.in-Records.first) c.in-Records.is refl c.requires.leads

pub returns-in-Records-clause-writes : goal.returns-in-Records-clause-writes
returns-in-Records-clause-writes c = λ v cont of h. c.write_next.ensures.writes v cont of h

pub returns-in-Records-clause-applies : goal.returns-in-Records-clause-applies
returns-in-Records-clause-applies c = λ v saved pages h. absurd (none_applying (at.Records c.in-Records.first) c.in-Records.is refl h)

pub returns-in-Records-clause-left : goal.returns-in-Records-clause-left
returns-in-Records-clause-left c = λ other. c.write_next.ensures.turn.left

pub returns-in-Records-clause-led : goal.returns-in-Records-clause-led
returns-in-Records-clause-led c = λ other. c.write_next.ensures.turn.pages

pub returns-in-Records-clause-running : goal.returns-in-Records-clause-running
returns-in-Records-clause-running c = c.write_next.ensures.turn.running

pub log_next-requires-clause-led : goal.log_next-requires-clause-led
log_next-requires-clause-led c = is_led_to at.Log c.in-Log.is refl c.requires.leads

pub returns-in-Log-clause-writes : goal.returns-in-Log-clause-writes
returns-in-Log-clause-writes c = λ v cont of h. c.log_next.ensures.writes v cont h

pub returns-in-Log-clause-applies : goal.returns-in-Log-clause-applies
returns-in-Log-clause-applies c = λ v saved pages h. absurd (none_applying at.Log c.in-Log.is refl h)

pub returns-in-Log-clause-left : goal.returns-in-Log-clause-left
returns-in-Log-clause-left c = λ other. c.log_next.ensures.turn.left

pub returns-in-Log-clause-led : goal.returns-in-Log-clause-led
returns-in-Log-clause-led c = λ other. c.log_next.ensures.turn.pages

pub returns-in-Log-clause-running : goal.returns-in-Log-clause-running
returns-in-Log-clause-running c = c.log_next.ensures.turn.running

pub fence_records-requires-clause-led : goal.fence_records-requires-clause-led
fence_records-requires-clause-led c = is_led_to at.Fence c.in-Fence.is refl c.requires.leads

pub returns-in-Fence-clause-writes : goal.returns-in-Fence-clause-writes
returns-in-Fence-clause-writes c = λ v cont of h. c.fence_records.ensures.writes v cont h

pub returns-in-Fence-clause-applies : goal.returns-in-Fence-clause-applies
returns-in-Fence-clause-applies c = λ v saved pages h. absurd (none_applying at.Fence c.in-Fence.is refl h)

pub returns-in-Fence-clause-left : goal.returns-in-Fence-clause-left
returns-in-Fence-clause-left c = λ other. c.fence_records.ensures.turn.left

pub returns-in-Fence-clause-led : goal.returns-in-Fence-clause-led
returns-in-Fence-clause-led c = λ other. c.fence_records.ensures.turn.pages

pub returns-in-Fence-clause-running : goal.returns-in-Fence-clause-running
returns-in-Fence-clause-running c = c.fence_records.ensures.turn.running

pub tag_next-requires-clause-led : goal.tag_next-requires-clause-led
tag_next-requires-clause-led c = is_led_to (at.Tags c.in-Tags.first) c.in-Tags.is refl c.requires.leads

pub returns-in-Tags-clause-writes : goal.returns-in-Tags-clause-writes
returns-in-Tags-clause-writes c = λ v cont of h. c.tag_next.ensures.writes v cont h

pub returns-in-Tags-clause-applies : goal.returns-in-Tags-clause-applies
returns-in-Tags-clause-applies c = λ v saved pages h. absurd (none_applying (at.Tags c.in-Tags.first) c.in-Tags.is refl h)

pub returns-in-Tags-clause-left : goal.returns-in-Tags-clause-left
returns-in-Tags-clause-left c = λ other. c.tag_next.ensures.turn.left

pub returns-in-Tags-clause-led : goal.returns-in-Tags-clause-led
returns-in-Tags-clause-led c = λ other. c.tag_next.ensures.turn.pages

pub returns-in-Tags-clause-running : goal.returns-in-Tags-clause-running
returns-in-Tags-clause-running c = c.tag_next.ensures.turn.running

pub commit_next-requires-clause-led : goal.commit_next-requires-clause-led
commit_next-requires-clause-led c = is_led_to at.Commit c.in-Commit.is refl c.requires.leads

pub returns-in-Commit-clause-writes : goal.returns-in-Commit-clause-writes
returns-in-Commit-clause-writes c = λ v cont of h. c.commit_next.ensures.writes v cont h

pub returns-in-Commit-clause-applies : goal.returns-in-Commit-clause-applies
returns-in-Commit-clause-applies c = λ v saved pages h. absurd (none_applying at.Commit c.in-Commit.is refl h)

pub returns-in-Commit-clause-left : goal.returns-in-Commit-clause-left
returns-in-Commit-clause-left c = λ other. c.commit_next.ensures.left

pub returns-in-Commit-clause-last : goal.returns-in-Commit-clause-last
returns-in-Commit-clause-last c = λ is. absurd (c.commit_next.ensures.goes_on is)

pub returns-in-Commit-clause-still : goal.returns-in-Commit-clause-still
returns-in-Commit-clause-still c = λ is. absurd (c.commit_next.ensures.goes_on is)

pub apply_next-requires-clause-led : goal.apply_next-requires-clause-led
apply_next-requires-clause-led c = is_led_from at.Apply c.in-Apply.is refl c.requires.leads

pub returns-in-Apply-clause-writes : goal.returns-in-Apply-clause-writes
returns-in-Apply-clause-writes c = λ v cont of h. absurd (none_writing at.Apply c.in-Apply.is refl h)

pub returns-in-Apply-clause-applies : goal.returns-in-Apply-clause-applies
returns-in-Apply-clause-applies c = c.apply_next.ensures.applies

pub returns-in-Apply-clause-left : goal.returns-in-Apply-clause-left
returns-in-Apply-clause-left c = λ other. c.apply_next.ensures.turn.left

pub returns-in-Apply-clause-led : goal.returns-in-Apply-clause-led
returns-in-Apply-clause-led c = λ other. c.apply_next.ensures.turn.pages

pub returns-in-Apply-clause-running : goal.returns-in-Apply-clause-running
returns-in-Apply-clause-running c = c.apply_next.ensures.turn.running

pub returns-in-Resume-clause-writes : goal.returns-in-Resume-clause-writes
returns-in-Resume-clause-writes c = λ v cont of h. absurd (none_writing at.Resume c.in-Resume.is refl h)

pub returns-in-Resume-clause-applies : goal.returns-in-Resume-clause-applies
returns-in-Resume-clause-applies c = λ v saved pages h. are_at_rest c.in-Resume.is h

pub returns-in-Resume-clause-left : goal.returns-in-Resume-clause-left
returns-in-Resume-clause-left c = λ other. absurd (other refl)

pub returns-in-Resume-clause-last : goal.returns-in-Resume-clause-last
returns-in-Resume-clause-last c = λ is. turns_now c.args.self.now c.args.rooms.now at.Resume c.in-Resume.is
