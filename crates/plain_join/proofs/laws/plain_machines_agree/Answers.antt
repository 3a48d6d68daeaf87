use Rattle.plain_join.proofs.Worlds.{first_joined, commit_joined}
use Rattle.plain_join.proofs.Ticks.{tick_joined, reply_joined}
use Rattle.plain_join.proofs.laws.plain_machines_agree.Goals as goal

pub returns-clause-first : goal.returns-clause-first
returns-clause-first c = first_joined

pub returns-clause-tick : goal.returns-clause-tick
returns-clause-tick c = tick_joined

pub returns-clause-reply : goal.returns-clause-reply
returns-clause-reply c = reply_joined

pub returns-clause-commit : goal.returns-clause-commit
returns-clause-commit c = commit_joined
