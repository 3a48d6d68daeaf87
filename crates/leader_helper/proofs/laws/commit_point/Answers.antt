use Rattle.page_store.specs.Known.{Open}
use Rattle.leader_helper.specs.Stages.{page_phase}
use Rattle.leader_helper.proofs.Applies.{is_calm}
use Rattle.leader_helper.proofs.Commits.{may_commit}
use Rattle.leader_helper.proofs.laws.commit_point.Goals as goal

pub returns-clause-before : goal.returns-clause-before
returns-clause-before c = λ l r f left v cont next may h n.
    c.commit_point.ensures r f left v cont next (page_phase l.stage) may (may_commit h n) h.shows

pub returns-clause-after : goal.returns-clause-after
returns-clause-after c = λ l r f left v saved pages may h.
    let calm = is_calm h in
    c.at_rest.ensures r f left v (record { saved = saved; objects = saved.objects; pages = pages }) Open may calm.0 (calm.1 saved.objects)
