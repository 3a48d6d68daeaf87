use Rattle.std.proofs.Common.{refl, rules}
use Rattle.object_root.proofs.Progress.{comes_here, others_stay}
use Rattle.object_root.proofs.roots.Roots.come.Goals as goal

pub returns-clause-stage : goal.returns-clause-stage
returns-clause-stage c = comes_here c.self.inside.version c.args.id c.self.inside.progress c.args.stage (search rules)

pub returns-clause-kept : goal.returns-clause-kept
returns-clause-kept c = rw (← c.self.view_is) (record {
  others = λ i ne. others_stay c.self.inside.version c.args.id i c.self.inside.progress _ ne;
  version = refl;
  phase = refl;
})
