use Rattle.std.proofs.Common.{◌-◌, ◌+◌, arith, sym, subst, ◌∙◌, ap}
use Rattle.sls_kernel.specs.Plain.{World, accept}
use Rattle.sls_kernel.specs.Shows.{Shows}
use Rattle.sls_kernel.specs.Side.{mode}
use Rattle.sls_kernel.specs.declared.machine.Machine.{Machine}
use Rattle.job_run.proofs.Writing.{take_goes_on, take_breaks, dry_ran, dry_breaks, all_taken, left_falls, ok_both, err_both, accept_none}
use Rattle.job_run.proofs.lines.take.Goals as goal

pub returns-in-Err-clause-broke : goal.returns-in-Err-clause-broke
returns-in-Err-clause-broke g c = λ w s.
    let t = c.entries.invariant.taking w s in
    let does = c.in-Some.ensures.world t.now t.shows in
    take_breaks c.in-Err.broken.cause _ _ _ c.in-Err.broken.nvm c.entries.machine c.args.count (c.args.count - c.entries._i) (c.args.count - (c.entries._i + 1)) c.args.channel w c.in-Some.entry t
    (left_falls c.args.count c.entries._i c.entries-test.true) does.0 c.in-Err.ensures.part (c.in-Err.ensures.stands _ does.1)

pub returns-in-None-clause-ran : goal.returns-in-None-clause-ran
returns-in-None-clause-ran g c = ok_both c.say-in-None.result c.say-in-None.ensures.same c.say-in-None.ensures.written (λ n same written w s.
    let t = c.entries.invariant.taking w s in
    let does = c.in-None.ensures.world t.now t.shows in
    let none = accept_none t.now c.args.channel does.0 in
    dry_ran _ _ _ c.entries.machine n c.args.count (c.args.count - c.entries._i) (c.args.count - (c.entries._i + 1)) c.args.channel w t
    (left_falls c.args.count c.entries._i c.entries-test.true) does.0 (subst (λ (m : Machine). Shows m t.now) (sym same) (subst (λ (x : World). Shows c.accept.new.self x) none does.1)) written)

pub returns-in-None-clause-broke : goal.returns-in-None-clause-broke
returns-in-None-clause-broke g c = err_both c.say-in-None.result c.say-in-None.ensures.part c.say-in-None.ensures.stands (λ broken part stands w s.
    let t = c.entries.invariant.taking w s in
    let does = c.in-None.ensures.world t.now t.shows in
    let none = accept_none t.now c.args.channel does.0 in
    dry_breaks broken.cause _ _ _ broken.nvm c.entries.machine c.args.count (c.args.count - c.entries._i) (c.args.count - (c.entries._i + 1)) c.args.channel w t
    (left_falls c.args.count c.entries._i c.entries-test.true) does.0 part (stands t.now (subst (λ (x : World). Shows c.accept.new.self x) none does.1)))

pub entries-preserved : goal.entries-preserved
entries-preserved g c = record {
  up = ap mode c.in-Ok.ensures.same ∙ (c.in-Some.ensures.mode.0 ∙ c.entries.invariant.up);
  taking = λ w s.
      let t = c.entries.invariant.taking w s in
      let does = c.in-Some.ensures.world t.now t.shows in
      take_goes_on _ _ _ c.entries.machine c.in-Ok.next c.args.count (c.args.count - c.entries._i) (c.args.count - (c.entries._i + 1)) c.args.channel w c.in-Some.entry t
      (left_falls c.args.count c.entries._i c.entries-test.true) does.0 (subst (λ (m : Machine). Shows m (accept t.now c.args.channel)) (sym c.in-Ok.ensures.same) does.1) c.in-Ok.ensures.written;
  told = c.in-Ok.ensures.told ∙ c.entries.invariant.told;
  falls = omega (arith, c.in-Ok.ensures.never_falls, c.entries.invariant.falls);
  wants = c.in-Ok.ensures.no_want ∙ c.entries.invariant.wants;
}

pub returns-clause-ran : goal.returns-clause-ran
returns-clause-ran g c = λ w s. all_taken _ _ c.entries.machine c.args.count (c.args.count - c.entries._i) c.args.channel w (c.entries.invariant.taking w s) (omega arith)
