-- A step of recovery, or the last one, by which the machine comes up.
use Rattle.std.specs.Prelude.{◌≡◌, ◌↔◌, ◌⊎◌, ℕ, ◌<◌, Bool, false, IsTrue, None}
use Rattle.std.proofs.Common.{inl, refl, subst, sym}
use Rattle.sls_base.specs.declared.fixed.TheConstants.{LEADER}
use Rattle.pmem_model.specs.Memory.{word_at}
use Rattle.page_store.specs.Known.{Open}
use Rattle.version_rooms.specs.Rooms.{Contents}
use Rattle.machine_contract.specs.declared.answers.Did.TheVariants as did
use Rattle.machine_contract.specs.declared.answers.Why.TheVariants as why
use Rattle.machine_contract.specs.Shown.{durable_of}
use Rattle.kernel_machine.specs.declared.work.Restoring.{Restoring}
use Rattle.kernel_machine.specs.declared.work.Work.{Work}
use Rattle.kernel_machine.specs.declared.work.Work.TheVariants as work
use Rattle.kernel_machine.specs.Shows.{IsAt}
use Rattle.kernel_machine.specs.Turns.{TakesTurn}
use Rattle.kernel_machine.proofs.Recover.{goes_on_by, recover_commits, recover_first, recover_goes_on, recover_ops, recovering_then}
use Rattle.kernel_machine.proofs.Up.{up_goes}
use Rattle.kernel_machine.proofs.UpRenewed.{renewed}
use Rattle.kernel_machine.proofs.kernel.Kernel.recover.Goals as goal

pub returns-then-is_first-clause-goes : goal.returns-then-is_first-clause-goes
returns-then-is_first-clause-goes c = λ course is.
    let k = c.args.self.now in
    let s = c.in-Recovers.start in
    let r = c.ends_recovery.new.start.recovery in
    let m = c.ends_recovery.new.nvm in
    let stepped = c.ends_recovery.ensures in
    let at : IsAt (record k { work = work.Recovers s }) course =
    subst (λ (x : Work). IsAt (record k { work = x }) course) c.in-Recovers.is is in
    subst (λ (x : Work). TakesTurn (record k { work = x }) course LEADER (did.Inner why.Format)
    (record k { nvm = m; work = work.Recovers c.ends_recovery.new.start })) (sym c.in-Recovers.is)
    (subst (λ (x : Restoring). TakesTurn (record k { work = work.Recovers s }) course LEADER (did.Inner why.Format)
    (record k { nvm = m; work = work.Recovers x })) (sym stepped.rest)
    (recover_first k s course at r m stepped.counts stepped.one stepped.operation stepped.home stepped.shows
    c.if-is_first.true
    (goes_on_by s.recovery r c.ends_recovery.result c.if-not-ends_recovery.true stepped.last stepped.left)))

pub returns-else-is_first-clause-goes : goal.returns-else-is_first-clause-goes
returns-else-is_first-clause-goes c = λ course is.
    let k = c.args.self.now in
    let s = c.in-Recovers.start in
    let r = c.ends_recovery.new.start.recovery in
    let m = c.ends_recovery.new.nvm in
    let stepped = c.ends_recovery.ensures in
    let at : IsAt (record k { work = work.Recovers s }) course =
    subst (λ (x : Work). IsAt (record k { work = x }) course) c.in-Recovers.is is in
    subst (λ (x : Work). TakesTurn (record k { work = x }) course LEADER (did.Inner why.Recover)
    (record k { nvm = m; work = work.Recovers c.ends_recovery.new.start })) (sym c.in-Recovers.is)
    (subst (λ (x : Restoring). TakesTurn (record k { work = work.Recovers s }) course LEADER (did.Inner why.Recover)
    (record k { nvm = m; work = work.Recovers x })) (sym stepped.rest)
    (recover_goes_on k s course at r m stepped.counts stepped.one stepped.operation stepped.home stepped.shows
    c.if-is_first.false
    (goes_on_by s.recovery r c.ends_recovery.result c.if-not-ends_recovery.true stepped.last stepped.left)))

pub returns-clause-goes : goal.returns-clause-goes
returns-clause-goes c = λ course is.
    let k = c.args.self.now in
    let s = c.in-Recovers.start in
    let r = c.ends_recovery.new.start.recovery in
    let m = c.ends_recovery.new.nvm in
    let stepped = c.ends_recovery.ensures in
    let at : IsAt (record k { work = work.Recovers s }) course =
    subst (λ (x : Work). IsAt (record k { work = x }) course) c.in-Recovers.is is in
    let w = course.world in
    let h = recovering_then k s course at r m stepped.counts stepped.one stepped.operation stepped.home stepped.shows in
    let comes = c.came_up.ensures c.ends_recovery.new.start c.replace.ensures.value
    (stepped.last.0 c.if-not-ends_recovery.false) in
    let rooms = comes.running.rooms in
    let runs = comes.runs k.accepted w h in
    let stages = comes.stages k.accepted w h in
    let words = durable_of (word_at m) in
    let contents : Contents = record { saved = runs.saved; objects = λ i. None; pages = runs.pages } in
    let shown = runs.at_rest.shows (λ i. None) in
    let pages = shown.keep.pages in
    let stand = (c.at_rest.ensures rooms (word_at m) words w.version contents Open (λ i. inl refl)
    runs.at_rest.committer shown).1 in
    let of_one = c.parts_are_of_one.ensures in
    subst (λ (x : Work). TakesTurn (record k { work = x }) course LEADER (did.Up c.version.result)
    (record k {
      nvm = m;
      work = c.came_up.result;
      spent = Rattle.std.specs.Prelude.replicate Rattle.sls_base.specs.declared.limits.TheConstants.PAGES 0;
    })) (sym c.in-Recovers.is)
    (up_goes k s course at r m c.came_up.result comes h stepped.operation
    (recover_ops k s course at r m stepped.counts stepped.one stepped.operation stepped.home stepped.shows)
    (recover_commits k s course at r m stepped.counts stepped.one stepped.operation stepped.home stepped.shows)
    stepped.counts.cuts c.version.result c.version.ensures
    (renewed comes.running k.accepted m w runs at.work.off stages stand
    (λ page below protected slot. (c.states.ensures.protected rooms.pages (word_at m) w.version runs.saved.pages
    runs.pages Open page below protected pages).1 slot)
    (λ page origin writes below stage some.
    let has = c.states.ensures.writable rooms.pages (word_at m) w.version runs.saved.pages runs.pages Open page origin
    writes below stage some pages in (has.0, has.3))
    (λ q stands n below. of_one.numbers words w.version q runs.saved stands stand n below)
    (λ q stands id x y below is_x is_y. of_one.objects words w.version q runs.saved stands stand id x y below is_x
    is_y)))
