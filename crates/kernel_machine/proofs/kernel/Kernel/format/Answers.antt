-- A step by which the first version is stored, or the last one.
use Rattle.std.specs.Prelude.{◌≡◌, ◌<◌}
use Rattle.std.proofs.Common.{arith, subst, sym}
use Rattle.sls_base.specs.declared.fixed.TheConstants.{LEADER}
use Rattle.pmem_model.specs.Memory.{word_at}
use Rattle.first_format.specs.Shows.{FormattingShows, turns_left}
use Rattle.machine_contract.specs.declared.answers.Did.TheVariants as did
use Rattle.machine_contract.specs.declared.answers.Why.TheVariants as why
use Rattle.kernel_machine.specs.declared.work.Work.{Work}
use Rattle.kernel_machine.specs.declared.work.Work.TheVariants as work
use Rattle.kernel_machine.specs.Shows.{IsAt}
use Rattle.kernel_machine.specs.Turns.{TakesTurn}
use Rattle.kernel_machine.proofs.SidesStart.{some_left}
use Rattle.kernel_machine.proofs.Format.{format_ends, format_goes_on}
use Rattle.kernel_machine.proofs.kernel.Kernel.format.Goals as goal

pub returns-then-step-clause-goes : goal.returns-then-step-clause-goes
returns-then-step-clause-goes c = λ course is.
    let k = c.args.self.now in
    let s = c.in-Formats.start in
    let t = c.step.new.self in
    let m = c.step.new.nvm in
    let stepped = c.step.ensures in
    let at : IsAt (record k { work = work.Formats s }) course =
    subst (λ (x : Work). IsAt (record k { work = x }) course) c.in-Formats.is is in
    let shows : FormattingShows t (word_at m) s.image k.cores = stepped.shows k.cores at.work.shows in
    let end : turns_left t ≡ 0 = stepped.last.0 c.if-step.true in
    let accepted = at.work.shows.begun.accepted in
    subst (λ (x : Work). TakesTurn (record k { work = x }) course LEADER (did.Inner why.Format)
    (record k { nvm = m; work = c.formatted.result })) (sym c.in-Formats.is)
    (format_ends k s course at t m stepped.counts stepped.one stepped.operation stepped.home shows c.formatted.result
    (c.formatted.ensures (record s { formatting = t }) c.replace.ensures.value)
    (c.formatting.ensures.ends t (word_at m) s.image k.cores end shows)
    (c.formatted_words_stand.ensures.stand s.image k.cores accepted at.some at.most)
    (c.formatted_words_stand.ensures.are s.image k.cores accepted at.work.bytes at.some at.most)
    (c.worlds_are_sound.ensures.first s.image k.cores accepted at.work.bytes))

pub returns-else-step-clause-goes : goal.returns-else-step-clause-goes
returns-else-step-clause-goes c = λ course is.
    let k = c.args.self.now in
    let s = c.in-Formats.start in
    let t = c.step.new.self in
    let m = c.step.new.nvm in
    let stepped = c.step.ensures in
    let at : IsAt (record k { work = work.Formats s }) course =
    subst (λ (x : Work). IsAt (record k { work = x }) course) c.in-Formats.is is in
    let falls = stepped.falls in
    let some = some_left c.step.result (turns_left t) c.if-step.false stepped.last in
    let fewer : turns_left t < turns_left s.formatting = omega (arith, falls, some) in
    subst (λ (x : Work). TakesTurn (record k { work = x }) course LEADER (did.Inner why.Format)
    (record k { nvm = m; work = work.Formats (record s { formatting = t }) })) (sym c.in-Formats.is)
    (format_goes_on k s course at t m stepped.counts stepped.one stepped.operation stepped.home
    (stepped.shows k.cores at.work.shows) fewer)
