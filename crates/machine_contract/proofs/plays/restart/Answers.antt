use Rattle.std.proofs.Common.{◌≡◌}
use Rattle.pmem_model.specs.Memory.{word_at}
use Rattle.pmem_layout.specs.declared.places.TheConstants.{FORMAT_AT}
use Rattle.plain_state.specs.declared.label.Label.TheVariants as label
use Rattle.machine_contract.specs.Courses.{after_label}
use Rattle.machine_contract.specs.Shown.{durable_of}
use Rattle.machine_contract.proofs.Chains.{cut_goes}
use Rattle.machine_contract.proofs.plays.restart.Goals as goal

-- the memory wasn't formatted: the machine was formatting from this image
pub returns-in-Ok-clause-shows : goal.returns-in-Ok-clause-shows
returns-in-Ok-clause-shows g c = λ k s.
    c.in-Ok.ensures.shows (after_label k label.Cut) (c.cut.ensures.shows k s)
    (λ (zero : durable_of (word_at c.cut.result.nvm) FORMAT_AT ≡ 0).
    rw c.cores-cores.ensures.number ((c.cut.ensures.unformatted k c.args.image.now s c.requires.made zero).world))

pub returns-in-Ok-clause-goes : goal.returns-in-Ok-clause-goes
returns-in-Ok-clause-goes g c = λ k s.
    let T = g.M.Machine in
    let law = g.met.M.Machine.is_shown in
    let next = after_label k label.Cut in
    let shows = returns-in-Ok-clause-shows g c k s in
    cut_goes T.format c.version-version.result (T.seen c.args.machine) (T.seen c.in-Ok.lit) c.cut.result k
    c.args.image.now
    c.cut.ensures.words c.cut.ensures.accepted c.cut.ensures.counts
    (λ (zero : durable_of (word_at c.cut.result.nvm) FORMAT_AT ≡ 0).
    c.cut.ensures.unformatted k c.args.image.now s c.requires.made zero)
    c.in-Ok.ensures.lit (law c.args.machine k s) (law c.in-Ok.lit next shows) (c.version-version.ensures next shows)
