-- Cores that run go over to a checkpoint, as long as the version isn't the last one.
use Rattle.std.specs.Prelude.{◌≡◌, ◌<◌}
use Rattle.std.proofs.Common.{◌∙◌}
use Rattle.sls_base.specs.declared.limits.TheConstants.{LAST_VERSION}
use Rattle.core_turns.specs.declared.running.Running.{Running}
use Rattle.machine_contract.specs.Courses.{Course}
use Rattle.kernel_machine.specs.declared.work.Work.TheVariants as works
use Rattle.kernel_machine.specs.Shows.{IsAt}
use Rattle.kernel_machine.specs.Turns.{BeginsCheckpoint}
use Rattle.kernel_machine.proofs.SeenCores.{runs_of}
use Rattle.kernel_machine.proofs.AskBegins.{begun_at, begun_goes, begun_made, below_last, cores_of}
use Rattle.kernel_machine.proofs.kernel.Kernel.ask.Goals as goal
use Rattle.kernel_machine.proofs.kernel.Kernel.ask.Goals.{After-saving}

pub saving-requires : goal.saving-requires
saving-requires c =
    let k = c.args.self.now in
    let live = c.requires.live in
    let there = cores_of k c.requires.up live (λ inside. (let yes = c.in_checkpoint.ensures.1 inside in absurd (cc))) in
    let runs = runs_of k live.course there.0 there.1 live.is_at in
    let told : c.replace.result ≡ works.Runs there.0 = c.replace.ensures.value ∙ there.1 in
    record { runs = (there.0, told, (k.accepted, record { world = live.course.world; runs = runs })) }

-- the cores that ran
cores : (c : After-saving) → (k : Running) × (c.args.self.now.work ≡ works.Runs k)
cores c =
    cores_of c.args.self.now c.requires.up c.requires.live
    (λ inside. (let yes = c.in_checkpoint.ensures.1 inside in absurd (cc)))

-- the version isn't the last one
not_last : (c : After-saving) (course : Course) → IsAt c.args.self.now course → course.world.version < LAST_VERSION
not_last c course at =
    let there = cores c in
    let k = c.args.self.now in
    below_last there.0 k.accepted k.nvm course.world (runs_of k course there.0 there.1 at)
    (λ last. c.if-version-eq-LAST_VERSION.false (c.version-version.ensures course at ∙ last))

-- the checkpoint
begun : (c : After-saving) → BeginsCheckpoint (cores c).0 c.args.self.now.nvm c.saving.result
begun c = (let there = cores c in c.saving.ensures there.0 (c.replace.ensures.value ∙ there.1))

pub returns-clause-goes : goal.returns-clause-goes
returns-clause-goes c = λ course at.
    let after = (goal.at.returns-clause-goes c).After-saving in
    let there = cores after in
    begun_goes c.args.self.now course there.0 c.saving.result there.1 at (begun after) (not_last after course at)

pub returns-clause-is_at : goal.returns-clause-is_at
returns-clause-is_at c = λ course at.
    let after = (goal.at.returns-clause-is_at c).After-saving in
    let there = cores after in
    begun_at c.args.self.now course there.0 c.saving.result there.1 at (begun after) (not_last after course at)

pub returns-clause-made : goal.returns-clause-made
returns-clause-made c =
    let after = (goal.at.returns-clause-made c).After-saving in
    begun_made c.args.self.now (cores after).0 c.saving.result (begun after)
