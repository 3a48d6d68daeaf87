-- What a machine is at, where it is known which.
use Rattle.std.specs.Prelude.{◌≡◌}
use Rattle.std.proofs.Common.{subst}
use Rattle.core_turns.specs.declared.running.Running.{Running as Cores}
use Rattle.core_turns.specs.Runs.{Runs}
use Rattle.checkpoint_turns.specs.declared.checkpoint.Checkpoint.{Checkpoint}
use Rattle.checkpoint_turns.specs.Checkpoints.{IsOf}
use Rattle.machine_contract.specs.Courses.{Course}
use Rattle.kernel_machine.specs.declared.work.Work.{Work}
use Rattle.kernel_machine.specs.declared.work.Work.TheVariants as work
use Rattle.kernel_machine.specs.declared.kernel.Kernel.{Kernel}
use Rattle.kernel_machine.specs.Worlds.{IsWorkOf}
use Rattle.kernel_machine.specs.Shows.{IsAt}

-- its cores run
pub runs_of : (k : Kernel) (c : Course) (r : Cores) → k.work ≡ work.Runs r → IsAt k c
    → Runs r k.accepted k.nvm c.world
runs_of k c r is at =
    subst (λ (now : Work). IsWorkOf now k.cores k.accepted k.nvm c.world) is at.work

-- a checkpoint of them is in flight
pub saves_of : (k : Kernel) (c : Course) (s : Checkpoint) → k.work ≡ work.Saves s → IsAt k c
    → IsOf s k.accepted k.nvm c.world
saves_of k c s is at =
    subst (λ (now : Work). IsWorkOf now k.cores k.accepted k.nvm c.world) is at.work
