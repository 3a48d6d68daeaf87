-- What a machine does that is up.
use Rattle.std.specs.Prelude.{◌≡◌, ℕ, Bool, true, false, if◌then◌else◌, List}
use Rattle.std.proofs.Common.{refl, inl, inr}
use Rattle.pmem_model.specs.Memory.{Memory}
use Rattle.plain_state.specs.Worlds.{World}
use Rattle.leader_helper.specs.Stages.{is_before_commit}
use Rattle.core_turns.specs.declared.running.Running.{Running}
use Rattle.machine_contract.specs.Side.{Mode, Formatting, Recovering, BeforeCommit, AfterCommit, IsStarting, InCheckpoint, IsUp}
use Rattle.kernel_machine.specs.declared.work.Work.{Work}
use Rattle.kernel_machine.specs.declared.work.Work.TheVariants as works
use Rattle.kernel_machine.specs.Sides.{mode_of}
use Rattle.kernel_machine.specs.Worlds.{IsWorkOf}

starts_not_up : (mode : Mode) → IsStarting mode → IsUp mode → ⊥
starts_not_up mode (inl starts) (inl runs) = cc
starts_not_up mode (inl starts) (inr (inl before)) = cc
starts_not_up mode (inl starts) (inr (inr behind)) = cc
starts_not_up mode (inr starts) (inl runs) = cc
starts_not_up mode (inr starts) (inr (inl before)) = cc
starts_not_up mode (inr starts) (inr (inr behind)) = cc

starting_mode : (first : Bool) → IsStarting (if first then Formatting else Recovering)
starting_mode true = inl refl
starting_mode false = inr refl

checkpoint_mode : (before : Bool) → InCheckpoint (if before then BeforeCommit else AfterCommit)
checkpoint_mode true = inl refl
checkpoint_mode false = inr refl

-- What formats or recovers isn't up, and what is in no checkpoint then are cores that run.

pub formats_down : IsUp Formatting → ⊥
formats_down up = starts_not_up Formatting (inl refl) up

pub recovers_down : (first : Bool) → IsUp (if first then Formatting else Recovering) → ⊥
recovers_down first up = starts_not_up _ (starting_mode first) up

pub running_of : (now : Work) (cores : ℕ) (accepted : List ℕ) (m : Memory) (w : World)
    → IsWorkOf now cores accepted m w → IsUp (mode_of now) → (InCheckpoint (mode_of now) → ⊥)
    → (k : Running) × (now ≡ works.Runs k)
running_of (works.Formats s) cores accepted m w h up outside = absurd (formats_down up)
running_of (works.Recovers s) cores accepted m w h up outside = absurd (recovers_down s.is_first up)
running_of (works.Runs k) cores accepted m w h up outside = (k, refl)
running_of (works.Saves c) cores accepted m w h up outside =
    absurd (outside (checkpoint_mode (is_before_commit c.leader.stage)))
running_of works.Between cores accepted m w h up outside = absurd h
