-- The device takes the entry that is offered, as the world accepts it.
use Rattle.std.specs.Prelude.{◌≡◌, ℕ, ◌+◌, ◌<◌, true, List, length, slice_index, slice_set}
use Rattle.std.proofs.Common.{refl, ap, ◌∙◌}
use Rattle.sls_base.specs.declared.limits.TheConstants.{OUTPUT_CHANNELS}
use Rattle.pmem_model.specs.Memory.{Memory}
use Rattle.plain_state.specs.declared.label.Label.TheVariants as label
use Rattle.plain_state.specs.Worlds.{World}
use Rattle.plain_model.specs.Play.{accept, is_offered, next_bytes, with_released}
use Rattle.core_turns.specs.declared.running.Running.{Running}
use Rattle.core_turns.specs.Runs.{Runs}
use Rattle.checkpoint_turns.specs.declared.checkpoint.Checkpoint.{Checkpoint}
use Rattle.checkpoint_turns.specs.Checkpoints.{IsOf}
use Rattle.machine_contract.specs.Side.{IsUp}
use Rattle.machine_contract.specs.Courses.{Course, after_label}
use Rattle.kernel_machine.specs.declared.kernel.Kernel.{Kernel}
use Rattle.kernel_machine.specs.declared.work.Work.{Work}
use Rattle.kernel_machine.specs.declared.work.Work.TheVariants as works
use Rattle.kernel_machine.specs.Sides.{mode_of}
use Rattle.kernel_machine.specs.Shows.{IsAt}
use Rattle.kernel_machine.specs.Worlds.{IsWorkOf}
use Rattle.kernel_machine.proofs.AskSides.{formats_down, recovers_down}

-- What the laws below say of an entry that is accepted.
pub record AcceptLaws : Type 0 where
  pub runs : (k : Running) (accepted : List ℕ) (m : Memory) (w : World) (channel : ℕ)
      → channel < OUTPUT_CHANNELS → length accepted ≡ OUTPUT_CHANNELS → is_offered w channel ≡ true
      → Runs k accepted m w
      → Runs k (slice_set accepted channel (slice_index accepted channel + 1)) m (accept w channel)
  pub saves : (c : Checkpoint) (accepted : List ℕ) (m : Memory) (w : World) (channel : ℕ)
      → channel < OUTPUT_CHANNELS → length accepted ≡ OUTPUT_CHANNELS → is_offered w channel ≡ true
      → IsOf c accepted m w
      → IsOf c (slice_set accepted channel (slice_index accepted channel + 1)) m (accept w channel)

-- the machine, whose device has accepted one entry more
abbrev pub with_accepted : Kernel → ℕ → Kernel
with_accepted old channel =
    record old { accepted = slice_set old.accepted channel (slice_index old.accepted channel + 1) }

module _ (old : Kernel) (c : Course) (channel : ℕ) (below : channel < OUTPUT_CHANNELS)
    (offered : is_offered c.world channel ≡ true) (laws : AcceptLaws)
    (size : length old.accepted ≡ OUTPUT_CHANNELS) where
  accepts_work : (now : Work) → IsUp (mode_of now) → IsWorkOf now old.cores old.accepted old.nvm c.world
      → IsWorkOf now old.cores (with_accepted old channel).accepted old.nvm (accept c.world channel)
  accepts_work (works.Formats s) up h = absurd (formats_down up)
  accepts_work (works.Recovers s) up h = absurd (recovers_down s.is_first up)
  accepts_work (works.Runs k) up h = laws.runs k old.accepted old.nvm c.world channel below size offered h
  accepts_work (works.Saves s) up h = laws.saves s old.accepted old.nvm c.world channel below size offered h
  accepts_work works.Between up h = absurd h

  released : accept c.world channel
      ≡ record c.world { released = with_released c.world.released channel (next_bytes c.world channel) }
  released = rw offered refl

  pub taken_at : IsAt old c → IsUp (mode_of old.work)
      → IsAt (with_accepted old channel) (after_label c (label.Accept channel))
  taken_at at up = record {
    work = accepts_work old.work up at.work;
    hands = at.hands;
    some = at.some;
    most = at.most;
    cores = ap (λ (w : World). length w.now.cores) released ∙ at.cores;
    saved_cores = ap (λ (w : World). length w.saved.cores) released ∙ at.saved_cores;
    commits = at.commits;
    cuts = at.cuts;
  }
