-- A turn by which the saved version is recovered, and isn't yet.
use Rattle.std.specs.Prelude.{◌≡◌, ◌↔◌, ℕ, ◌+◌, ◌<◌, ◌≤◌, ◌⊎◌, Bool, true, false, if◌then◌else◌, IsTrue}
use Rattle.std.proofs.Common.{refl, ap, sym, ◌∙◌, arith, inl, inr}
use Rattle.sls_base.specs.declared.fixed.TheConstants.{LEADER}
use Rattle.pmem_model.specs.Memory.{AllHome, KeepsCounts, Memory, count_up, word_at}
use Rattle.pmem_operations.specs.Operations.{IsAtMostOne}
use Rattle.durable_state.specs.Parts.{Parts}
use Rattle.tree_restore.specs.declared.recovery.Recovery.{Recovery}
use Rattle.tree_restore.specs.Restores.{RestoreShows, turns_left}
use Rattle.machine_contract.specs.declared.answers.Did.TheVariants as did
use Rattle.machine_contract.specs.declared.answers.Why.TheVariants as why
use Rattle.machine_contract.specs.Side.{Mode, Formatting, Recovering}
use Rattle.machine_contract.specs.Courses.{Course}
use Rattle.machine_contract.specs.Lawful.{Starts}
use Rattle.kernel_machine.specs.declared.work.Restoring.{Restoring}
use Rattle.kernel_machine.specs.declared.work.Work.TheVariants as work
use Rattle.kernel_machine.specs.declared.kernel.Kernel.{Kernel}
use Rattle.kernel_machine.specs.Sides.{side_of}
use Rattle.kernel_machine.specs.Worlds.{IsRecovering}
use Rattle.kernel_machine.specs.Shows.{IsAt}
use Rattle.kernel_machine.specs.Turns.{TakesTurn}
use Rattle.kernel_machine.proofs.SidesStart.{no_commit, one_more_at_most, some_left, start_goes}

abbrev pub mode_by : Bool → Mode
mode_by first = if first then Formatting else Recovering

pub swapped : (old new : Memory) → (new.ops ≡ old.ops) ⊎ (new.ops ≡ count_up old.ops)
    → (new.ops ≡ count_up old.ops) ⊎ (new.ops ≡ old.ops)
swapped old new one = elim one [ inl same ↦ inr same | inr more ↦ inl more ]

-- a step that doesn't end recovery leaves fewer turns
pub goes_on_by : (old new : Recovery) (ends : Bool) → ends ≡ false → IsTrue ends ↔ (turns_left new ≡ 0)
    → (turns_left new < turns_left old) ⊎ (turns_left new ≡ 0) → turns_left new < turns_left old
goes_on_by old new ends goes_on last left = elim left [
  | inl fewer ↦ fewer
  | inr none ↦ absurd (let some = some_left ends (turns_left new) goes_on last in omega (arith, some, none))
]

module _ (k : Kernel) (s : Restoring) (c : Course) (is : IsAt (record k { work = work.Recovers s }) c)
    (r : Recovery) (m : Memory) (counts : KeepsCounts k.nvm m)
    (one : (m.ops ≡ k.nvm.ops) ⊎ (m.ops ≡ count_up k.nvm.ops))
    (operation : IsAtMostOne LEADER (word_at k.nvm) (word_at m)) (home : AllHome m)
    (shows : (v : ℕ) (saved : Parts) → RestoreShows s.recovery (word_at k.nvm) v saved
    → RestoreShows r (word_at m) v saved) where
  abbrev h : IsRecovering s.recovery k.accepted k.nvm c.world
  h = is.work

  abbrev old : Kernel
  old = record k { work = work.Recovers s }

  abbrev next : Kernel
  next = record k { nvm = m; work = work.Recovers (record s { recovery = r }) }

  shows_then : RestoreShows r (word_at m) c.world.version h.saved
  shows_then = shows c.world.version h.saved h.shows

  pub recovering_then : IsRecovering r k.accepted m c.world
  recovering_then = record {
    saved = h.saved;
    shows = shows_then;
    are = h.are;
    off = h.off;
    sound = h.sound;
    counted = h.counted;
    home = home;
  }

  -- the durable version stays, so no commit is counted
  pub recover_commits : m.commits ≡ c.commits
  recover_commits = no_commit k.nvm m counts (shows_then.version.1 ∙ sym h.shows.version.1) ∙ is.commits

  pub recover_ops : m.ops ≤ k.nvm.ops + 1
  recover_ops = one_more_at_most k.nvm m (swapped k.nvm m one)

  starts : (mode : Mode) → mode_by s.is_first ≡ mode → turns_left r < turns_left s.recovery
      → Starts mode (side_of old) LEADER (side_of next)
  starts mode mode_is fewer = record {
    mode_is = mode_is;
    leader = refl;
    left = omega (arith, fewer);
    given = inr refl;
    rest = refl;
  }

  at_then : IsAt next c
  at_then = record {
    work = recovering_then;
    hands = tt;
    some = is.some;
    most = is.most;
    cores = is.cores;
    saved_cores = is.saved_cores;
    commits = recover_commits;
    cuts = counts.cuts ∙ is.cuts;
  }

  -- behind formatting it is a turn of that
  pub recover_first : s.is_first ≡ true → turns_left r < turns_left s.recovery
      → TakesTurn old c LEADER (did.Inner why.Format) next
  recover_first first fewer = record {
    goes = start_goes old next c why.Format (starts Formatting (ap mode_by first) fewer) refl operation recover_ops refl
        counts.cuts;
    is_at = at_then;
  }

  pub recover_goes_on : s.is_first ≡ false → turns_left r < turns_left s.recovery
      → TakesTurn old c LEADER (did.Inner why.Recover) next
  recover_goes_on first fewer = record {
    goes = start_goes old next c why.Recover (starts Recovering (ap mode_by first) fewer) refl operation recover_ops refl
        counts.cuts;
    is_at = at_then;
  }
