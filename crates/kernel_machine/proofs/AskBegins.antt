-- A checkpoint of running cores begins, as what is seen of the machine says.
use Rattle.std.specs.Prelude.{◌≡◌, ◌≢◌, ℕ, ◌+◌, ◌<◌, ◌≤◌, false, List, None}
use Rattle.std.proofs.Common.{refl, ap, sym, subst, ◌∙◌, inl, arith}
use mathlib.Core.Path.{fun_ext}
use Rattle.sls_base.specs.declared.limits.TheConstants.{LAST_VERSION, PAGES}
use Rattle.pmem_model.specs.Memory.{Memory}
use Rattle.plain_state.specs.Worlds.{World}
use Rattle.plain_model.specs.Cost.{cost}
use Rattle.page_store.specs.declared.stage.PageStage.{PageStage}
use Rattle.page_store.specs.Stages.{stage_of, state_at}
use Rattle.cow_fault.specs.Faults.{steps_left}
use Rattle.core_turns.specs.declared.running.Running.{Running}
use Rattle.core_turns.specs.Runs.{Runs}
use Rattle.checkpoint_turns.specs.declared.checkpoint.Checkpoint.{Checkpoint}
use Rattle.checkpoint_turns.specs.Checkpoints.{Before, IsBefore, turns_left}
use Rattle.machine_contract.specs.declared.bounds.TheConstants.{MOST_DUE, MOST_PREPARES}
use Rattle.machine_contract.specs.declared.answers.Asked.TheVariants as asked
use Rattle.machine_contract.specs.Side.{BeforeCommit, InCheckpoint, IsUp}
use Rattle.machine_contract.specs.Lawful.{Begins}
use Rattle.machine_contract.specs.Courses.{Course}
use Rattle.machine_contract.specs.Goes.{AskGoes}
use Rattle.kernel_machine.specs.declared.kernel.Kernel.{Kernel}
use Rattle.kernel_machine.specs.declared.work.Work.{Work}
use Rattle.kernel_machine.specs.declared.work.Work.TheVariants as works
use Rattle.kernel_machine.specs.Sides.{hands_of, mode_of, seen_of, side_of, spent_at, writable_of}
use Rattle.kernel_machine.specs.Shows.{IsAt, IsLive}
use Rattle.kernel_machine.specs.Turns.{BeginsCheckpoint, StaysMade}
use Rattle.kernel_machine.proofs.SeenCores.{runs_of}
use Rattle.kernel_machine.proofs.SaveSides.{prepares_same}
use Rattle.kernel_machine.proofs.SaveEvents.{mode_before, same_side, side_with}
use Rattle.kernel_machine.proofs.HandsSeen.{hand_same, hands_same, writable_alike}
use Rattle.kernel_machine.proofs.AskSides.{running_of}

-- the machine at something else
abbrev pub at_work : Kernel → Work → Kernel
at_work old now = record old { work = now }

-- the same, and no checkpoint is wished for
abbrev pub begins_work : Kernel → Work → Kernel
begins_work old now = record old { work = now; wish = false }

module _ (old : Kernel) (c : Course) (k : Running) (n : Checkpoint) (at : IsAt (at_work old (works.Runs k)) c)
    (before : IsBefore n old.accepted old.nvm c.world) (prepares : n.running.prepares ≡ k.prepares)
    (stages : (page : ℕ) → page < PAGES → stage_of n.running.rooms.pages page ≡ stage_of k.rooms.pages page) where
  side_is : side_of (begins_work old (works.Saves n))
      ≡ side_with false BeforeCommit (turns_left n) (hands_of (works.Runs k) old.cores) (spent_at old.spent)
      (writable_of (works.Runs k))
  side_is =
      let hands =
      hands_same k n.running old.cores (λ core. hand_same k n.running core (prepares_same k n.running prepares core)
      (λ page is. ap steps_left (stages page (at.work.in_range core page is)))) in
      let writable =
      fun_ext (λ page. writable_alike k n.running page (λ below. ap state_at (stages page below))) in
      same_side false (mode_before n old.accepted old.nvm c.world before) refl hands refl writable

  begins : c.world.version < LAST_VERSION → turns_left n + MOST_DUE ≤ cost c.world
      → Begins c.world (side_of (at_work old (works.Runs k))) (side_of (begins_work old (works.Saves n)))
  begins below left = record {
    runs = refl;
    in_range = below;
    left = left;
    board = record { count = refl; page = λ i. refl; drawn = λ i. refl; home = λ i home. home };
    home = λ entry inside. absurd (omega (arith, inside));
    rest = side_is;
  }

  ask_goes : c.world.version < LAST_VERSION → turns_left n + MOST_DUE ≤ cost c.world
      → AskGoes asked.Started (seen_of (at_work old (works.Runs k))) c (seen_of (begins_work old (works.Saves n)))
  ask_goes below left = record { up = inl refl; lawful = begins below left; rest = refl }

  ask_at : IsAt (begins_work old (works.Saves n)) c
  ask_at = record {
    work = Before before;
    hands = record {
      below = λ core page is. at.hands.below core page
          (sym (prepares_same k n.running prepares core) ∙ is);
      seldom = λ page below. subst (λ (s : PageStage). spent_at old.spent page + steps_left s ≤ MOST_PREPARES)
          (sym (stages page below)) (at.hands.seldom page below);
    };
    some = at.some;
    most = at.most;
    cores = at.cores;
    saved_cores = at.saved_cores;
    commits = at.commits;
    cuts = at.cuts;
  }

-- what is up, and in no checkpoint, are cores that run
pub cores_of : (old : Kernel) → IsUp (mode_of old.work) → IsLive old → (InCheckpoint (mode_of old.work) → ⊥)
    → (k : Running) × (old.work ≡ works.Runs k)
cores_of old up live outside =
    running_of old.work old.cores old.accepted old.nvm live.course.world live.is_at.work up outside

-- a version that isn't the last one is below it
pub below_last : (k : Running) (accepted : List ℕ) (m : Memory) (w : World) → Runs k accepted m w
    → w.version ≢ LAST_VERSION → w.version < LAST_VERSION
below_last k accepted m w h other =
    let most = (h.at_rest.shows (λ id. None)).keep.in_range in omega (arith, most, other)

-- The same of a machine that is at running cores, with what begins.
module _ (old : Kernel) (c : Course) (k : Running) (now : Work) (is : old.work ≡ works.Runs k) (at : IsAt old c)
    (begun : BeginsCheckpoint k old.nvm now) (below : c.world.version < LAST_VERSION) where
  at_cores : IsAt (at_work old (works.Runs k)) c
  at_cores = subst (λ (x : Work). IsAt (at_work old x) c) is at

  runs : Runs k old.accepted old.nvm c.world
  runs = runs_of old c k is at

  before : IsBefore begun.checkpoint old.accepted old.nvm c.world
  before = begun.before old.accepted c.world below (at.cores ∙ sym at.saved_cores) runs

  pub begun_goes : AskGoes asked.Started (seen_of old) c (seen_of (begins_work old now))
  begun_goes =
      let saves =
      ask_goes old c k begun.checkpoint at_cores before begun.prepares begun.stages below
      (begun.left old.accepted c.world below runs) in
      subst (λ (x : Work). AskGoes asked.Started (seen_of (at_work old x)) c (seen_of (begins_work old now))) (sym is)
      (subst
      (λ (x : Work). AskGoes asked.Started (seen_of (at_work old (works.Runs k))) c (seen_of (begins_work old x)))
      (sym begun.is) saves)

  pub begun_at : IsAt (begins_work old now) c
  begun_at =
      subst (λ (x : Work). IsAt (begins_work old x) c) (sym begun.is)
      (ask_at old c k begun.checkpoint at_cores before begun.prepares begun.stages)

pub begun_made : (old : Kernel) (k : Running) (now : Work) → BeginsCheckpoint k old.nvm now
    → StaysMade old (begins_work old now)
begun_made old k now begun =
    subst (λ (x : Work). StaysMade old (begins_work old x)) (sym begun.is) (λ image h. tt)
