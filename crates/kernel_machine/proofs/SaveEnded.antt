-- The leader's last turn: the cores run on.
use Rattle.std.specs.Prelude.{◌≡◌, ℕ, ◌<◌, ◌≤◌, false, Some, None}
use Rattle.std.proofs.Common.{refl, ap, sym, subst, ◌∙◌, arith, inl, inr}
use Rattle.sls_base.specs.declared.limits.TheConstants.{PAGES}
use Rattle.pmem_model.specs.Memory.{Memory, word_at}
use Rattle.page_store.specs.declared.stage.PageStage.{PageStage}
use Rattle.page_store.specs.Stages.{stage_of, state_at, state_of}
use Rattle.cow_fault.specs.Faults.{steps_left}
use Rattle.core_turns.specs.Runs.{Runs, prepared_by}
use Rattle.checkpoint_turns.specs.declared.checkpoint.Checkpoint.{Checkpoint}
use Rattle.checkpoint_turns.specs.Checkpoints.{turns_left}
use Rattle.checkpoint_turns.specs.Steps as steps
use Rattle.machine_contract.specs.declared.answers.Did.TheVariants as did
use Rattle.machine_contract.specs.declared.answers.Why.TheVariants as why
use Rattle.machine_contract.specs.Side.{CoreSide}
use Rattle.machine_contract.specs.Lawful.{Leads}
use Rattle.machine_contract.specs.Courses.{Course}
use Rattle.kernel_machine.specs.declared.work.Work.TheVariants as work
use Rattle.kernel_machine.specs.declared.kernel.Kernel.{Kernel}
use Rattle.kernel_machine.specs.Sides.{is_writable_at, side_of}
use Rattle.kernel_machine.specs.Shows.{IsAt}
use Rattle.kernel_machine.specs.Turns.{TakesTurn}
use Rattle.kernel_machine.specs.Worlds.{AreHands}
use Rattle.kernel_machine.proofs.SaveEvents.{behind, in_checkpoint, mode_behind, one_if_less, ops_if_less, same_side}
use Rattle.kernel_machine.proofs.SaveEvents.{stays_at, within}
use Rattle.kernel_machine.proofs.SaveSides.{all_free, none_writable_either, prepares_same, same_hands}
use Rattle.kernel_machine.proofs.SaveStages.{committed_some, committed_unwritable}

module _ (k : Kernel) (c : Course) (core : ℕ) (s n : Checkpoint) (m : Memory) (at : IsAt (within k s) c)
    (h : steps.Ends s k.accepted k.nvm c.world core n m) where
  then_none : (i : ℕ) → prepared_by n.running i ≡ None
  then_none i = prepares_same s.running n.running h.prepares i ∙ h.was.none i

  was_unwritable : (page : ℕ) → page < PAGES → is_writable_at (state_of s.running.rooms.pages page) ≡ false
  was_unwritable page there = committed_unwritable (stage_of s.running.rooms.pages page) (h.was.stages page there)

  then_unwritable : (page : ℕ) → page < PAGES → is_writable_at (state_of n.running.rooms.pages page) ≡ false
  then_unwritable page there = elim (h.stages page there) [
    | inl same ↦ ap (λ (stage : PageStage). is_writable_at (state_at stage)) same ∙ was_unwritable page there
    | inr fresh ↦ ap (λ (stage : PageStage). is_writable_at (state_at stage)) fresh
  ]

  few_steps : (page : ℕ) → page < PAGES
      → steps_left (stage_of n.running.rooms.pages page) ≤ steps_left (stage_of s.running.rooms.pages page)
  few_steps page there = elim (h.stages page there) [
    | inl same ↦ (let as_before = ap steps_left same in omega (arith, as_before))
    | inr fresh ↦
        let one : steps_left (stage_of n.running.rooms.pages page) ≡ 1 = ap steps_left fresh in
        omega (arith, one, committed_some (stage_of s.running.rooms.pages page) (h.was.stages page there))
  ]

  less : 0 < turns_left s
  less = let left = h.left in omega arith

  abbrev new : Kernel
  new = behind k k.nvm (work.Runs n.running) k.spent

  lawful : Leads (side_of (within k s)) core (side_of new)
  lawful = record {
    mode = in_checkpoint s k.accepted k.nvm c.world at.work;
    leader = h.leader;
    prepares = ap (λ (x : CoreSide). x.prepares) (all_free s.running k.cores core h.was.none);
    left = inl less;
    goes = inr (mode_behind s k.accepted k.nvm c.world h.was, refl);
    board = inl (record {
      is_open = refl;
      given = refl;
      board = record { count = refl; page = λ i. refl; drawn = λ i. refl; home = λ i e. e };
    });
    rest = same_side k.wish refl refl (same_hands s.running n.running k.cores h.was.none then_none) refl
        (none_writable_either s.running n.running was_unwritable then_unwritable);
  }

  still_hands : AreHands n.running k.cores k.spent
  still_hands = record {
    below = λ i page e. absurd (let none : Some page ≡ None = sym e ∙ then_none i in cc);
    seldom = λ page there. omega (arith, few_steps page there, at.hands.seldom page there);
  }

  ended_still : TakesTurn (within k s) c core (did.Inner why.Lead) new
  ended_still = record {
    goes = record {
      lawful = lawful;
      words = one_if_less core (turns_left s) 0 (word_at k.nvm) (word_at k.nvm) less (inl (λ i. refl));
      ops = ops_if_less (turns_left s) 0 k.nvm.ops k.nvm.ops less (omega arith);
      renewed = λ no. absurd no;
      board = λ closed opened. absurd (cc);
      opened = λ no. absurd no;
      rest = refl;
    };
    is_at = stays_at k c s k.nvm (work.Runs n.running) k.spent at
        (subst (λ (x : Memory). Runs n.running k.accepted x c.world) h.memory h.runs) still_hands refl refl;
  }

  pub ended : TakesTurn (within k s) c core (did.Inner why.Lead) (behind k m (work.Runs n.running) k.spent)
  ended =
      subst (λ (x : Memory). TakesTurn (within k s) c core (did.Inner why.Lead)
      (behind k x (work.Runs n.running) k.spent)) (sym h.memory) ended_still
