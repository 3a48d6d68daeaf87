-- Turns by which nothing happens: the leader waits for a core that has a page in hand, or a core has nothing to do.
use Rattle.std.specs.Prelude.{◌≡◌, ℕ, ◌<◌, None}
use Rattle.std.proofs.Common.{refl, ap, sym, subst, ◌∙◌, arith, inl, inr}
use Rattle.pmem_model.specs.Memory.{Memory, word_at}
use Rattle.page_store.specs.Stages.{stage_of}
use Rattle.cow_fault.specs.Faults.{steps_left}
use Rattle.core_turns.specs.Runs.{prepared_by}
use Rattle.checkpoint_turns.specs.declared.checkpoint.Checkpoint.{Checkpoint}
use Rattle.checkpoint_turns.specs.Steps as steps
use Rattle.machine_contract.specs.declared.answers.Did.TheVariants as did
use Rattle.machine_contract.specs.declared.answers.Why.TheVariants as why
use Rattle.machine_contract.specs.Side.{CoreSide, core_at}
use Rattle.machine_contract.specs.Lawful.{Leads, Pauses}
use Rattle.machine_contract.specs.Courses.{Course}
use Rattle.kernel_machine.specs.declared.work.Work.TheVariants as work
use Rattle.kernel_machine.specs.declared.kernel.Kernel.{Kernel}
use Rattle.kernel_machine.specs.Sides.{side_of}
use Rattle.kernel_machine.specs.Shows.{IsAt}
use Rattle.kernel_machine.specs.Turns.{TakesTurn}
use Rattle.kernel_machine.proofs.SaveEvents.{behind, in_checkpoint, none_if_same, within}
use Rattle.kernel_machine.proofs.SaveSides.{free_hand, hand_at, hand_in, held_hand}
use Rattle.kernel_machine.proofs.SaveStages.{steps_some}

module _ (k : Kernel) (c : Course) (core : ℕ) (below : core < k.cores) (s : Checkpoint) (at : IsAt (within k s) c) where
  free_at : prepared_by s.running core ≡ None → (hand_in s.running k.cores core).prepares ≡ None
  free_at free =
      ap (λ (x : CoreSide). x.prepares) (hand_at s.running k.cores core below ∙ free_hand s.running core free)

  holds_none : (hand_in s.running k.cores core).holds ≡ None
  holds_none = ap (λ (x : CoreSide). x.holds) (hand_at s.running k.cores core below)

  -- nothing is other than before
  same_kernel : (n : Checkpoint) (m : Memory) → steps.IsSame s k.nvm n m
      → within k s ≡ behind k m (work.Saves n) k.spent
  same_kernel n m same =
      ap (λ (x : Checkpoint). behind k k.nvm (work.Saves x) k.spent) (sym same.same)
      ∙ ap (λ (x : Memory). behind k x (work.Saves n) k.spent) (sym same.memory)

  module _ (n : Checkpoint) (m : Memory) (h : steps.Waits s k.accepted k.nvm c.world core n m) where
    owes : 0 < (core_at (side_of (within k s)) h.other).due
    owes =
        let there = at.hands.below h.other h.page h.in_hand in
        let in_range = h.was.in_hand.in_range h.other h.page h.in_hand in
        let due : (hand_in s.running k.cores h.other).due ≡ steps_left (stage_of s.running.rooms.pages h.page) =
        ap (λ (x : CoreSide). x.due)
        (hand_at s.running k.cores h.other there ∙ held_hand s.running h.other h.page h.in_hand) in
        let some = steps_some (stage_of s.running.rooms.pages h.page) h.other
        ((h.was.in_hand.prepared h.other h.page in_range).0 h.in_hand) in
        omega (arith, due, some)

    waits_lawful : Leads (side_of (within k s)) core (side_of (within k s))
    waits_lawful = record {
      mode = in_checkpoint s k.accepted k.nvm c.world at.work;
      leader = h.leader;
      prepares = free_at h.free;
      left = inr (record { left = refl; closed = refl; due = (h.other, h.not_leader, owes) });
      goes = inl refl;
      board = inl (record {
        is_open = refl;
        given = refl;
        board = record { count = refl; page = λ i. refl; drawn = λ i. refl; home = λ i e. e };
      });
      rest = refl;
    }

    waits_still : TakesTurn (within k s) c core (did.Inner why.Lead) (within k s)
    waits_still = record {
      goes = record {
        lawful = waits_lawful;
        words = none_if_same core (side_of (within k s)).left (word_at k.nvm);
        ops = omega arith;
        renewed = λ no. absurd no;
        board = λ closed opened. absurd (cc);
        opened = λ no. absurd no;
        rest = refl;
      };
      is_at = at;
    }

    pub waits : TakesTurn (within k s) c core (did.Inner why.Lead) (behind k m (work.Saves n) k.spent)
    waits = subst (λ (x : Kernel). TakesTurn (within k s) c core (did.Inner why.Lead) x) (same_kernel n m h.same)
        waits_still

  module _ (n : Checkpoint) (m : Memory) (h : steps.Pauses s k.nvm core n m) where
    pauses_lawful : Pauses (side_of (within k s)) core (side_of (within k s))
    pauses_lawful = record {
      other = h.other;
      why = inr (
        in_checkpoint s k.accepted k.nvm c.world at.work,
        (free_at h.free, holds_none),
        λ i d inside. absurd (omega (arith, inside)),
      );
      rest = refl;
    }

    pauses_still : TakesTurn (within k s) c core (did.Inner why.Paused) (within k s)
    pauses_still = record {
      goes = record {
        lawful = pauses_lawful;
        words = λ i. refl;
        ops = omega arith;
        renewed = λ no. absurd no;
        board = λ closed opened. absurd (cc);
        opened = λ no. absurd no;
        rest = refl;
      };
      is_at = at;
    }

    pub pauses : TakesTurn (within k s) c core (did.Inner why.Paused) (behind k m (work.Saves n) k.spent)
    pauses = subst (λ (x : Kernel). TakesTurn (within k s) c core (did.Inner why.Paused) x) (same_kernel n m h.same)
        pauses_still
