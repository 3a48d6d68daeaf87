-- A turn of the leader that doesn't commit.
use Rattle.std.specs.Prelude.{◌≡◌, ℕ, ◌<◌, Some, None}
use Rattle.std.proofs.Common.{refl, ap, sym, subst, ◌∙◌, arith, inl}
use Rattle.sls_base.specs.declared.limits.TheConstants.{PAGES}
use Rattle.pmem_model.specs.Memory.{Memory, word_at}
use Rattle.page_store.specs.declared.stage.PageState.TheVariants.{Preparing}
use Rattle.page_store.specs.Stages.{stage_of, state_of}
use Rattle.cow_fault.specs.Faults.{steps_left}
use Rattle.core_turns.specs.Runs.{prepared_by}
use Rattle.checkpoint_turns.specs.declared.checkpoint.Checkpoint.{Checkpoint}
use Rattle.checkpoint_turns.specs.Checkpoints as flight
use Rattle.checkpoint_turns.specs.Checkpoints.{IsOf, turns_left}
use Rattle.checkpoint_turns.specs.Steps as steps
use Rattle.machine_contract.specs.declared.answers.Did.TheVariants as did
use Rattle.machine_contract.specs.declared.answers.Why.TheVariants as why
use Rattle.machine_contract.specs.Side.{CoreSide}
use Rattle.machine_contract.specs.Lawful.{Leads}
use Rattle.machine_contract.specs.Courses.{Course}
use Rattle.kernel_machine.specs.declared.work.Work.TheVariants as work
use Rattle.kernel_machine.specs.declared.kernel.Kernel.{Kernel}
use Rattle.kernel_machine.specs.Sides.{mode_of, side_of}
use Rattle.kernel_machine.specs.Shows.{IsAt}
use Rattle.kernel_machine.specs.Turns.{TakesTurn}
use Rattle.kernel_machine.specs.Worlds.{AreHands}
use Rattle.kernel_machine.proofs.SaveEvents.{ReadsVersion, behind, few_ops, in_checkpoint, mode_before, mode_behind}
use Rattle.kernel_machine.proofs.SaveEvents.{none_counted, one_if_less, ops_if_less, same_side, seen_rest, stays_at}
use Rattle.kernel_machine.proofs.SaveEvents.{within}
use Rattle.kernel_machine.proofs.SaveSides.{all_free, prepares_same, same_hands, same_writable}
use Rattle.kernel_machine.proofs.SaveStages.{committed_unprepared, same_steps}

-- What is so of each turn of the leader but its last one.
module _ (k : Kernel) (core : ℕ) (s n : Checkpoint) (m : Memory) (turn : steps.IsLeaders s k.nvm core n m) where
  pub then_free : (i : ℕ) → prepared_by n.running i ≡ None
  then_free i = prepares_same s.running n.running turn.prepares i ∙ turn.free i

  pub fewer : turns_left n < turns_left s
  fewer = let left = turn.left in omega arith

  pub leader_words : steps.DoesOne core k.nvm m
  leader_words = subst (λ (i : ℕ). steps.DoesOne i k.nvm m) (sym turn.leader) turn.memory

module _ (k : Kernel) (c : Course) (core : ℕ) (s n : Checkpoint) (m : Memory) (at : IsAt (within k s) c)
    (h : steps.Goes s k.accepted k.nvm c.world core n m) where
  unprepared : (page : ℕ) → page < PAGES → (i : ℕ) → state_of s.running.rooms.pages page ≡ Preparing i → ⊥
  unprepared page there i is = elim h.stays [
    | steps.Before was still ↦
        (let none : Some page ≡ None = sym ((was.in_hand.prepared i page there).1 is) ∙ h.turn.free i in cc)
    | steps.Behind was still ↦
        committed_unprepared (stage_of s.running.rooms.pages page) (was.stages page there) i is
  ]

  same_mode : mode_of (work.Saves n) ≡ mode_of (work.Saves s)
  same_mode = elim h.stays [
    | steps.Before was still ↦
        mode_before n k.accepted m c.world still ∙ sym (mode_before s k.accepted k.nvm c.world was)
    | steps.Behind was still ↦
        mode_behind n k.accepted m c.world still ∙ sym (mode_behind s k.accepted k.nvm c.world was)
  ]

  is_of : IsOf n k.accepted m c.world
  is_of = elim h.stays [
    | steps.Before was still ↦ flight.Before still
    | steps.Behind was still ↦ flight.Behind still
  ]

  abbrev new : Kernel
  new = behind k m (work.Saves n) k.spent

  lawful : Leads (side_of (within k s)) core (side_of new)
  lawful = record {
    mode = in_checkpoint s k.accepted k.nvm c.world at.work;
    leader = h.turn.leader;
    prepares = ap (λ (x : CoreSide). x.prepares) (all_free s.running k.cores core h.turn.free);
    left = inl (fewer k core s n m h.turn);
    goes = inl same_mode;
    board = inl (record {
      is_open = refl;
      given = refl;
      board = record { count = refl; page = λ i. refl; drawn = λ i. refl; home = λ i e. e };
    });
    rest = same_side k.wish refl refl
        (same_hands s.running n.running k.cores h.turn.free (then_free k core s n m h.turn)) refl
        (same_writable s.running n.running h.states);
  }

  still_hands : AreHands n.running k.cores k.spent
  still_hands = record {
    below = λ i page e. absurd (let none : Some page ≡ None = sym e ∙ then_free k core s n m h.turn i in cc);
    seldom = λ page there.
        let same : steps_left (stage_of n.running.rooms.pages page) ≡ steps_left (stage_of s.running.rooms.pages page) =
        same_steps (stage_of s.running.rooms.pages page) (stage_of n.running.rooms.pages page) (unprepared page there)
        (h.states page there) in
        omega (arith, same, at.hands.seldom page there);
  }

  pub led : ReadsVersion → TakesTurn (within k s) c core (did.Inner why.Lead) new
  led reads =
      let memory = leader_words k core s n m h.turn in
      let less = fewer k core s n m h.turn in
      record {
        goes = record {
          lawful = lawful;
          words = one_if_less core (turns_left s) (turns_left n) (word_at k.nvm) (word_at m) less memory.operation;
          ops = ops_if_less (turns_left s) (turns_left n) k.nvm.ops m.ops less (few_ops k.nvm.ops m.ops memory.ops);
          renewed = λ no. absurd no;
          board = λ closed opened. absurd (cc);
          opened = λ no. absurd no;
          rest = seen_rest k m (work.Saves n) k.spent (work.Saves s) memory.counts.cuts;
        };
        is_at = stays_at k c s m (work.Saves n) k.spent at is_of still_hands
            (none_counted k.nvm m c.world.version memory.counts (reads s k.accepted k.nvm c.world at.work)
            (reads n k.accepted m c.world is_of))
            memory.counts.cuts;
      }
