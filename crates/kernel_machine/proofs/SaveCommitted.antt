-- A turn of the leader that commits.
use Rattle.std.specs.Prelude.{◌≡◌, ℕ, List, Some, None}
use Rattle.std.proofs.Common.{refl, ap, sym, ◌∙◌, arith, inl}
use Rattle.std.proofs.Math.Path.{fun_ext}
use Rattle.pmem_model.specs.Memory.{Memory, word_at, count_up}
use Rattle.plain_laws.proofs.Cores.{sweep_keeps_cores}
use Rattle.plain_model.specs.Play.{commit}
use Rattle.page_store.specs.Stages.{stage_of}
use Rattle.checkpoint_turns.specs.declared.checkpoint.Checkpoint.{Checkpoint}
use Rattle.checkpoint_turns.specs.Checkpoints as flight
use Rattle.checkpoint_turns.specs.Checkpoints.{turns_left}
use Rattle.checkpoint_turns.specs.Steps as steps
use Rattle.machine_contract.specs.declared.answers.Did.TheVariants as did
use Rattle.machine_contract.specs.Side.{CoreSide}
use Rattle.machine_contract.specs.Lawful.{Commits}
use Rattle.machine_contract.specs.Courses.{Course, after_label}
use Rattle.plain_state.specs.declared.label.Label.TheVariants as label
use Rattle.kernel_machine.specs.declared.work.Work.TheVariants as work
use Rattle.kernel_machine.specs.declared.kernel.Kernel.{Kernel}
use Rattle.kernel_machine.specs.Sides.{side_of, spent_at}
use Rattle.kernel_machine.specs.Shows.{IsAt}
use Rattle.kernel_machine.specs.Turns.{TakesTurn}
use Rattle.kernel_machine.specs.Worlds.{AreHands}
use Rattle.kernel_machine.proofs.SaveEvents.{ReadsVersion, behind, few_ops, mode_before, mode_behind, one_counted}
use Rattle.kernel_machine.proofs.SaveEvents.{one_operation, same_side, seen_rest, within}
use Rattle.kernel_machine.proofs.SaveLed.{fewer, leader_words, then_free}
use Rattle.kernel_machine.proofs.SaveSides.{all_free, same_hands}
use Rattle.kernel_machine.proofs.SaveStages.{committed_most}
use Rattle.kernel_machine.proofs.SaveTags.{TagLaws, renewed}

module _ (k : Kernel) (c : Course) (core version : ℕ) (s n : Checkpoint) (m : Memory) (at : IsAt (within k s) c)
    (h : steps.Commits s k.accepted k.nvm c.world core version n m) (spent : List ℕ)
    (none : (page : ℕ) → spent_at spent page ≡ 0) where
  abbrev new : Kernel
  new = behind k m (work.Saves n) spent

  abbrev then : Course
  then = after_label c label.Commit

  lawful : Commits c.world (side_of (within k s)) core version (side_of new)
  lawful = record {
    mode = mode_before s k.accepted k.nvm c.world h.committed.was;
    leader = h.turn.leader;
    prepares = λ i. ap (λ (x : CoreSide). x.prepares) (all_free s.running k.cores i h.turn.free);
    next = record {
      next = h.committed.version_is;
      in_range = omega (arith, h.committed.version_is, h.committed.was.writing.in_range);
    };
    left = fewer k core s n m h.turn;
    goes = inl (mode_behind n k.accepted m (commit c.world) h.committed.is_behind);
    rest = same_side k.wish refl refl
        (same_hands s.running n.running k.cores h.turn.free (then_free k core s n m h.turn)) (fun_ext none) refl;
  }

  still_hands : AreHands n.running k.cores spent
  still_hands = record {
    below = λ i page e. absurd (let free : Some page ≡ None = sym e ∙ then_free k core s n m h.turn i in cc);
    seldom = λ page there. omega (
      arith,
      none page,
      committed_most (stage_of n.running.rooms.pages page) (h.committed.is_behind.stages page there),
    );
  }

  is_at : ReadsVersion → IsAt new then
  is_at reads =
      let memory = leader_words k core s n m h.turn in
      record {
        work = flight.Behind h.committed.is_behind;
        hands = still_hands;
        some = at.some;
        most = at.most;
        cores = sweep_keeps_cores c.world.now ∙ at.cores;
        saved_cores = sweep_keeps_cores c.world.now ∙ at.cores;
        commits =
            one_counted k.nvm m c.world.version memory.counts
            (reads s k.accepted k.nvm c.world (flight.Before h.committed.was))
            (reads n k.accepted m (commit c.world) (flight.Behind h.committed.is_behind))
            ∙ ap count_up at.commits;
        cuts = memory.counts.cuts ∙ at.cuts;
      }

  pub committed : ReadsVersion → TagLaws → TakesTurn (within k s) c core (did.Committed version) new
  committed reads laws =
      let memory = leader_words k core s n m h.turn in
      record {
        goes = record {
          lawful = lawful;
          words = one_operation core (word_at k.nvm) (word_at m) memory.operation;
          ops = few_ops k.nvm.ops m.ops memory.ops;
          renewed = λ yes page. renewed laws n k.accepted m (commit c.world) h.committed.is_behind page;
          board = λ closed opened. absurd (cc);
          opened = λ yes spares. absurd (cc);
          rest = seen_rest k m (work.Saves n) spent (work.Saves s) memory.counts.cuts;
        };
        is_at = is_at reads;
      }
