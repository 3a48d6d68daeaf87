-- A machine of which a checkpoint is in flight.
use Rattle.std.specs.Prelude.{◌≡◌, ℕ, Bool, true, false, if◌then◌else◌, List, None, Some, Option}
use Rattle.std.proofs.Common.{ap, sym, ◌∙◌, arith, inl, inr}
use Rattle.sls_base.specs.declared.limits.TheConstants.{VERSION_AT}
use Rattle.pmem_model.specs.Words.{Word}
use Rattle.pmem_model.specs.Memory.{Memory, word_at}
use Rattle.plain_state.specs.Worlds.{World}
use Rattle.version_commit.specs.declared.step.Step.{Step}
use Rattle.version_commit.specs.declared.step.Step.TheVariants as steps
use Rattle.version_commit.specs.OnWay.{IsOnWay}
use Rattle.version_rooms.specs.declared.rooms.Rooms.{Rooms}
use Rattle.version_rooms.specs.Rooms.{Contents, reads_at}
use Rattle.leader_helper.specs.declared.leader.Leader.{Leader}
use Rattle.leader_helper.specs.declared.stage.Stage.{Stage}
use Rattle.leader_helper.specs.declared.stage.Stage.TheVariants as at
use Rattle.leader_helper.specs.Stages.{is_before_commit}
use Rattle.leader_helper.specs.Turns.{turns_at}
use Rattle.leader_helper.proofs.Applies.{is_calm}
use Rattle.core_turns.specs.Runs.{prepared_by}
use Rattle.checkpoint_turns.specs.declared.checkpoint.Checkpoint.{Checkpoint}
use Rattle.checkpoint_turns.specs.Checkpoints.{Before, Behind, IsBefore, IsBehind, IsOf, turns_left}
use Rattle.machine_contract.specs.Side.{Mode, Formatting, Recovering, Running, BeforeCommit, AfterCommit, IsStarting}
use Rattle.machine_contract.specs.Shown.{VersionReads}
use Rattle.kernel_machine.specs.declared.work.Work.TheVariants as work
use Rattle.kernel_machine.proofs.SeenSides.{all_hands}
use Rattle.kernel_machine.proofs.SeenParts.{IsSeen, SeenLaws, is_saved}
use Rattle.kernel_machine.proofs.SeenRuns.{in_room, rest_reads}

-- What it does.

abbrev pub mode_at : Bool → Mode
mode_at before = if before then BeforeCommit else AfterCommit

pub not_starting : (before : Bool) → IsStarting (mode_at before) → ⊥
not_starting true is = elim is [
  | inl formats ↦ let wrong : BeforeCommit ≡ Formatting = formats in cc
  | inr recovers ↦ let wrong : BeforeCommit ≡ Recovering = recovers in cc
]
not_starting false is = elim is [
  | inl formats ↦ let wrong : AfterCommit ≡ Formatting = formats in cc
  | inr recovers ↦ let wrong : AfterCommit ≡ Recovering = recovers in cc
]

not_running : (before : Bool) → mode_at before ≡ Running → ⊥
not_running true is = cc
not_running false is = cc

-- the leader has a turn left
some_left : (stage : Stage) (l : Leader) (r : Rooms) → turns_at stage l r ≡ 0 → ⊥
some_left at.Gather l r none = omega arith
some_left (at.Pages page) l r none = omega arith
some_left (at.Records id) l r none = omega arith
some_left at.Log l r none = omega arith
some_left at.Fence l r none = omega arith
some_left (at.Tags id) l r none = omega arith
some_left at.Commit l r none = omega arith
some_left at.Apply l r none = omega arith
some_left at.Resume l r none = omega arith

goes_on : (c : Checkpoint) → turns_left c ≡ 0 → ⊥
goes_on c none = some_left c.leader.stage c.leader c.running.rooms (omega (arith, none))

-- the version word reads the version, or the next one once the commit has begun
reads_next : (mode : Mode) (step : Step) (word : Word) (v : ℕ) → mode ≡ BeforeCommit
    → IsOnWay step word v (reads_at step v) → VersionReads mode word.cached v
reads_next mode steps.Store word v is way = inl way.known.0
reads_next mode steps.Flush word v is way = inr (is, way.known.0)
reads_next mode steps.Fence word v is way = inr (is, way.known.0)

module _ (laws : SeenLaws) (c : Checkpoint) (cores : ℕ) (accepted : List ℕ) (m : Memory) (w : World) where
  before_seen : IsBefore c accepted m w → IsSeen (work.Saves c) cores accepted m w
  before_seen h =
      let at_version = laws.version c accepted m w (Before h) in
      record {
        left = λ left may reads.
            let says = reads ∙ at_version in
            inl (is_saved left w says (laws.before c accepted m w left may says h));
        version = reads_next (mode_at (is_before_commit c.leader.stage)) c.running.rooms.committer.version
            (word_at m VERSION_AT) w.version (ap mode_at h.writing.before) h.writing.shows.version;
        sound = h.sound;
        counted = h.devices.accepted_are;
        starting = λ is. absurd (not_starting (is_before_commit c.leader.stage) is);
        turns = (λ none. absurd (goes_on c none), λ is. absurd (not_running (is_before_commit c.leader.stage) is));
        hands = all_hands c.running w cores (in_room c.running h.in_hand.prepared h.in_hand.in_range) h.in_hand.there;
        home = h.home;
      }

  behind_seen : IsBehind c accepted m w → IsSeen (work.Saves c) cores accepted m w
  behind_seen h =
      let contents : Contents = record { saved = h.saved; objects = λ i. None; pages = h.pages } in
      let calm = is_calm h.applying in
      let no_page : (core page : ℕ) → prepared_by c.running core ≡ Some page → ⊥ =
      λ core page is. (
      let wrong : ◌≡◌ {A = Option ℕ} None (Some page) = sym (h.none core) ∙ is in cc
      ) in
      record {
        left = λ left may reads.
            let says = laws.behind c accepted m w left may h in inl (is_saved left w says.0 says.1);
        version = inl (rest_reads c.running.rooms (word_at m) w.version contents calm.0 (calm.1 (λ i. None)));
        sound = h.just.sound;
        counted = h.just.attached.accepted;
        starting = λ is. absurd (not_starting (is_before_commit c.leader.stage) is);
        turns = (λ none. absurd (goes_on c none), λ is. absurd (not_running (is_before_commit c.leader.stage) is));
        hands = all_hands c.running w cores (λ core page is. absurd (no_page core page is))
            (λ core page is. absurd (no_page core page is));
        home = h.home;
      }

  pub saves_seen : IsOf c accepted m w → IsSeen (work.Saves c) cores accepted m w
  saves_seen (Before h) = before_seen h
  saves_seen (Behind h) = behind_seen h
