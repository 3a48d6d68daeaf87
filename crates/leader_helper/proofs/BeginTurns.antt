-- How many turns are left when a checkpoint begins.
use Rattle.std.specs.Prelude.{◌≡◌, ℕ, ◌+◌, ◌*◌, ◌&&◌, Bool, true, false}
use Rattle.std.proofs.Common.{refl, ap, ◌∙◌, arith}
use mathlib.Core.Path.{fun_ext}
use Rattle.sls_base.specs.declared.limits.TheConstants.{OBJECTS}
use Rattle.alloc_journal.specs.declared.journal.Stage.TheVariants as logs
use Rattle.alloc_journal.specs.Sets.{count_of}
use Rattle.object_root.specs.Room.{AllIdle, stage_at}
use Rattle.object_root.specs.declared.stage.Stage.{Stage as RecordStage}
use Rattle.object_root.specs.declared.stage.Stage.TheVariants as records
use Rattle.version_commit.specs.declared.step.Step.TheVariants as steps
use Rattle.version_rooms.specs.declared.rooms.Rooms.{Rooms}
use Rattle.leader_helper.specs.declared.leader.Leader.{Leader}
use Rattle.leader_helper.specs.declared.stage.Stage.TheVariants as at
use Rattle.leader_helper.specs.Leads.{is_changed}
use Rattle.leader_helper.specs.Turns.{count_changed, turns_left, pages_left, numbers_changed, is_unstored, is_unwritten, is_tagless, is_untagged}

and_true : (a b : Bool) → b ≡ true → (a && b) ≡ a
and_true true b e = e
and_true false b e = refl

-- where no record has come anywhere, each is in the first stage
all_count : (l : Leader) (r : Rooms) (so : RecordStage → Bool) → AllIdle r.roots → so records.Idle ≡ true
    → count_changed l r so ≡ count_of (is_changed l) OBJECTS
all_count l r so idle first = ap (λ (test : ℕ → Bool). count_of test OBJECTS)
    (fun_ext (λ id. and_true (is_changed l id) (so (stage_at r.roots id)) (ap so (idle id) ∙ first)))

pub begin_left : (l : Leader) (r : Rooms) → l.stage ≡ at.Gather → AllIdle r.roots → r.numbers.work.stage ≡ logs.Rest
    → r.committer.version ≡ steps.Store
    → turns_left l r ≡ pages_left r + 4 * count_of (is_changed l) OBJECTS + 2 * numbers_changed r + 17
begin_left l r stage idle log committer =
    let unstored = all_count l r is_unstored idle refl in
    let unwritten = all_count l r is_unwritten idle refl in
    let tagless = all_count l r is_tagless idle refl in
    let untagged = all_count l r is_untagged idle refl in
    rw (stage, unstored, unwritten, tagless, untagged, log, committer) (omega arith)
