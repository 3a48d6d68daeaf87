-- One more page is forgotten, or kept.
use Rattle.std.specs.Prelude.{◌≡◌, ℕ, true, false, Option}
use Rattle.std.proofs.Common.{ap, subst, ◌∙◌}
use Rattle.pmem_model.specs.Words.{Word}
use Rattle.kobj_codec.specs.declared.obj.Obj.{Obj}
use Rattle.object_records.specs.Pages.{is_content}
use Rattle.object_records.specs.Records.{record_at}
use Rattle.page_store.specs.declared.stage.PageStage.TheVariants as stages
use Rattle.page_store.specs.Stages.{stage_of}
use Rattle.durable_state.specs.Parts.{Parts}
use Rattle.version_rooms.specs.Rest.{AreAtRest}
use Rattle.saved_state.specs.State.{AreOfRecords}
use Rattle.core_turns.specs.Runs.{objects_of}
use Rattle.checkpoint_turns.specs.declared.checkpoint.Checkpoint.{Checkpoint}
use Rattle.checkpoint_turns.proofs.ForgetAll.{one_forgotten}
use Rattle.checkpoint_turns.proofs.checkpoint.Checkpoint.forget_unused.Goals as goal

pub loop-page-preserved : goal.loop-page-preserved
loop-page-preserved c =
    let first = c.args.self.now in
    let old = c.loop-page.self in
    let new = c.forget_if_unused.new.self in
    let page = c.loop-page.page in
    let before = c.loop-page.invariant in
    let one = c.forget_if_unused.ensures in
    let r = old.running.rooms in
    let s = new.running.rooms in
    let same = ap (λ (x : Checkpoint). record_at (objects_of x.running)) before.same in
    record {
      forgotten = one_forgotten (record_at (objects_of first.running)) first.running.rooms r s page before.forgotten
          (subst (λ (records : ℕ → Option Obj). is_content records page ≡ true
          → stage_of s.pages page ≡ stage_of r.pages page) same one.kept)
          (subst (λ (records : ℕ → Option Obj). is_content records page ≡ false
          → stage_of s.pages page ≡ stages.Fresh) same one.fresh)
          one.others
          (subst (λ (records : ℕ → Option Obj). (f : ℕ → Word) (v : ℕ) (saved : Parts) (pages : ℕ → Option (ℕ → ℕ))
          → AreOfRecords records saved.pages → AreAtRest r f v saved pages
          → (after : ℕ → Option (ℕ → ℕ)) × AreAtRest s f v saved after) same one.at_rest);
      same = one.rest ∙ ap (λ (x : Checkpoint). record x {
        running = record x.running { rooms = record x.running.rooms { pages = s.pages } };
      }) before.same;
    }
