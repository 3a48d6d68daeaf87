use Rattle.std.proofs.Common.{◌≡◌, inr, arith}
use Rattle.sls_base.specs.declared.fixed.TheConstants.{LEADER}
use Rattle.pmem_model.specs.Events.{flush_calm}
use Rattle.page_store.specs.Stages.{stage_of}
use Rattle.page_store.specs.Known.{Open}
use Rattle.page_store.specs.declared.stage.PageStage.TheVariants.{Writable}
use Rattle.page_store.specs.declared.stage.Writes.TheVariants.{Stored, Flushed}
use Rattle.page_store.proofs.Moves.{calm_in_page, in_pages, step_same, at_stage}
use Rattle.page_store.proofs.Steps.{frame_flushed}
use Rattle.page_store.proofs.Places.{frame_inside}
use Rattle.pmem_layout.specs.Places.{runtime_frame, frame_at}
use Rattle.page_store.proofs.store.PageStore.flush.Goals as goal

pub returns-in-Writable-default-Stored-clause-rest : goal.returns-in-Writable-default-Stored-clause-rest
returns-in-Writable-default-Stored-clause-rest c =
    in_pages c.args.page c.requires.page
    (calm_in_page c.args.page (flush_calm _ _ LEADER c.frame_at.result 512 c.flush.ensures.words))

pub returns-in-Writable-default-Stored-clause-shows : goal.returns-in-Writable-default-Stored-clause-shows
returns-in-Writable-default-Stored-clause-shows c = λ v saved now h.
    let page = c.args.page in
    let origin = c.in-Writable-default-Stored.origin in
    let e = rw (c.frame_at.ensures.at, c.runtime_frame.ensures.frame) at c.flush.ensures.words in
    let read = c.stage.ensures in
    let in_arm = c.in-Writable-default-Stored.is in
    let stored = c.in-Writable-default-Stored.field-1-is in
    let same = c.in-Writable-default-Stored.origin-is in
    let is : stage_of c.args.self.now page ≡ Writable origin Stored = cc in
    step_same v page (Writable origin Flushed) saved now Open c.enter.ensures
    (calm_in_page page (flush_calm _ _ LEADER c.frame_at.result 512 c.flush.ensures.words)) c.requires.page h
    (frame_flushed origin e (at_stage page (Writable origin Stored) c.requires.page is h))

pub returns-in-Writable-default-Stored-clause-operation : goal.returns-in-Writable-default-Stored-clause-operation
returns-in-Writable-default-Stored-clause-operation c =
    let page = c.args.page in
    let e = rw (c.frame_at.ensures.at, c.runtime_frame.ensures.frame) at c.flush.ensures.words in
    inr (c.operations.ensures.flush LEADER (frame_at (runtime_frame page)) 64 _ _
    (omega (arith, c.requires.page), frame_inside (runtime_frame page)) e)
