use Rattle.std.proofs.Common.{◌+◌, ◌∙◌, sym, inl, inr, arith}
use Rattle.pmem_model.specs.Memory.{word_at}
use Rattle.pmem_model.specs.Events.{flush_calm, fence_all}
use Rattle.pmem_layout.specs.Places.{runtime_frame, backup_frame, frame_at}
use Rattle.page_store.specs.Slots.{Backup}
use Rattle.page_store.specs.Stages.{stage_of}
use Rattle.page_store.specs.declared.stage.PageStage.TheVariants.{Protected, Preparing}
use Rattle.page_store.specs.declared.stage.Preparation.TheVariants.{FlushCopy, FenceCopy, StoreTag}
use Rattle.page_store.proofs.Places.{frame_home, frame_inside}
use Rattle.page_store.proofs.Moves.{burst_in_page, calm_in_page, in_pages, step_same, at_stage, copies_on}
use Rattle.page_store.proofs.Steps.{copied_on, copy_flushed, copy_fenced, copy_words}
use Rattle.page_store.proofs.store.PageStore.copy_step.Goals as goal

pub copy-requires-clause-to_home : goal.copy-requires-clause-to_home
copy-requires-clause-to_home c = rw c.backup_frame.ensures.frame (c.requires.home.slots Backup)

pub flush-requires-clause-home : goal.flush-requires-clause-home
flush-requires-clause-home c =
    rw (c.frame_at.ensures.at, c.backup_frame-in-Preparing-default-FlushCopy.ensures.frame)
    (frame_home c.args.nvm.now (backup_frame c.args.page) (c.requires.home.slots Backup))

pub returns-in-Protected-clause-rest : goal.returns-in-Protected-clause-rest
returns-in-Protected-clause-rest c =
    let e = copy_words (word_at c.args.nvm.now) (word_at c.copy.new.self) c.args.page
    (rw (c.runtime_frame.ensures.frame, c.backup_frame.ensures.frame) at c.copy.ensures.words) in
    in_pages c.args.page c.requires.page
    (burst_in_page c.args.page (frame_at (backup_frame c.args.page)) 512 (λ j. (word_at c.args.nvm.now (frame_at (runtime_frame c.args.page) + j)).cached) e
    (λ j lt. inr (Backup, inl (omega arith, omega (arith, lt)))))

pub returns-in-Protected-clause-shows : goal.returns-in-Protected-clause-shows
returns-in-Protected-clause-shows c = λ v saved now phase h.
    let page = c.args.page in
    let e = copy_words (word_at c.args.nvm.now) (word_at c.copy.new.self) c.args.page
    (rw (c.runtime_frame.ensures.frame, c.backup_frame.ensures.frame) at c.copy.ensures.words) in
    step_same v page (Preparing c.args.core FlushCopy) saved now phase c.enter.ensures
    (burst_in_page page (frame_at (backup_frame page)) 512
    (λ j. (word_at c.args.nvm.now (frame_at (runtime_frame c.args.page) + j)).cached) e (λ j lt. inr (Backup, inl (omega arith, omega (arith, lt)))))
    c.requires.page h
    (copied_on c.args.core c.requires.page e (at_stage page Protected c.requires.page (sym c.stage.ensures ∙ c.in-Protected.is) h))

pub returns-in-Preparing-default-FlushCopy-clause-rest : goal.returns-in-Preparing-default-FlushCopy-clause-rest
returns-in-Preparing-default-FlushCopy-clause-rest c =
    in_pages c.args.page c.requires.page
    (calm_in_page c.args.page (flush_calm _ _ c.args.core c.frame_at.result 512 c.flush.ensures.words))

pub returns-in-Preparing-default-FlushCopy-clause-shows : goal.returns-in-Preparing-default-FlushCopy-clause-shows
returns-in-Preparing-default-FlushCopy-clause-shows c = λ v saved now phase h.
    let page = c.args.page in
    let e = rw (c.frame_at.ensures.at, c.backup_frame-in-Preparing-default-FlushCopy.ensures.frame) at c.flush.ensures.words in
    let is = copies_on (stage_of c.args.self.now page) _ c.args.core _ FlushCopy (sym c.stage.ensures ∙ c.in-Preparing-default-FlushCopy.is) c.in-Preparing-default-FlushCopy.field-1-is c.requires.may in
    step_same v page (Preparing c.args.core FenceCopy) saved now phase c.enter-in-Preparing-default-FlushCopy.ensures
    (calm_in_page page (flush_calm _ _ c.args.core c.frame_at.result 512 c.flush.ensures.words)) c.requires.page h
    (copy_flushed e (at_stage page (Preparing c.args.core FlushCopy) c.requires.page is h))

pub returns-in-Preparing-default-FenceCopy-clause-shows : goal.returns-in-Preparing-default-FenceCopy-clause-shows
returns-in-Preparing-default-FenceCopy-clause-shows c = λ v saved now phase h.
    let page = c.args.page in
    let fence = fence_all _ _ c.args.core c.fence.ensures.words in
    let is = copies_on (stage_of c.args.self.now page) _ c.args.core _ FenceCopy (sym c.stage.ensures ∙ c.in-Preparing-default-FenceCopy.is)
    c.in-Preparing-default-FenceCopy.field-1-is c.requires.may in
    step_same v page (Preparing c.args.core StoreTag) saved now phase c.enter-in-Preparing-default-FenceCopy.ensures
    (calm_in_page page (λ i. (fence i).calm)) c.requires.page h
    (copy_fenced fence (at_stage page (Preparing c.args.core FenceCopy) c.requires.page is h))

pub returns-in-Protected-clause-operation : goal.returns-in-Protected-clause-operation
returns-in-Protected-clause-operation c =
    let page = c.args.page in
    let e = copy_words (word_at c.args.nvm.now) (word_at c.copy.new.self) page
    (rw (c.runtime_frame.ensures.frame, c.backup_frame.ensures.frame) at c.copy.ensures.words) in
    inr (c.operations.ensures.burst c.args.core (frame_at (backup_frame page)) 512
    (λ j. (word_at c.args.nvm.now (frame_at (runtime_frame page) + j)).cached) _ _ (omega arith)
    (omega (arith, c.requires.page), frame_inside (backup_frame page)) e)

pub returns-in-Preparing-default-FlushCopy-clause-operation : goal.returns-in-Preparing-default-FlushCopy-clause-operation
returns-in-Preparing-default-FlushCopy-clause-operation c =
    let page = c.args.page in
    let e = rw (c.frame_at.ensures.at, c.backup_frame-in-Preparing-default-FlushCopy.ensures.frame) at c.flush.ensures.words in
    inr (c.operations.ensures.flush c.args.core (frame_at (backup_frame page)) 64 _ _
    (omega (arith, c.requires.page), frame_inside (backup_frame page)) e)

pub returns-in-Preparing-default-FenceCopy-clause-operation : goal.returns-in-Preparing-default-FenceCopy-clause-operation
returns-in-Preparing-default-FenceCopy-clause-operation c =
    inr (c.operations.ensures.fence c.args.core _ _ c.fence.ensures.words)
