use Rattle.std.proofs.Common.{◌∙◌, sym, slice_index, [], ◌∷◌, inr, arith}
use Rattle.pmem_model.specs.Events.{flush_calm, fence_all}
use Rattle.pmem_layout.specs.Places.{backup_tag_at, line_at}
use Rattle.page_store.specs.Stages.{stage_of}
use Rattle.page_store.specs.declared.stage.PageStage.TheVariants.{Preparing, Writable}
use Rattle.page_store.specs.declared.stage.Preparation.TheVariants.{StoreTag, FlushTag, FenceTag}
use Rattle.page_store.specs.declared.stage.Origin.TheVariants.{Copy}
use Rattle.page_store.specs.declared.stage.Writes.TheVariants.{Nothing}
use Rattle.page_store.proofs.Moves.{burst_in_page, calm_in_page, in_pages, step_same, at_stage, tags_on, is_tag}
use Rattle.page_store.proofs.Steps.{tag_stored, tag_flushed, tag_fenced}
use Rattle.pmem_model.specs.PlaceLaws.{inside_word, inside_line}
use Rattle.page_store.proofs.store.PageStore.tag_step.Goals as goal

pub returns-in-Preparing-default-StoreTag-clause-rest : goal.returns-in-Preparing-default-StoreTag-clause-rest
returns-in-Preparing-default-StoreTag-clause-rest c =
    let e = rw c.backup_tag_at.ensures.at at c.burst.ensures.words in
    in_pages c.args.page c.requires.page
    (burst_in_page c.args.page (backup_tag_at c.args.page) 1 (slice_index (c.to_word.result ∷ [])) e (is_tag c.args.page))

pub returns-in-Preparing-default-StoreTag-clause-shows : goal.returns-in-Preparing-default-StoreTag-clause-shows
returns-in-Preparing-default-StoreTag-clause-shows c = λ saved now phase h.
    let page = c.args.page in
    let value = slice_index (c.to_word.result ∷ []) in
    let e = rw c.backup_tag_at.ensures.at at c.burst.ensures.words in
    let is = tags_on (stage_of c.args.self.now page) _ c.args.core _ StoreTag (sym c.stage.ensures ∙ c.in-Preparing-default-StoreTag.is)
    c.in-Preparing-default-StoreTag.field-1-is c.requires.may in
    step_same c.args.version page (Preparing c.args.core FlushTag) saved now phase c.enter.ensures
    (burst_in_page page (backup_tag_at page) 1 value e (is_tag page)) c.requires.page h
    (tag_stored value c.requires.page e c.to_word.ensures (at_stage page (Preparing c.args.core StoreTag) c.requires.page is h))

pub returns-in-Preparing-default-FlushTag-clause-rest : goal.returns-in-Preparing-default-FlushTag-clause-rest
returns-in-Preparing-default-FlushTag-clause-rest c =
    in_pages c.args.page c.requires.page
    (calm_in_page c.args.page (flush_calm _ _ c.args.core c.line_at.result 8 c.flush.ensures.words))

pub returns-in-Preparing-default-FlushTag-clause-shows : goal.returns-in-Preparing-default-FlushTag-clause-shows
returns-in-Preparing-default-FlushTag-clause-shows c = λ saved now phase h.
    let page = c.args.page in
    let e = rw (c.line_at.ensures, c.backup_tag_at-in-Preparing-default-FlushTag.ensures.at) at c.flush.ensures.words in
    let is = tags_on (stage_of c.args.self.now page) _ c.args.core _ FlushTag (sym c.stage.ensures ∙ c.in-Preparing-default-FlushTag.is)
    c.in-Preparing-default-FlushTag.field-1-is c.requires.may in
    step_same c.args.version page (Preparing c.args.core FenceTag) saved now phase c.enter-in-Preparing-default-FlushTag.ensures
    (calm_in_page page (flush_calm _ _ c.args.core c.line_at.result 8 c.flush.ensures.words)) c.requires.page h
    (tag_flushed e (at_stage page (Preparing c.args.core FlushTag) c.requires.page is h))

pub returns-in-Preparing-default-FenceTag-clause-shows : goal.returns-in-Preparing-default-FenceTag-clause-shows
returns-in-Preparing-default-FenceTag-clause-shows c = λ saved now phase h.
    let page = c.args.page in
    let fence = fence_all _ _ c.args.core c.fence.ensures.words in
    let is = tags_on (stage_of c.args.self.now page) _ c.args.core _ FenceTag (sym c.stage.ensures ∙ c.in-Preparing-default-FenceTag.is)
    c.in-Preparing-default-FenceTag.field-1-is c.requires.may in
    step_same c.args.version page (Writable Copy Nothing) saved now phase c.enter-in-Preparing-default-FenceTag.ensures
    (calm_in_page page (λ i. (fence i).calm)) c.requires.page h
    (tag_fenced fence (at_stage page (Preparing c.args.core FenceTag) c.requires.page is h))

pub returns-in-Preparing-default-StoreTag-clause-operation : goal.returns-in-Preparing-default-StoreTag-clause-operation
returns-in-Preparing-default-StoreTag-clause-operation c =
    let at = backup_tag_at c.args.page in
    let e = rw c.backup_tag_at.ensures.at at c.burst.ensures.words in
    inr (c.operations.ensures.burst c.args.core at 1 (slice_index (c.to_word.result ∷ [])) _ _ (omega arith)
    (omega (arith, c.requires.page), inside_word at) e)

pub returns-in-Preparing-default-FlushTag-clause-operation : goal.returns-in-Preparing-default-FlushTag-clause-operation
returns-in-Preparing-default-FlushTag-clause-operation c =
    let tag = backup_tag_at c.args.page in
    let e = rw (c.line_at.ensures, c.backup_tag_at-in-Preparing-default-FlushTag.ensures.at) at c.flush.ensures.words in
    inr (c.operations.ensures.flush c.args.core (line_at tag) 1 _ _ (omega (arith, c.requires.page), inside_line tag) e)

pub returns-in-Preparing-default-FenceTag-clause-operation : goal.returns-in-Preparing-default-FenceTag-clause-operation
returns-in-Preparing-default-FenceTag-clause-operation c =
    inr (c.operations.ensures.fence c.args.core _ _ c.fence.ensures.words)
