use Rattle.std.proofs.Common.{◌+◌, ◌<◌, ◌∙◌, refl, sym, inl, arith, slice_index, [], ◌∷◌, inr}
use Rattle.sls_base.specs.declared.limits.TheConstants.{PAGES}
use Rattle.sls_base.specs.declared.fixed.TheConstants.{LEADER}
use Rattle.pmem_model.specs.Memory.{word_at}
use Rattle.pmem_model.specs.Events.{calm_same, flush_calm, fence_all}
use Rattle.pmem_layout.specs.declared.format.TheConstants.{EMPTY_WORD}
use Rattle.pmem_layout.specs.Places.{runtime_frame, backup_frame, backup_tag_at, frame_at, line_at}
use Rattle.page_store.specs.Back.{Cleared, Copied}
use Rattle.page_store.specs.declared.stage.PageStage.TheVariants.{Protected, Writable}
use Rattle.page_store.specs.declared.stage.Origin.TheVariants.{Copy}
use Rattle.page_store.specs.declared.stage.Writes.TheVariants.{Nothing}
use Rattle.page_store.specs.declared.recovery.Step.TheVariants.{Read, FlushTag, FlushCopy}
use Rattle.page_store.proofs.Moves.{burst_in_page, calm_in_page, in_pages, is_tag}
use Rattle.page_store.proofs.BackSteps.{cleared, copied_back, left_plain, clear_flushed, copy_flushed_back, goes_on, hand, shows_next, passed_too, back_words, all_fenced}
use Rattle.page_store.proofs.Places.{frame_inside}
use Rattle.pmem_model.specs.PlaceLaws.{inside_word, inside_line}
use Rattle.page_store.proofs.recovery.Recovery.step.Goals as goal

pub returns-then-self-ge-PAGES-clause-shows : goal.returns-then-self-ge-PAGES-clause-shows
returns-then-self-ge-PAGES-clause-shows c = λ saved h.
    all_fenced c.args.self.now c.if-self.false c.if-self-ge-PAGES.true (fence_all _ _ LEADER c.fence.ensures.words) h

pub returns-then-tag-tag_now-clause-rest : goal.returns-then-tag-tag_now-clause-rest
returns-then-tag-tag_now-clause-rest c =
    let page = c.args.self.now.page in
    let e = rw c.backup_tag_at-then-tag-tag_now.ensures.at at c.burst.ensures.words in
    in_pages page (omega (arith, c.if-self-ge-PAGES.false))
    (burst_in_page page (backup_tag_at page) 1 (slice_index (EMPTY_WORD ∷ [])) e (is_tag page))

pub returns-then-tag-tag_now-clause-shows : goal.returns-then-tag-tag_now-clause-shows
returns-then-tag-tag_now-clause-shows c = λ saved h.
    let r = c.args.self.now in
    let page = r.page in
    let lt : page < PAGES = omega (arith, c.if-self-ge-PAGES.false) in
    let e = rw c.backup_tag_at-then-tag-tag_now.ensures.at at c.burst.ensures.words in
    let before = hand r Read c.in-Read.is c.if-self.false lt h in
    let tag = rw c.backup_tag_at.ensures.at at c.read-tag.ensures ∙ before.known.1.1.0 in
    let now = c.to_word-tag_now.ensures in
    let above = c.if-tag-tag_now.true in
    shows_next c.args.version page Cleared saved (goes_on r.pages page r.next FlushTag r.is_fenced) c.if-self.false c.if-self.false lt
    (burst_in_page page (backup_tag_at page) 1 (slice_index (EMPTY_WORD ∷ [])) e (is_tag page)) h.done h
    (cleared (slice_index (EMPTY_WORD ∷ [])) lt e refl before (omega (arith, tag, now, above)))

pub returns-then-tag-tag_now-2-clause-rest : goal.returns-then-tag-tag_now-2-clause-rest
returns-then-tag-tag_now-2-clause-rest c =
    let page = c.args.self.now.page in
    let e = back_words (word_at c.args.nvm.now) (word_at c.copy.new.self) page
    (rw (c.runtime_frame.ensures.frame, c.backup_frame.ensures.frame) at c.copy.ensures.words) in
    in_pages page (omega (arith, c.if-self-ge-PAGES.false))
    (burst_in_page page (frame_at (runtime_frame page)) 512 (λ j. (word_at c.args.nvm.now (frame_at (backup_frame page) + j)).cached) e
    (λ j in_frame. inl (omega arith, omega (arith, in_frame))))

pub returns-then-tag-tag_now-2-clause-shows : goal.returns-then-tag-tag_now-2-clause-shows
returns-then-tag-tag_now-2-clause-shows c = λ saved h.
    let r = c.args.self.now in
    let page = r.page in
    let lt : page < PAGES = omega (arith, c.if-self-ge-PAGES.false) in
    let e = back_words (word_at c.args.nvm.now) (word_at c.copy.new.self) page
    (rw (c.runtime_frame.ensures.frame, c.backup_frame.ensures.frame) at c.copy.ensures.words) in
    let before = hand r Read c.in-Read.is c.if-self.false lt h in
    let tag = rw c.backup_tag_at.ensures.at at c.read-tag.ensures ∙ before.known.1.1.0 in
    shows_next c.args.version page Copied saved (goes_on r.pages page r.next FlushCopy r.is_fenced) c.if-self.false c.if-self.false lt
    (burst_in_page page (frame_at (runtime_frame page)) 512 (λ j. (word_at c.args.nvm.now (frame_at (backup_frame page) + j)).cached) e
    (λ j in_frame. inl (omega arith, omega (arith, in_frame)))) h.done h
    (copied_back lt e before (sym tag ∙ (c.if-tag-tag_now-2.true ∙ c.to_word-tag_now.ensures)))

pub returns-else-tag-tag_now-2-clause-shows : goal.returns-else-tag-tag_now-2-clause-shows
returns-else-tag-tag_now-2-clause-shows c = λ saved h.
    let r = c.args.self.now in
    let page = r.page in
    let lt : page < PAGES = omega (arith, c.if-self-ge-PAGES.false) in
    let before = hand r Read c.in-Read.is c.if-self.false lt h in
    let tag = rw c.backup_tag_at.ensures.at at c.read-tag.ensures ∙ before.known.1.1.0 in
    let now = c.to_word-tag_now.ensures in
    let not_above = c.if-tag-tag_now.false in
    let not_same = c.if-tag-tag_now-2.false in
    shows_next c.args.version page _ saved c.pass.ensures.moves c.if-self.false (c.pass.ensures.fenced ∙ c.if-self.false) lt
    (calm_in_page page (λ word. calm_same _ _ refl))
    (passed_too page Protected _ c.pass.ensures.moves refl c.pass.ensures.page c.pass.ensures.stage tt h) h
    (left_plain before (omega (arith, tag, now, not_above, not_same)))

pub returns-in-FlushTag-clause-rest : goal.returns-in-FlushTag-clause-rest
returns-in-FlushTag-clause-rest c =
    let page = c.args.self.now.page in
    in_pages page (omega (arith, c.if-self-ge-PAGES.false))
    (calm_in_page page (flush_calm _ _ LEADER c.line_at.result 8 c.flush.ensures.words))

pub returns-in-FlushTag-clause-shows : goal.returns-in-FlushTag-clause-shows
returns-in-FlushTag-clause-shows c = λ saved h.
    let r = c.args.self.now in
    let page = r.page in
    let lt : page < PAGES = omega (arith, c.if-self-ge-PAGES.false) in
    let e = rw (c.line_at.ensures, c.backup_tag_at-in-FlushTag.ensures.at) at c.flush.ensures.words in
    let moves = c.pass-in-FlushTag.ensures.moves in
    shows_next c.args.version page _ saved moves c.if-self.false (c.pass-in-FlushTag.ensures.fenced ∙ c.if-self.false) lt
    (calm_in_page page (flush_calm _ _ LEADER c.line_at.result 8 c.flush.ensures.words))
    (passed_too page Protected _ moves refl c.pass-in-FlushTag.ensures.page c.pass-in-FlushTag.ensures.stage tt h) h
    (clear_flushed e (hand r FlushTag c.in-FlushTag.is c.if-self.false lt h))

pub returns-in-FlushCopy-clause-rest : goal.returns-in-FlushCopy-clause-rest
returns-in-FlushCopy-clause-rest c =
    let page = c.args.self.now.page in
    in_pages page (omega (arith, c.if-self-ge-PAGES.false))
    (calm_in_page page (flush_calm _ _ LEADER c.frame_at.result 512 c.flush-in-FlushCopy.ensures.words))

pub returns-in-FlushCopy-clause-shows : goal.returns-in-FlushCopy-clause-shows
returns-in-FlushCopy-clause-shows c = λ saved h.
    let r = c.args.self.now in
    let page = r.page in
    let lt : page < PAGES = omega (arith, c.if-self-ge-PAGES.false) in
    let e = rw (c.frame_at.ensures.at, c.runtime_frame-in-FlushCopy.ensures.frame) at c.flush-in-FlushCopy.ensures.words in
    let moves = c.pass-in-FlushCopy.ensures.moves in
    shows_next c.args.version page _ saved moves c.if-self.false (c.pass-in-FlushCopy.ensures.fenced ∙ c.if-self.false) lt
    (calm_in_page page (flush_calm _ _ LEADER c.frame_at.result 512 c.flush-in-FlushCopy.ensures.words))
    (passed_too page (Writable Copy Nothing) _ moves refl c.pass-in-FlushCopy.ensures.page c.pass-in-FlushCopy.ensures.stage tt h) h
    (copy_flushed_back e (hand r FlushCopy c.in-FlushCopy.is c.if-self.false lt h))

pub returns-then-self-ge-PAGES-clause-operation : goal.returns-then-self-ge-PAGES-clause-operation
returns-then-self-ge-PAGES-clause-operation c = inr (c.operations.ensures.fence LEADER _ _ c.fence.ensures.words)

pub returns-then-tag-tag_now-clause-operation : goal.returns-then-tag-tag_now-clause-operation
returns-then-tag-tag_now-clause-operation c =
    let page = c.args.self.now.page in
    let lt : page < PAGES = omega (arith, c.if-self-ge-PAGES.false) in
    let e = rw c.backup_tag_at-then-tag-tag_now.ensures.at at c.burst.ensures.words in
    inr (c.operations.ensures.burst LEADER (backup_tag_at page) 1 (slice_index (EMPTY_WORD ∷ [])) _ _ (omega arith)
    (omega (arith, lt), inside_word (backup_tag_at page)) e)

pub returns-then-tag-tag_now-2-clause-operation : goal.returns-then-tag-tag_now-2-clause-operation
returns-then-tag-tag_now-2-clause-operation c =
    let page = c.args.self.now.page in
    let lt : page < PAGES = omega (arith, c.if-self-ge-PAGES.false) in
    let e = back_words (word_at c.args.nvm.now) (word_at c.copy.new.self) page
    (rw (c.runtime_frame.ensures.frame, c.backup_frame.ensures.frame) at c.copy.ensures.words) in
    inr (c.operations.ensures.burst LEADER (frame_at (runtime_frame page)) 512
    (λ j. (word_at c.args.nvm.now (frame_at (backup_frame page) + j)).cached) _ _ (omega arith)
    (omega (arith, lt), frame_inside (runtime_frame page)) e)

pub returns-in-FlushTag-clause-operation : goal.returns-in-FlushTag-clause-operation
returns-in-FlushTag-clause-operation c =
    let tag = backup_tag_at c.args.self.now.page in
    let lt : c.args.self.now.page < PAGES = omega (arith, c.if-self-ge-PAGES.false) in
    let e = rw (c.line_at.ensures, c.backup_tag_at-in-FlushTag.ensures.at) at c.flush.ensures.words in
    inr (c.operations.ensures.flush LEADER (line_at tag) 1 _ _ (omega (arith, lt), inside_line tag) e)

pub returns-in-FlushCopy-clause-operation : goal.returns-in-FlushCopy-clause-operation
returns-in-FlushCopy-clause-operation c =
    let page = c.args.self.now.page in
    let lt : page < PAGES = omega (arith, c.if-self-ge-PAGES.false) in
    let e = rw (c.frame_at.ensures.at, c.runtime_frame-in-FlushCopy.ensures.frame) at c.flush-in-FlushCopy.ensures.words in
    inr (c.operations.ensures.flush LEADER (frame_at (runtime_frame page)) 64 _ _
    (omega (arith, lt), frame_inside (runtime_frame page)) e)
