use Rattle.std.proofs.Common.{inl, arith, slice_index, inr}
use Rattle.page_store.specs.declared.stage.PageStage.TheVariants.{Fresh, Writable}
use Rattle.page_store.specs.declared.stage.Origin.TheVariants.{Zeros}
use Rattle.page_store.specs.declared.stage.Writes.TheVariants.{Nothing}
use Rattle.pmem_layout.specs.Places.{runtime_frame, frame_at}
use Rattle.page_store.proofs.Moves.{burst_in_page, in_pages, step_same, at_stage}
use Rattle.page_store.proofs.Steps.{zeroed}
use Rattle.page_store.proofs.Places.{frame_inside}
use Rattle.page_store.proofs.store.PageStore.zero.Goals as goal

pub returns-clause-rest : goal.returns-clause-rest
returns-clause-rest c =
    let e = rw (c.zero_words.ensures.whole, c.frame_at.ensures.at, c.runtime_frame.ensures.frame) at c.burst.ensures.words in
    in_pages c.args.page c.requires.page
    (burst_in_page c.args.page (frame_at (runtime_frame c.args.page)) 512 (slice_index c.zero_words.result) e
    (λ j lt. inl (omega arith, omega (arith, lt))))

pub returns-clause-shows : goal.returns-clause-shows
returns-clause-shows c = λ v saved now phase h.
    let page = c.args.page in
    let e = rw (c.zero_words.ensures.whole, c.frame_at.ensures.at, c.runtime_frame.ensures.frame) at c.burst.ensures.words in
    step_same v page (Writable Zeros Nothing) saved now phase c.enter.ensures
    (burst_in_page page (frame_at (runtime_frame page)) 512 (slice_index c.zero_words.result) e
    (λ j lt. inl (omega arith, omega (arith, lt)))) c.requires.page h
    (zeroed (slice_index c.zero_words.result) c.requires.page e c.zero_words.ensures.zero
    (at_stage page Fresh c.requires.page c.requires.fresh h))

pub returns-clause-operation : goal.returns-clause-operation
returns-clause-operation c = λ core.
    let e = rw (c.zero_words.ensures.whole, c.frame_at.ensures.at, c.runtime_frame.ensures.frame) at c.burst.ensures.words in
    inr (c.operations.ensures.burst core (frame_at (runtime_frame c.args.page)) 512 (slice_index c.zero_words.result) _ _ (omega arith)
    (omega (arith, c.requires.page), frame_inside (runtime_frame c.args.page)) e)
