use Rattle.std.proofs.Common.{◌∙◌, refl, sym, ap, arith, slice_index, [], ◌∷◌}
use Rattle.pmem_model.specs.Memory.{word_at}
use Rattle.pmem_model.specs.Events.{flush_calm, fence_all, write_back_calm, burst_apart}
use Rattle.pmem_model.specs.Words.{is_within}
use Rattle.pmem_layout.specs.Owners.{owner, Pages}
use Rattle.pmem_layout.specs.Rooms.{CalmIn}
use Rattle.page_store.specs.Known.{Open}
use Rattle.page_store.specs.Shows.{after_store}
use Rattle.page_store.specs.Back.{filled}
use Rattle.cow_fault.proofs.Places.{one_burst, has_saved}
use Rattle.cow_fault.proofs.history.happen.Goals as goal

pub returns-then-may-clause-shows : goal.returns-then-may-clause-shows
returns-then-may-clause-shows c = λ done saved now h. rw c.in-Fault.is (now, refl, c.step.ensures.shows saved now Open h)

pub returns-then-may-2-clause-shows : goal.returns-then-may-2-clause-shows
returns-then-may-2-clause-shows c = λ done saved now h.
    let e = rw (c.frame_at.ensures.at, c.runtime_frame.ensures.frame) at c.burst.ensures.words in
    let possible = rw c.in-Store.is at c.requires.possible in
    rw c.in-Store.is (
      after_store now c.in-Store.page c.in-Store.at 1 (λ j. c.in-Store.value),
      refl,
      c.note_store.ensures.shows (word_at c.args.nvm.now) (word_at c.burst.new.self) c.args.version saved now
          c.in-Store.at 1 (λ j. c.in-Store.value) (omega (arith, possible.1)) (one_burst _ _ _ c.in-Store.value e) h,
    )

pub returns-in-FlushPage-clause-shows : goal.returns-in-FlushPage-clause-shows
returns-in-FlushPage-clause-shows c = λ done saved now h.
    rw c.in-FlushPage.is (now, refl, c.flush.ensures.shows c.args.version saved now h)

pub returns-in-Flush-clause-shows : goal.returns-in-Flush-clause-shows
returns-in-Flush-clause-shows c = λ done saved now h.
    let calm : CalmIn Pages (word_at c.args.nvm.now) (word_at c.flush-in-Flush.new.self) =
    record { at = λ i own. flush_calm _ _ c.in-Flush.core c.line_at.result 8 c.flush-in-Flush.ensures.words i } in
    rw c.in-Flush.is (now, refl, c.page_versions.ensures.calm c.args.pages.now _ _ c.args.version saved now Open calm h)

pub returns-in-Fence-clause-shows : goal.returns-in-Fence-clause-shows
returns-in-Fence-clause-shows c = λ done saved now h.
    let calm : CalmIn Pages (word_at c.args.nvm.now) (word_at c.fence.new.self) =
    record { at = λ i own. (fence_all _ _ c.in-Fence.core c.fence.ensures.words i).calm } in
    rw c.in-Fence.is (now, refl, c.page_versions.ensures.calm c.args.pages.now _ _ c.args.version saved now Open calm h)

pub returns-in-WriteBack-clause-shows : goal.returns-in-WriteBack-clause-shows
returns-in-WriteBack-clause-shows c = λ done saved now h.
    let calm : CalmIn Pages (word_at c.args.nvm.now) (word_at c.write_back.new.self) = record {
      at = λ i own. write_back_calm (word_at c.args.nvm.now) (word_at c.write_back.new.self) (is_within c.in-WriteBack.at 1)
          c.write_back.ensures.words i;
    } in
    rw c.in-WriteBack.is (now, refl, c.page_versions.ensures.calm c.args.pages.now _ _ c.args.version saved now Open calm h)

pub returns-in-StoreElsewhere-clause-shows : goal.returns-in-StoreElsewhere-clause-shows
returns-in-StoreElsewhere-clause-shows c = λ done saved now h.
    let possible = rw c.in-StoreElsewhere.is at c.requires.possible in
    let calm : CalmIn Pages (word_at c.args.nvm.now) (word_at c.burst-in-StoreElsewhere.new.self) = record {
      at = λ i own. burst_apart (word_at c.args.nvm.now) (word_at c.burst-in-StoreElsewhere.new.self) c.in-StoreElsewhere.at i
          (slice_index (c.in-StoreElsewhere.value ∷ [])) c.burst-in-StoreElsewhere.ensures.words
          (λ same. possible.1 (ap owner (sym same) ∙ own));
    } in
    rw c.in-StoreElsewhere.is (now, refl, c.page_versions.ensures.calm c.args.pages.now _ _ c.args.version saved now Open calm h)

pub returns-in-Cut-clause-shows : goal.returns-in-Cut-clause-shows
returns-in-Cut-clause-shows c = λ done saved now h.
    rw c.in-Cut.is (
      filled saved (word_at c.cut_and_recover.new.nvm),
      λ page content is. has_saved saved (word_at c.cut_and_recover.new.nvm) page content is,
      c.cut_and_recover.ensures.shows saved now h,
    )
