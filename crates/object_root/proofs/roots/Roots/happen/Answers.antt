use Rattle.std.proofs.Common.{◌∙◌, arith, subst}
use Rattle.pmem_model.specs.Events.{flush_calm, fence_all, write_back_calm}
use Rattle.pmem_model.specs.Memory.{word_at}
use Rattle.pmem_model.specs.PlaceLaws.{inside_line, home_of}
use Rattle.object_root.proofs.Owners.{calm_in, fenced_in}
use Rattle.sls_base.specs.declared.fixed.TheConstants.{LEADER}
use Rattle.object_root.specs.declared.play.Turn.{Turn}
use Rattle.object_root.specs.Turns.{Fits}
use Rattle.object_root.proofs.RoomLaws.{objects_calm, objects_cut}
use Rattle.object_root.proofs.roots.Roots.happen.Goals as goal

pub flush-requires-clause-inside : goal.flush-requires-clause-inside
flush-requires-clause-inside c = rw c.line_at.ensures (inside_line c.in-FlushBy.at)

pub flush-requires-clause-home : goal.flush-requires-clause-home
flush-requires-clause-home c = rw c.line_at.ensures (home_of c.args.nvm.now _ c.requires (omega arith))

pub write_back-requires-clause-home : goal.write_back-requires-clause-home
write_back-requires-clause-home c = home_of c.args.nvm.now c.in-WriteBack.at c.requires c.if-at-lt-WORDS-2.true

pub returns-in-Write-clause-shows : goal.returns-in-Write-clause-shows
returns-in-Write-clause-shows c = λ v saved next fits h.
    c.write_step.ensures.shows v saved next (subst (λ (t : Turn). Fits next t) c.in-Write.is fits) h

pub returns-in-Tag-clause-shows : goal.returns-in-Tag-clause-shows
returns-in-Tag-clause-shows c = λ v saved next fits h. c.tag_step.ensures.shows v saved next h

pub returns-in-Fence-clause-shows : goal.returns-in-Fence-clause-shows
returns-in-Fence-clause-shows c = λ v saved next fits h.
    let f = word_at c.args.nvm.now in
    let g = word_at c.fence.new.self in
    c.fenced.ensures.shows f g v saved next (fenced_in (record { at = fence_all f g LEADER c.fence.ensures.words })) h

pub returns-in-FlushBy-clause-shows : goal.returns-in-FlushBy-clause-shows
returns-in-FlushBy-clause-shows c = λ v saved next fits h.
    objects_calm (calm_in (record {
      at = flush_calm (word_at c.args.nvm.now)
          (word_at c.flush.new.self) _ _ _ c.flush.ensures.words;
    })) h

pub returns-in-FenceBy-clause-shows : goal.returns-in-FenceBy-clause-shows
returns-in-FenceBy-clause-shows c = λ v saved next fits h.
    let f = word_at c.args.nvm.now in
    let g = word_at c.fence-in-FenceBy.new.self in
    objects_calm (calm_in (record { at = λ i. (fence_all f g _ c.fence-in-FenceBy.ensures.words i).calm })) h

pub returns-in-WriteBack-clause-shows : goal.returns-in-WriteBack-clause-shows
returns-in-WriteBack-clause-shows c = λ v saved next fits h.
    objects_calm (calm_in (record {
      at = write_back_calm (word_at c.args.nvm.now)
          (word_at c.write_back.new.self) _ c.write_back.ensures.words;
    })) h

pub returns-in-Cut-clause-shows : goal.returns-in-Cut-clause-shows
returns-in-Cut-clause-shows c = λ v saved next fits h.
    objects_cut next c.new.ensures.phase (c.new.ensures.version ∙ c.version.ensures.version
    ∙ h.version) c.new.ensures.idle
    (record { at = c.cut.ensures.words }) h
