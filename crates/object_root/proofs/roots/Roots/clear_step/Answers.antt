use Rattle.std.proofs.Common.{◌∙◌, sym, inr}
use Rattle.pmem_model.specs.Events.{fence_all}
use Rattle.pmem_model.specs.Memory.{word_at}
use Rattle.object_root.proofs.Owners.{calm_stores, fenced_in}
use Rattle.object_root.specs.declared.stage.Phase.TheVariants.{Clearing, Cleared, Records}
use Rattle.sls_base.specs.declared.fixed.TheConstants.{LEADER}
use Rattle.object_root.specs.Room.{stage_at}
use Rattle.object_root.proofs.RoomLaws.{clear_ends}
use Rattle.object_root.proofs.Clears.{tags_flushed}
use Rattle.object_root.proofs.Steps.{shows_in, show_in, calm_spares}
use Rattle.object_root.proofs.roots.Roots.clear_step.Goals as goal

pub returns-else-tag-clause-rest : goal.returns-else-tag-clause-rest
returns-else-tag-clause-rest c =
    calm_stores c.flush.ensures.calm

pub returns-else-tag-clause-shows : goal.returns-else-tag-clause-shows
returns-else-tag-clause-shows c = λ v saved next h.
    show_in Cleared c.pass.ensures.phase (c.pass.ensures.version ∙ h.version)
    (tags_flushed c.args.self.now c.pass.new.self (word_at c.args.nvm.now)
    (word_at c.flush.new.nvm) v c.in-Clearing.tag saved c.pass.ensures.stages
    c.if-tag.false c.flush.ensures.words (shows_in (Clearing c.in-Clearing.tag)
    (sym c.phase.ensures ∙ c.in-Clearing.is) h))

pub returns-else-tag-clause-spared : goal.returns-else-tag-clause-spared
returns-else-tag-clause-spared c = λ v saved next h.
    calm_spares (word_at c.args.nvm.now) (word_at c.flush.new.nvm) v c.flush.ensures.calm

pub returns-in-Cleared-clause-shows : goal.returns-in-Cleared-clause-shows
returns-in-Cleared-clause-shows c = λ v saved next h.
    let f = word_at c.args.nvm.now in
    let g = word_at c.fence.new.self in
    show_in Records c.pass-in-Cleared.ensures.phase (c.pass-in-Cleared.ensures.version ∙ h.version)
    (clear_ends c.args.self.now f g v saved next (stage_at c.pass-in-Cleared.new.self) c.pass-in-Cleared.ensures.stages
    (fenced_in (record { at = fence_all f g LEADER c.fence.ensures.words }))
    (shows_in Cleared (sym c.phase.ensures ∙ c.in-Cleared.is) h))

pub returns-in-Cleared-clause-spared : goal.returns-in-Cleared-clause-spared
returns-in-Cleared-clause-spared c = λ v saved next h.
    let f = word_at c.args.nvm.now in
    let g = word_at c.fence.new.self in
    calm_spares f g v (record { at = λ i. (fence_all f g LEADER c.fence.ensures.words i).calm })

pub returns-in-Cleared-clause-operation : goal.returns-in-Cleared-clause-operation
returns-in-Cleared-clause-operation c = inr (c.operations.ensures.fence LEADER _ _ c.fence.ensures.words)
