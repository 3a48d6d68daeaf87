use Rattle.std.proofs.Common.{◌∙◌, subst}
use Rattle.pmem_model.specs.Memory.{word_at}
use Rattle.object_root.specs.declared.stage.Stage.{Stage}
use Rattle.object_root.specs.declared.stage.Stage.TheVariants.{TagFlushed}
use Rattle.object_root.specs.declared.stage.Phase.TheVariants.{Tags}
use Rattle.object_root.specs.Shows.{ObjectShows}
use Rattle.object_root.proofs.Steps.{shows_in, show_in, each_moved, calm_untouched, tag_flushed_one}
use Rattle.object_root.proofs.roots.Roots.flush_tag.Goals as goal

pub returns-clause-shows : goal.returns-clause-shows
returns-clause-shows c = λ v saved next h.
    let f = word_at c.args.nvm.now in
    let g = word_at c.flush.new.nvm in
    let id = c.args.id in
    let slot = c.args.slot in
    let e = rw (c.line_at.ensures, c.object_tag_at.ensures.at, c.number.ensures.number) at c.flush.ensures.words in
    let all = shows_in Tags c.requires.phase h in
    let one = subst (λ (s : Stage). ObjectShows Tags s f v id (saved id) (next id)) c.requires.stage
    (all id c.requires.object) in
    show_in Tags (c.come.ensures.kept.phase ∙ c.requires.phase) (c.come.ensures.kept.version ∙ h.version)
    (each_moved Tags c.args.self.now c.come.new.self f g v id saved next
    (TagFlushed slot) c.come.ensures.stage c.come.ensures.kept
    (λ i li ne. calm_untouched f g i c.flush.ensures.calm)
    (tag_flushed_one f g v id slot (saved id) (next id) e one) all)
