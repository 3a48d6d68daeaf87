use Rattle.std.proofs.Common.{◌≡◌, ◌+◌, ◌∙◌, ap, subst, arith, [], ◌∷◌, slice_index}
use Rattle.pmem_model.specs.Memory.{word_at}
use Rattle.object_root.proofs.Owners.{burst_stores}
use Rattle.object_root.specs.declared.stage.Stage.{Stage}
use Rattle.object_root.specs.declared.stage.Stage.TheVariants.{TagStored}
use Rattle.object_root.specs.declared.stage.Phase.TheVariants.{Tags}
use Rattle.object_root.specs.Room.{Room, number_of}
use Rattle.object_root.specs.Shows.{ObjectShows}
use Rattle.object_root.proofs.Steps.{shows_in, show_in, each_moved, number_small, tag_owner, tag_burst_leaves, tag_stored_one, tag_spares}
use Rattle.object_root.proofs.roots.Roots.store_tag.Goals as goal

pub returns-clause-rest : goal.returns-clause-rest
returns-clause-rest c =
    let e = rw (c.object_tag_at.ensures.at, c.number.ensures.number) at c.store.ensures.words in
    burst_stores e (λ j l. tag_owner c.args.id (number_of c.args.slot) j c.requires.object (number_small c.args.slot) l)

pub returns-clause-shows : goal.returns-clause-shows
returns-clause-shows c = λ v saved next h.
    let f = word_at c.args.nvm.now in
    let g = word_at c.store.new.nvm in
    let id = c.args.id in
    let slot = c.args.slot in
    let e = rw (c.object_tag_at.ensures.at, c.number.ensures.number) at c.store.ensures.words in
    let all = shows_in Tags c.requires.phase h in
    let one = subst (λ (s : Stage). ObjectShows Tags s f v id (saved id) (next id)) c.requires.stage
    (all id c.requires.object) in
    let version : c.self.inside.version ≡ v = ap (λ (r : Room). r.version) c.self.view_is ∙ h.version in
    let word : c.to_word.result ≡ v + 2 = omega (arith, version, c.to_word.ensures) in
    show_in Tags (c.come.ensures.kept.phase ∙ c.requires.phase) (c.come.ensures.kept.version ∙ h.version)
    (each_moved Tags c.args.self.now c.come.new.self f g v id saved next
    (TagStored slot) c.come.ensures.stage c.come.ensures.kept
    (λ i li ne. tag_burst_leaves f g id (number_of slot) i (slice_index (_ ∷ [])) e c.requires.object
    (number_small slot) ne)
    (tag_stored_one f g v id slot (saved id) (next id) (slice_index (_ ∷ [])) c.requires.object e word one) all)

pub returns-clause-spared : goal.returns-clause-spared
returns-clause-spared c = λ v saved next h.
    let f = word_at c.args.nvm.now in
    let id = c.args.id in
    let e = rw (c.object_tag_at.ensures.at, c.number.ensures.number) at c.store.ensures.words in
    let one = subst (λ (s : Stage). ObjectShows Tags s f v id (saved id) (next id)) c.requires.stage
    (shows_in Tags c.requires.phase h id c.requires.object) in
    tag_spares f (word_at c.store.new.nvm) v id c.args.slot (saved id) (next id)
    (slice_index (_ ∷ [])) c.requires.object e one
