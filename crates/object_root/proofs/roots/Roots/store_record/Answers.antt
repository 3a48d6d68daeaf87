use Rattle.std.proofs.Common.{◌≡◌, ℕ, ◌+◌, ◌∙◌, ap, subst, slice_index}
use Rattle.pmem_model.specs.Memory.{word_at}
use Rattle.object_root.proofs.Owners.{owner_object_slot}
use Rattle.object_root.proofs.Owners.{burst_stores}
use Rattle.object_root.specs.declared.stage.Stage.{Stage}
use Rattle.object_root.specs.declared.stage.Stage.TheVariants.{Stored}
use Rattle.object_root.specs.declared.stage.Phase.TheVariants.{Records}
use Rattle.object_root.specs.Format.{IsChosen}
use Rattle.object_root.specs.Room.{Room, number_of}
use Rattle.object_root.specs.Shows.{ObjectShows}
use Rattle.object_root.proofs.Steps.{shows_in, show_in, each_moved, number_small, aimed, slot_burst_leaves, stored_one, store_spares}
use Rattle.object_root.proofs.roots.Roots.store_record.Goals as goal

pub returns-clause-rest : goal.returns-clause-rest
returns-clause-rest c =
    let slot = c.free_slot-slot.result in
    let e = rw (c.told-words, c.object_slot_at.ensures.at, c.number.ensures.number) at c.store.ensures.words in
    burst_stores e (λ j l. owner_object_slot c.args.id (number_of slot) j c.requires.object (number_small slot) l)

pub returns-clause-shows : goal.returns-clause-shows
returns-clause-shows c = λ v saved next fits h.
    let f = word_at c.args.nvm.now in
    let g = word_at c.store.new.nvm in
    let id = c.args.id in
    let slot = c.free_slot-slot.result in
    let e = rw (c.told-words, c.object_slot_at.ensures.at, c.number.ensures.number) at c.store.ensures.words in
    let all = shows_in Records c.requires.phase h in
    let one = subst (λ (s : Stage). ObjectShows Records s f v id (saved id) (next id)) c.requires.stage
    (all id c.requires.object) in
    let version : c.self.inside.version ≡ v = ap (λ (r : Room). r.version) c.self.view_is ∙ h.version in
    let free = subst (λ (n : ℕ). (s : ℕ) → IsChosen (λ i. (f i).cached) n id s
    → number_of slot + s ≡ 1) version c.free_slot-slot.ensures in
    let aim = aimed f v id (number_of slot) (saved id) (next id) (number_small slot) free one in
    show_in Records (c.come.ensures.kept.phase ∙ c.requires.phase) (c.come.ensures.kept.version ∙ h.version)
    (each_moved Records c.args.self.now c.come.new.self f g v id saved next
    (Stored slot) c.come.ensures.stage c.come.ensures.kept
    (λ i li ne. slot_burst_leaves f g id (number_of slot) i (slice_index c.args.words.now) e (number_small slot) li ne)
    (stored_one f g v id slot (saved id) (next id) (slice_index c.args.words.now) c.requires.object e fits aim.0
    aim.1) all)

pub returns-clause-spared : goal.returns-clause-spared
returns-clause-spared c = λ v saved next h.
    let f = word_at c.args.nvm.now in
    let id = c.args.id in
    let slot = c.free_slot-slot.result in
    let e = rw (c.told-words, c.object_slot_at.ensures.at, c.number.ensures.number) at c.store.ensures.words in
    let version : c.self.inside.version ≡ v = ap (λ (r : Room). r.version) c.self.view_is ∙ h.version in
    let free = subst (λ (n : ℕ). (s : ℕ) → IsChosen (λ i. (f i).cached) n id s
    → number_of slot + s ≡ 1) version c.free_slot-slot.ensures in
    store_spares f (word_at c.store.new.nvm) v id (number_of slot) (slice_index c.args.words.now)
    (number_small slot) e free
