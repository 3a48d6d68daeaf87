use Rattle.std.specs.Prelude.{◌<◌, ℕ, slice_index}
use Rattle.std.proofs.Common.{◌∙◌, sym, subst, inr, refl, arith}
use Rattle.pmem_layout.specs.declared.places.TheConstants.{NUMBERS}
use Rattle.pmem_model.specs.Memory.{word_at}
use Rattle.version_rooms.proofs.Saved.{IsAnswer, is_saved}
use Rattle.version_rooms.proofs.rooms.Rooms.has_saved.Goals as goal

pub returns-then-has_committed_object : goal.returns-then-has_committed_object
returns-then-has_committed_object c = λ v cont phase o h known same sound of_words.
    let f = word_at c.args.nvm.now in
    let left = λ (i : ℕ). (f i).cached in
    let id = c.args.id in
    let words = slice_index c.args.words.now in
    let inside : id < NUMBERS = omega (arith, c.requires) in
    let there = c.known.ensures c.args.self.now.numbers.work f v cont.saved.numbers known h.keep.numbers id inside in
    let at = c.version.ensures.version ∙ h.keep.numbers.version_is in
    let stands = c.room.ensures.stands c.args.self.now.roots f v cont.saved.objects cont.objects left (record { at = λ i own. inr refl }) h.keep.objects in
    is_saved c.one_object.ensures _ left words v id (cont.saved.objects id) o
    (sym same ∙ sym there ∙ sym c.if-has_committed_object.ensures)
    (subst (λ (n : ℕ). IsAnswer c.has_record.result left n id words) at c.has_record.ensures) sound of_words (stands.each id c.requires)
