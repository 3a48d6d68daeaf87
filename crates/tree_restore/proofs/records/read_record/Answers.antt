use Rattle.std.proofs.Common.{◌≡◌, ◌∙◌, ◌+◌, ◌<◌, ℕ, Some, ap, arith, slice_index, sym, true}
use Rattle.std.specs.Prelude.{is_some}
use Rattle.pmem_model.specs.Memory.{word_at}
use Rattle.pmem_layout.specs.declared.number.Number.TheVariants.{Object}
use Rattle.pmem_layout.specs.declared.places.TheConstants.{NUMBERS}
use Rattle.pmem_layout.specs.Numbers.{index_of}
use Rattle.pmem_layout.specs.Places.{object_slot_at}
use Rattle.tree_restore.proofs.Reading.{standing}
use Rattle.tree_restore.proofs.records.read_record.Goals as goal

pub returns-clause-record : goal.returns-clause-record
returns-clause-record c = λ saved read.
    let id = c.args.id in
    let left = λ (i : ℕ). (word_at c.args.nvm.now i).cached in
    let inside : index_of (Object id) < NUMBERS = omega (arith, c.requires) in
    let there : is_some (saved.objects id) ≡ true =
    sym (read.whole.used id c.requires) ∙ (sym (read.numbers (index_of (Object id)) inside)
    ∙ (sym c.has_committed_object.ensures ∙ c.if-not-has_committed_object.false)) in
    let own = standing (saved.objects id) there (read.stand.each id c.requires) in
    let slot : Some own.has.slot ≡ Some c.in_ok-slot.slot = sym (c.chosen.ensures.only own.has.slot own.has.chosen) ∙ c.in_ok-slot.was in
    let same : c.in_ok-slot.slot ≡ own.has.slot = cc in
    c.decode.ensures.only own.obj own.has.in_range
    (c.words_of_a_slot.ensures (λ j. left (object_slot_at id own.has.slot + j)) (slice_index c.slot_words.result) own.obj
    (λ j lt. c.slot_words.ensures j lt ∙ ap (λ (s : ℕ). left (object_slot_at id s + j)) same) own.has.record_is)
    ∙ sym own.is
