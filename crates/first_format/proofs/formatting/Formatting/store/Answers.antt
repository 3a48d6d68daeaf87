use Rattle.std.proofs.Common.{◌≡◌, ℕ, ◌+◌, ◌<◌, ◌∙◌, Some, None, true, false, ap, sym, subst, length, slice_index}
use Rattle.std.specs.Prelude.{List, ◌==◌, IfSome}
use Rattle.kobj_codec.specs.Objects.{IsObj}
use Rattle.pmem_model.specs.Memory.{word_at}
use Rattle.first_format.specs.declared.pieces.Piece.TheVariants.{Record, Page}
use Rattle.first_format.specs.Parts.{first_parts, first_records, is_fresh}
use Rattle.first_format.specs.Formatted.{content_word}
use Rattle.first_format.specs.Pieces.{IsPiece, place_of}
use Rattle.first_format.proofs.Firsts.{records_ranged}
use Rattle.first_format.proofs.PieceWords.{AreOf, AreStored, IsEmpty, fresh_page, no_record, page_are, record_are, tags_are}
use Rattle.first_format.proofs.formatting.Formatting.store.Goals as goal

pub encode-requires : goal.encode-requires
encode-requires c =
    let image = c.args.image.now in
    let cores = c.args.self.now.cores in
    let begun = c.requires.begun in
    let is : first_records image cores c.in-Record.id ≡ Some c.in-Some.obj = sym (begun.records c.in-Record.id) ∙ sym c.in-Some.ensures.record in
    subst (λ o. IfSome o IsObj) is
    (records_ranged image cores c.in-Record.id (c.first_state.ensures.sound image cores begun.accepted) begun.some begun.most)

pub returns-in-Head-clause-stored : goal.returns-in-Head-clause-stored
returns-in-Head-clause-stored c = λ t.
    let p = first_parts c.args.image.now c.args.self.now.cores in
    c.store.ensures.stored (λ j. content_word p (place_of c.args.piece + j))
    (subst (AreOf p (slice_index c.head_words.result)) (sym c.in-Head.is) (c.head_words.ensures c.args.image.now c.requires.begun))

pub returns-in-Tags-clause-stored : goal.returns-in-Tags-clause-stored
returns-in-Tags-clause-stored c = λ t.
    let p = first_parts c.args.image.now c.args.self.now.cores in
    c.store-in-Tags.ensures.stored (λ j. content_word p (place_of c.args.piece + j))
    (subst (AreOf p (slice_index c.tag_words.result)) (sym c.in-Tags.is)
    (tags_are p (slice_index c.tag_words.result) (c.tag_words.ensures c.args.image.now c.requires.begun)))

pub returns-in-Some-clause-stored : goal.returns-in-Some-clause-stored
returns-in-Some-clause-stored c = λ t.
    let image = c.args.image.now in
    let cores = c.args.self.now.cores in
    let p = first_parts image cores in
    let below : c.in-Record.id < 128 = subst IsPiece c.in-Record.is c.requires.piece in
    let is : first_records image cores c.in-Record.id ≡ Some c.in-Some.obj = sym (c.requires.begun.records c.in-Record.id) ∙ sym c.in-Some.ensures.record in
    subst (AreStored p (word_at c.args.nvm.now) (word_at c.store-in-Some.new.nvm)) (sym c.in-Record.is)
    (c.store-in-Some.ensures.stored (λ j. content_word p (place_of (Record c.in-Record.id) + j))
    (record_are p (slice_index c.encode.result) c.in-Record.id c.in-Some.obj below is c.encode.ensures.record))

pub returns-in-None-clause-empty : goal.returns-in-None-clause-empty
returns-in-None-clause-empty c = λ t.
    let image = c.args.image.now in
    let cores = c.args.self.now.cores in
    let p = first_parts image cores in
    let below : c.in-Record.id < 128 = subst IsPiece c.in-Record.is c.requires.piece in
    let is : first_records image cores c.in-Record.id ≡ None = sym (c.requires.begun.records c.in-Record.id) ∙ sym c.in-None.ensures.record in
    subst (IsEmpty p) (sym c.in-Record.is) (no_record p c.in-Record.id below is)

pub returns-then-is_empty-clause-empty : goal.returns-then-is_empty-clause-empty
returns-then-is_empty-clause-empty c = λ t.
    let image = c.args.image.now in
    let cores = c.args.self.now.cores in
    let below : c.in-Page.page < 512 = subst IsPiece c.in-Page.is c.requires.piece in
    let fresh : is_fresh image c.in-Page.page ≡ true =
    ap (λ (l : List ℕ). length l == 0) (sym c.content_on.ensures) ∙ (sym c.is_empty.ensures ∙ c.if-is_empty.true) in
    subst (IsEmpty (first_parts image cores)) (sym c.in-Page.is) (fresh_page image cores c.in-Page.page below fresh)

pub returns-else-is_empty-clause-stored : goal.returns-else-is_empty-clause-stored
returns-else-is_empty-clause-stored c = λ t.
    let image = c.args.image.now in
    let cores = c.args.self.now.cores in
    let p = first_parts image cores in
    let below : c.in-Page.page < 512 = subst IsPiece c.in-Page.is c.requires.piece in
    let stale : is_fresh image c.in-Page.page ≡ false =
    ap (λ (l : List ℕ). length l == 0) (sym c.content_on.ensures) ∙ (sym c.is_empty.ensures ∙ c.if-is_empty.false) in
    subst (AreStored p (word_at c.args.nvm.now) (word_at c.store-else-is_empty.new.nvm)) (sym c.in-Page.is)
    (c.store-else-is_empty.ensures.stored (λ j. content_word p (place_of (Page c.in-Page.page) + j))
    (page_are image cores c.in-Page.page (slice_index c.page_words.result) below stale c.page_words.ensures))
