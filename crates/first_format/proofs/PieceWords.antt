-- The words of each piece.
use Rattle.std.proofs.Common.{◌≡◌, ℕ, ◌+◌, ◌-◌, ◌<◌, ◌∙◌, inl, inr, true, false, Some, None, refl, ap, sym, subst, arith, ne_eqb}
use Rattle.std.proofs.lemmas.Bool.{cases_eq}
use Rattle.sls_base.specs.declared.image.Image.{Image}
use Rattle.pmem_model.specs.Words.{Word, bursts}
use Rattle.kobj_codec.specs.declared.obj.Obj.{Obj}
use Rattle.kobj_codec.specs.Records.{IsRecord, word_behind}
use Rattle.durable_state.specs.Parts.{Parts}
use Rattle.first_format.specs.declared.pieces.Piece.{Piece}
use Rattle.first_format.specs.declared.pieces.Piece.TheVariants.{Tags, Record, Page}
use Rattle.first_format.specs.Parts.{first_parts, first_pages, is_fresh, page_word}
use Rattle.first_format.specs.Formatted.{content_word, object_tag, record_word}
use Rattle.first_format.specs.Pieces.{place_of, count_of}
use Rattle.first_format.proofs.Places.{at_page, at_record, at_tag}

-- the words are those of the piece
abbrev pub AreOf : Parts → (ℕ → ℕ) → Piece → Type 0
AreOf p words piece = (j : ℕ) → j < count_of piece → words j ≡ content_word p (place_of piece + j)

-- all words of the piece are 0
abbrev pub IsEmpty : Parts → Piece → Type 0
IsEmpty p piece = (j : ℕ) → j < count_of piece → content_word p (place_of piece + j) ≡ 0

-- the words of the piece are stored
abbrev pub AreStored : Parts → (ℕ → Word) → (ℕ → Word) → Piece → Type 0
AreStored p f g piece = (i : ℕ) → g i ≡ bursts (place_of piece) (count_of piece) (λ j. content_word p (place_of piece + j)) f i

pub tags_are : (p : Parts) (words : ℕ → ℕ) → ((j : ℕ) → j < 256 → words j ≡ object_tag p.objects j) → AreOf p words Tags
tags_are p words told j inside = told j inside ∙ sym (at_tag p j inside)

record_told : (words : ℕ → ℕ) (obj : Obj) (j : ℕ) → IsRecord words obj → j < 64 → words j ≡ record_word (Some obj) j
record_told words obj j h inside = elim (cases_eq j 0) [
  | inl first ↦ subst (λ k. words k ≡ record_word (Some obj) k) (sym first) h.head
  | inr ne ↦
      let is : j - 1 + 1 ≡ j = omega arith in
      rw (ne_eqb j 0 ne) (subst (λ k. words k ≡ word_behind obj (j - 1)) is (h.behind (j - 1) (omega arith)))
]

pub record_are : (p : Parts) (words : ℕ → ℕ) (id : ℕ) (obj : Obj) → id < 128 → p.objects id ≡ Some obj → IsRecord words obj → AreOf p words (Record id)
record_are p words id obj below is h j inside =
    record_told words obj j h inside ∙ (ap (λ o. record_word o j) (sym is) ∙ sym (at_record p id j below inside))

pub no_record : (p : Parts) (id : ℕ) → id < 128 → p.objects id ≡ None → IsEmpty p (Record id)
no_record p id below is j inside = at_record p id j below inside ∙ ap (λ o. record_word o j) is

pub page_are : (image : Image) (cores page : ℕ) (words : ℕ → ℕ) → page < 512 → is_fresh image page ≡ false
    → ((j : ℕ) → j < 512 → words j ≡ page_word image page j) → AreOf (first_parts image cores) words (Page page)
unfolding first_pages
page_are image cores page words below stale told j inside =
    told j inside ∙ sym (at_page (first_parts image cores) page j below inside ∙ rw stale refl)

pub fresh_page : (image : Image) (cores page : ℕ) → page < 512 → is_fresh image page ≡ true → IsEmpty (first_parts image cores) (Page page)
unfolding first_pages
fresh_page image cores page below fresh j inside = at_page (first_parts image cores) page j below inside ∙ rw fresh refl
