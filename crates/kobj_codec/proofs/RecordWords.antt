-- Records word by word.
use Rattle.std.proofs.Common.{◌≡◌, ℕ, zero, suc, ◌+◌, ◌<◌, ◌≤◌, ◌∙◌, sym, arith, List, length, slice_index, set, below_more, get_or-set_same, get_or-set_other}
use Rattle.std.proofs.lemmas.Grind.{same_number_lists}
use Rattle.std.proofs.lemmas.List.{length-set}
use Rattle.pmem_layout.specs.declared.places.TheConstants.{SLOT_WORDS}
use Rattle.kobj_codec.specs.declared.obj.Obj.{Obj}
use Rattle.kobj_codec.specs.Records.{IsRecord, head_word, word_behind}

-- the head of a record is written, and so are the words behind it before a place
pub record IsBegun (words : List ℕ) (o : Obj) (n : ℕ) : Type 0 where
  pub size : length words ≡ SLOT_WORDS
  pub head : slice_index words 0 ≡ head_word o
  pub behind : (i : ℕ) → i < n → slice_index words (i + 1) ≡ word_behind o i

pub begun_first : (words : List ℕ) (o : Obj) (head : ℕ) → length words ≡ SLOT_WORDS → head ≡ head_word o → IsBegun (set words 0 head) o 0
begun_first words o head size is = record {
  size = length-set words 0 head ∙ size;
  head = get_or-set_same words 0 head 0 (omega (arith, size)) ∙ is;
  behind = λ i lt. absurd (omega arith);
}

pub begun_more : (words : List ℕ) (o : Obj) (n word : ℕ) → n + 1 < SLOT_WORDS → IsBegun words o n → word ≡ word_behind o n → IsBegun (set words (n + 1) word) o (n + 1)
begun_more words o n word inside h is = record {
  size = length-set words (n + 1) word ∙ h.size;
  head = get_or-set_other words (n + 1) 0 word 0 (λ e. absurd (omega arith)) ∙ h.head;
  behind = below_more (λ i. slice_index (set words (n + 1) word) (i + 1) ≡ word_behind o i) n
      (λ i lt. get_or-set_other words (n + 1) (i + 1) word 0 (λ e. absurd (omega arith)) ∙ h.behind i lt)
      (get_or-set_same words (n + 1) word 0 (omega (arith, inside, h.size)) ∙ is);
}

pub begun_record : (words : List ℕ) (o : Obj) (n : ℕ) → SLOT_WORDS ≤ n + 1 → IsBegun words o n → IsRecord (slice_index words) o
begun_record words o n all h = record { head = h.head; behind = λ i lt. h.behind i (omega arith) }

same_words : (xs ys : List ℕ) (o : Obj) → IsRecord (slice_index xs) o → IsRecord (slice_index ys) o → (i : ℕ) → i < SLOT_WORDS → slice_index xs i ≡ slice_index ys i
same_words xs ys o r s zero lt = r.head ∙ sym s.head
same_words xs ys o r s (suc i) lt =
    let place : suc i ≡ i + 1 = omega arith in
    rw place (r.behind i (omega arith) ∙ sym (s.behind i (omega arith)))

-- an object has one record
pub same_record : (xs ys : List ℕ) (o : Obj) → length xs ≡ SLOT_WORDS → length ys ≡ SLOT_WORDS → IsRecord (slice_index xs) o → IsRecord (slice_index ys) o → xs ≡ ys
same_record xs ys o m n r s = same_number_lists xs ys (m ∙ sym n) (λ i lt. same_words xs ys o r s i (omega (arith, m, lt)))
