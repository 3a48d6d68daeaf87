-- Whether words are the record that is saved of an object.
use Rattle.std.specs.Prelude.{◌≡◌, ◌+◌, ◌<◌, ◌↔◌, ℕ, zero, suc, Bool, true, Option, Some, None, IsTrue, is_some}
use Rattle.std.proofs.Common.{◌∙◌, sym, subst, arith}
use Rattle.pmem_layout.specs.declared.places.TheConstants.{SLOT_WORDS}
use Rattle.pmem_layout.specs.Places.{object_slot_at}
use Rattle.kobj_codec.specs.declared.obj.Obj.{Obj}
use Rattle.kobj_codec.specs.Objects.{IsObj}
use Rattle.kobj_codec.specs.Records.{IsRecord}
use Rattle.object_root.specs.Format.{IsChosen, HasObject, ObjectStands}

-- the words of a record are those of its object
same_words : (a b : ℕ → ℕ) (o : Obj) → IsRecord a o → IsRecord b o → (j : ℕ) → j < SLOT_WORDS → a j ≡ b j
same_words a b o of_a of_b zero lt = of_a.head ∙ sym of_b.head
same_words a b o of_a of_b (suc i) lt =
    let up : i + 1 ≡ suc i = omega arith in
    let inside : i + 1 < SLOT_WORDS = omega arith in
    subst (λ (k : ℕ). a k ≡ b k) up (of_a.behind i inside ∙ sym (of_b.behind i inside))

-- others that are equal in a slot are its record too
same_record : (a b : ℕ → ℕ) (o : Obj) → ((j : ℕ) → j < SLOT_WORDS → b j ≡ a j) → IsRecord a o → IsRecord b o
same_record a b o same h = record {
  head = same 0 (omega arith) ∙ h.head;
  behind = λ i lt. same (i + 1) lt ∙ h.behind i lt;
}

abbrev pub IsOneObject : Type 0
IsOneObject = (words : ℕ → ℕ) (a b : Obj) → IsObj a → IsObj b → IsRecord words a → IsRecord words b → a ≡ b

-- the answer about the slot that is chosen
abbrev pub IsAnswer : Bool → (ℕ → ℕ) → ℕ → ℕ → (ℕ → ℕ) → Type 0
IsAnswer answer left v id words = (slot : ℕ) → IsChosen left v id slot
    → IsTrue answer ↔ ((j : ℕ) → j < SLOT_WORDS → left (object_slot_at id slot + j) ≡ words j)

of_chosen : IsOneObject → (answer : Bool) (left words : ℕ → ℕ) (v id : ℕ) (saved o : Obj) → IsAnswer answer left v id words → IsObj o → IsRecord words o
    → HasObject left v id saved → IsTrue answer ↔ (Some saved ≡ Some o)
of_chosen one answer left words v id saved o is sound of_words h = (
  λ yes. ap_some (one words saved o h.in_range sound
      (same_record (λ j. left (object_slot_at id h.slot + j)) words saved (λ j lt. sym ((is h.slot h.chosen).0 yes j lt)) h.record_is) of_words),
  λ same. (is h.slot h.chosen).1
      (same_words (λ j. left (object_slot_at id h.slot + j)) words o (subst (λ (p : Obj). IsRecord (λ j. left (object_slot_at id h.slot + j)) p) (of_some same) h.record_is) of_words),
)
  where
    ap_some : {a b : Obj} → a ≡ b → Some a ≡ Some b
    ap_some e = cc

    of_some : {a b : Obj} → Some a ≡ Some b → a ≡ b
    of_some e = cc

pub is_saved : IsOneObject → (answer : Bool) (left words : ℕ → ℕ) (v id : ℕ) (saved : Option Obj) (o : Obj) → is_some saved ≡ true
    → IsAnswer answer left v id words → IsObj o → IsRecord words o → ObjectStands left v id saved → IsTrue answer ↔ (saved ≡ Some o)
is_saved one answer left words v id None o there is sound of_words h = absurd (cc)
is_saved one answer left words v id (Some saved) o there is sound of_words h = of_chosen one answer left words v id saved o is sound of_words h
