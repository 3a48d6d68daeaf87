-- A bank keeps its invariant.
use Rattle.std.proofs.Common.{◌≡◌, ◌≢◌, ℕ, ◌+◌, ◌-◌, ◌≤◌, ◌<◌, Bool, true, false, ◌&&◌, ◌||◌, leb, cond, refl, sym, ◌∙◌, arith, List, length, get_or, ⊎_elim}
use Rattle.std.proofs.lemmas.Bool.{cases_eq, cases_lt, cases_Bool, or_parts}
use Rattle.std.proofs.lemmas.Bool.Decides.{nat_tests}
use Rattle.pmem_model.specs.Marks.{zero_has}
use Rattle.pmem_model.specs.Words.{is_within, has_core, without_core}
use Rattle.pmem_model.specs.Kept.{is_between, IsKept}
use Rattle.pmem_model.specs.Parts.{part_of, part_start, has_part, is_touched}
use Rattle.pmem_model.proofs.PartLemmas.{part_order, between_part}

-- a place that isn't touched now wasn't touched before, and is none of those from `at` on
apart_from : (len touched more at n i : ℕ) → is_touched len more i ≡ false
    → has_part more (part_of len i) ≡ (has_part touched (part_of len i) || (leb (part_of len at) (part_of len i) && leb (part_of len i) (part_of len (at + n - 1))))
    → (is_touched len touched i ≡ false) × (is_within at n i ≡ false)
apart_from len touched more at n i out each =
    let parts = or_parts (has_part touched (part_of len i)) (leb (part_of len at) (part_of len i) && leb (part_of len i) (part_of len (at + n - 1))) (sym each ∙ out) in (
      parts.0,
      ⊎_elim
          (λ (before : i < at). grind (arith, nat_tests))
          (λ (from : at ≤ i).
          ⊎_elim
          (λ (upto : i < at + n). let low = part_order len at i from in let high = part_order len i (at + n - 1) (omega arith) in absurd (grind (arith, nat_tests, parts.1, low, high)))
          (λ (past : at + n ≤ i). grind (arith, nat_tests))
          (cases_lt i (at + n)))
          (cases_lt i at),
    )

-- words were changed at the places from `at` on, and these are in touched parts now
pub kept_touched : (cached durable marks now now_marks : List ℕ) (touched more at n : ℕ)
    → IsKept cached durable marks touched
    → length now ≡ length cached
    → length now_marks ≡ length marks
    → ((i : ℕ) → is_within at n i ≡ false → get_or now i 0 ≡ get_or cached i 0)
    → ((i : ℕ) → is_within at n i ≡ false → get_or now_marks i 0 ≡ get_or marks i 0)
    → ((part : ℕ) → has_part more part ≡ (has_part touched part || (leb (part_of (length cached) at) part && leb part (part_of (length cached) (at + n - 1)))))
    → IsKept now durable now_marks more
kept_touched cached durable marks now now_marks touched more at n kept len marks_len same same_marks each =
    let off = λ (i : ℕ) (out : is_touched (length now) more i ≡ false). apart_from (length cached) touched more at n i (rw len at out) (each (part_of (length cached) i)) in
    record {
      parts = rw len kept.parts;
      durable_len = omega (arith, kept.durable_len);
      marks_len = omega (arith, kept.marks_len);
      clean = λ i out. same i ((off i out).1) ∙ kept.clean i ((off i out).0);
      unmarked = λ i out. same_marks i ((off i out).1) ∙ kept.unmarked i ((off i out).0);
    }

-- a part is forgotten, since each of its words is clean and has no mark
pub kept_without : (cached durable marks : List ℕ) (touched less part : ℕ)
    → IsKept cached durable marks touched
    → ((p : ℕ) → p ≢ part → has_part less p ≡ has_part touched p)
    → ((i : ℕ) → is_between (part_start (length cached) part) (part_start (length cached) (part + 1)) i ≡ true → get_or cached i 0 ≡ get_or durable i 0)
    → ((i : ℕ) → is_between (part_start (length cached) part) (part_start (length cached) (part + 1)) i ≡ true → get_or marks i 0 ≡ 0)
    → IsKept cached durable marks less
kept_without cached durable marks touched less part kept others clean unmarked =
    let len = length cached in
    record {
      parts = kept.parts;
      durable_len = kept.durable_len;
      marks_len = kept.marks_len;
      clean = λ i out.
          ⊎_elim
          (λ (here : part_of len i ≡ part). clean i (rw (between_part len part i) (grind (arith, nat_tests))))
          (λ (other : part_of len i ≢ part). kept.clean i (sym (others (part_of len i) other) ∙ out))
          (cases_eq (part_of len i) part);
      unmarked = λ i out.
          ⊎_elim
          (λ (here : part_of len i ≡ part). unmarked i (rw (between_part len part i) (grind (arith, nat_tests))))
          (λ (other : part_of len i ≢ part). kept.unmarked i (sym (others (part_of len i) other) ∙ out))
          (cases_eq (part_of len i) part);
    }

cond_same : (b : Bool) (x : ℕ) → cond b x x ≡ x
cond_same true x = refl
cond_same false x = refl

-- a fence of the words from `f` on and before `p`
pub kept_settled : (cached durable marks now now_marks : List ℕ) (touched core f p : ℕ)
    → IsKept cached durable marks touched
    → length now ≡ length durable
    → length now_marks ≡ length marks
    → ((i : ℕ) → get_or now i 0 ≡ cond (is_between f p i) (cond (has_core (get_or marks i 0) core) (get_or cached i 0) (get_or durable i 0)) (get_or durable i 0))
    → ((i : ℕ) → get_or now_marks i 0 ≡ cond (is_between f p i) (cond (has_core (get_or marks i 0) core) (without_core (get_or marks i 0) core) (get_or marks i 0)) (get_or marks i 0))
    → IsKept cached now now_marks touched
kept_settled cached durable marks now now_marks touched core f p kept len marks_len settled settled_marks = record {
  parts = kept.parts;
  durable_len = omega (arith, kept.durable_len);
  marks_len = omega (arith, kept.marks_len);
  clean = λ i out. let unset = rw (← kept.unmarked i out) at (zero_has core) in kept.clean i out ∙ sym (rw (unset, cond_same) at (settled i));
  unmarked = λ i out. let unset = rw (← kept.unmarked i out) at (zero_has core) in rw (unset, cond_same) at (settled_marks i) ∙ kept.unmarked i out;
}

-- a word with a mark stands in a touched part
pub marked_touched : (cached durable marks : List ℕ) (touched core i : ℕ) → IsKept cached durable marks touched
    → has_core (get_or marks i 0) core ≡ true → is_touched (length cached) touched i ≡ true
marked_touched cached durable marks touched core i kept has = ⊎_elim
    (λ (is : is_touched (length cached) touched i ≡ true). is)
    (λ (is : is_touched (length cached) touched i ≡ false).
    let unmarked = kept.unmarked i is in let f : has_core 0 core ≡ true = rw unmarked at has in let none = zero_has core in absurd (cc))
    (cases_Bool (is_touched (length cached) touched i))
