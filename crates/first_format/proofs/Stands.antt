-- The words of a memory that was formatted stand for the parts that it was formatted with.
use Rattle.std.proofs.Common.{◌≡◌, ◌≢◌, ◌⊎◌, inl, inr, ℕ, ◌+◌, ◌-◌, ◌*◌, ◌/◌, ◌%◌, ◌<◌, ◌≤◌, ◌∙◌, true, false, Option, Some, None, refl, ap, sym, arith, ne_eqb, eq-eqb, lit≤}
use Rattle.std.specs.Prelude.{◌==◌, IfSome, is_some}
use Rattle.std.specs.Int.{bit_at}
use Rattle.sls_base.specs.declared.limits.TheConstants.{CORES}
use Rattle.pmem_layout.specs.declared.places.TheConstants.{CORES_AT, NUMBERS}
use Rattle.pmem_layout.specs.Places.{IsUnused, backup_tag_at, frame_at, object_slot_at, object_tag_at, runtime_frame}
use Rattle.pmem_layout.specs.Owners.{Fixed, owner}
use Rattle.kobj_codec.specs.declared.obj.Obj.{Obj}
use Rattle.kobj_codec.specs.Objects.{IsObj}
use Rattle.kobj_codec.specs.Records.{word_behind}
use Rattle.alloc_journal.specs.Format.{base_bit, count_at, entries, redone, NumbersStand}
use Rattle.object_root.specs.Format.{ObjectStands, ObjectsStand}
use Rattle.page_store.specs.Slots.{Slot, Backup, HasSlot}
use Rattle.page_store.specs.Format.{Is, PagesStand, frame_of}
use Rattle.page_store.specs.Shows.{words_of}
use Rattle.durable_state.specs.Parts.{FixedStand, Parts, PartsStand, fixed_word}
use Rattle.first_format.specs.Formatted.{base_word, content_word, formatted, object_tag, record_word}
use Rattle.first_format.proofs.Bits.{bits_told}
use Rattle.first_format.proofs.Places.{at_base, at_fixed, at_gap, at_middle, at_page, at_record, at_tag, formatted_body}

-- Fixed words.

not_cores : (p : Parts) (word : ℕ) → word ≢ CORES_AT → fixed_word p.cores word ≡ 0
not_cores p word ne = rw (ne_eqb word CORES_AT ne) refl

fixed_is : (p : Parts) (word : ℕ) → (word ≡ CORES_AT) ⊎ IsUnused word → formatted p word ≡ fixed_word p.cores word
fixed_is p word (inl cores) =
    formatted_body p word (λ z. absurd (omega arith)) ∙ at_fixed p word (omega arith)
fixed_is p word (inr (inl low)) =
    formatted_body p word (λ z. absurd (omega arith)) ∙ at_fixed p word (omega arith)
fixed_is p word (inr (inr (inl low))) =
    formatted_body p word (λ z. absurd (omega arith)) ∙ at_fixed p word (omega arith)
fixed_is p word (inr (inr (inr (inl middle)))) =
    formatted_body p word (λ z. absurd (omega arith)) ∙ (at_middle p word (omega arith) (omega arith) ∙ sym (not_cores p word (λ z. absurd (omega arith))))
fixed_is p word (inr (inr (inr (inr gap)))) =
    formatted_body p word (λ z. absurd (omega arith)) ∙ (at_gap p word (omega arith) (omega arith) ∙ sym (not_cores p word (λ z. absurd (omega arith))))

pub fixed_stand : (p : Parts) → 1 ≤ p.cores → p.cores ≤ CORES → ((word : ℕ) → owner word ≡ Fixed → (word ≡ CORES_AT) ⊎ IsUnused word) → FixedStand (formatted p) p.cores
fixed_stand p some most places = record {
  format = refl;
  some = some;
  most = most;
  each = λ word own. fixed_is p word (places word own);
}

-- Numbers.

no_log : (p : Parts) → count_at (formatted p) 0 ≡ 0
unfolding content_word
no_log p = refl

number_told : (p : Parts) (n : ℕ) → n < NUMBERS → base_bit (formatted p) n ≡ p.numbers n
number_told p n below =
    let at : formatted p (16 + n / 64) ≡ base_word p.numbers (n / 64) =
    formatted_body p (16 + n / 64) (λ z. absurd (omega arith)) ∙ at_base p (n / 64) (omega arith) in
    let number : 64 * (n / 64) + n % 64 ≡ n = omega arith in
    ap (λ word. bit_at word (n % 64) == 1) at
    ∙ (bits_told p.numbers (64 * (n / 64)) 64 (n % 64) (omega arith) ∙ ap p.numbers number)

pub numbers_stand : (p : Parts) → NumbersStand (formatted p) 0 p.numbers
numbers_stand p =
    let none = no_log p in
    record {
      log = record {
        most = omega (arith, none);
        in_range = λ i inside. absurd (omega (arith, none));
        rising = λ i j before inside. absurd (omega (arith, none));
      };
      each = λ n below. ap (redone (entries (formatted p)) n (base_bit (formatted p) n)) none ∙ number_told p n below;
    }

-- Objects.

tag_is : (p : Parts) (id slot : ℕ) → id < 128 → slot < 2 → formatted p (object_tag_at id slot) ≡ object_tag p.objects (2 * id + slot)
tag_is p id slot below inside =
    let at : 1216 + (2 * id + slot) ≡ object_tag_at id slot = omega arith in
    formatted_body p (object_tag_at id slot) (λ z. absurd (omega arith)) ∙ (ap (content_word p) (sym at) ∙ at_tag p (2 * id + slot) (omega arith))

first_tag : (p : Parts) (id : ℕ) → id < 128 → is_some (p.objects id) ≡ true → formatted p (object_tag_at id 0) ≡ 1
first_tag p id below there =
    let even : (2 * id + 0) % 2 ≡ 0 = omega arith in
    let half : (2 * id + 0) / 2 ≡ id = omega arith in
    let some : is_some (p.objects ((2 * id + 0) / 2)) ≡ true = ap (λ i. is_some (p.objects i)) half ∙ there in
    tag_is p id 0 below (omega arith) ∙ rw (eq-eqb ((2 * id + 0) % 2) 0 even, some) refl

second_tag : (p : Parts) (id : ℕ) → id < 128 → formatted p (object_tag_at id 1) ≡ 0
second_tag p id below =
    let odd : ((2 * id + 1) % 2 == 0) ≡ false = ne_eqb ((2 * id + 1) % 2) 0 (λ z. absurd (omega arith)) in
    tag_is p id 1 below (omega arith) ∙ rw odd refl

record_at_word : (p : Parts) (id j : ℕ) (obj : Obj) → id < 128 → j < 64 → p.objects id ≡ Some obj → formatted p (object_slot_at id 0 + j) ≡ record_word (Some obj) j
record_at_word p id j obj below inside told =
    formatted_body p (object_slot_at id 0 + j) (λ z. absurd (omega arith)) ∙ (at_record p id j below inside ∙ ap (λ (o : Option Obj). record_word o j) told)

record_behind : (obj : Obj) (i : ℕ) → record_word (Some obj) (i + 1) ≡ word_behind obj i
record_behind obj i =
    let one : i + 1 - 1 ≡ i = omega arith in
    rw (ne_eqb (i + 1) 0 (λ z. absurd (omega arith))) (ap (word_behind obj) one)

object_stands : (p : Parts) (id : ℕ) (told : Option Obj) → id < 128 → p.objects id ≡ told → IfSome told IsObj → ObjectStands (formatted p) 0 id told
object_stands p id None below e ranged = tt
object_stands p id (Some obj) below e ranged =
    let tag = first_tag p id below (ap (λ (o : Option Obj). is_some o) e) in
    let other = second_tag p id below in
    record {
      slot = 0;
      chosen = record {
        other = 1;
        slots = refl;
        tagged = omega (arith, tag);
        not_above = omega (arith, tag);
        greatest = inl (omega (arith, tag, other));
      };
      in_range = ranged;
      record_is = record {
        head = record_at_word p id 0 obj below (omega arith) e;
        behind = λ i inside. record_at_word p id (i + 1) obj below (omega arith) e ∙ record_behind obj i;
      };
    }

pub objects_stand : (p : Parts) → ((id : ℕ) → IfSome (p.objects id) IsObj) → ObjectsStand (formatted p) 0 p.objects
objects_stand p ranged = record { each = λ id below. object_stands p id (p.objects id) below refl (ranged id) }

-- Pages.

no_slot : (p : Parts) (page : ℕ) (slot : Slot) → page < 512 → HasSlot (formatted p) page slot 0 → ⊥
no_slot p page Backup below has =
    let none : formatted p (backup_tag_at page) ≡ 0 =
    formatted_body p (backup_tag_at page) (λ z. absurd (omega arith)) ∙ at_middle p (backup_tag_at page) (omega arith) (omega arith) in
    absurd (omega (arith, none, has))

page_is : (p : Parts) (page : ℕ) (told : Option (ℕ → ℕ)) → page < 512 → p.pages page ≡ told → Is told (frame_of (formatted p) (runtime_frame page))
page_is p page None below e = tt
page_is p page (Some content) below e = λ j inside.
    formatted_body p (frame_at (runtime_frame page) + j) (λ z. absurd (omega arith)) ∙ (at_page p page j below inside ∙ ap (λ (o : Option (ℕ → ℕ)). words_of o j) e)

pub pages_stand : (p : Parts) → PagesStand (formatted p) 0 p.pages
pages_stand p = record {
  each = λ page below. record {
    slot = λ slot has. absurd (no_slot p page slot below has);
    runtime = λ none. page_is p page (p.pages page) below refl;
  };
}

pub parts_stand : (p : Parts) → 1 ≤ p.cores → p.cores ≤ CORES → ((word : ℕ) → owner word ≡ Fixed → (word ≡ CORES_AT) ⊎ IsUnused word) → ((id : ℕ) → IfSome (p.objects id) IsObj)
    → PartsStand (formatted p) 0 p
parts_stand p some most places ranged = record {
  in_range = lit≤ tt;
  fixed = fixed_stand p some most places;
  numbers = numbers_stand p;
  objects = objects_stand p ranged;
  pages = pages_stand p;
}
