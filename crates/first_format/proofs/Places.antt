-- The word that formatting stores at each place.
use Rattle.std.proofs.Common.{◌≡◌, ◌≢◌, ◌⊎◌, inl, inr, ℕ, ◌+◌, ◌-◌, ◌*◌, ◌/◌, ◌%◌, ◌<◌, ◌≤◌, ◌∙◌, Bool, true, false, Option, None, refl, ap, sym, subst, arith, ne_eqb, eq-eqb}
use Rattle.std.specs.Prelude.{nat_lt, ◌==◌, ◌&&◌}
use Rattle.std.proofs.lemmas.Bool.{lt-ltb, cases_lt}
use Rattle.std.proofs.lemmas.Bool.Decides.{nat_tests}
use Rattle.pmem_layout.specs.declared.places.TheConstants.{FORMAT_AT}
use Rattle.pmem_layout.specs.Places.{frame_at, object_slot_at, runtime_frame}
use Rattle.page_store.specs.Shows.{words_of}
use Rattle.durable_state.specs.Parts.{Parts, fixed_word}
use Rattle.first_format.specs.declared.pieces.Piece.TheVariants as pieces
use Rattle.first_format.specs.Pieces.{piece_of, place_of, count_of}
use Rattle.first_format.specs.declared.pieces.TheConstants.{PIECES}
use Rattle.first_format.specs.Formatted.{base_word, content_word, formatted, frame_word, object_tag, record_word, slot_word}

past : (a b : ℕ) → b ≤ a → nat_lt a b ≡ false
past a b h = grind (arith, nat_tests)

pub formatted_body : (p : Parts) (word : ℕ) → word ≢ FORMAT_AT → formatted p word ≡ content_word p word
formatted_body p word ne = rw (ne_eqb word FORMAT_AT ne) refl

pub at_fixed : (p : Parts) (word : ℕ) → word < 16 → content_word p word ≡ fixed_word p.cores word
unfolding content_word
at_fixed p word h = rw (lt-ltb word 16 h) refl

pub at_base : (p : Parts) (k : ℕ) → k < 10 → content_word p (16 + k) ≡ base_word p.numbers k
unfolding content_word
at_base p k h =
    let e : 16 + k - 16 ≡ k = omega arith in
    rw (past (16 + k) 16 (omega arith), lt-ltb (16 + k) 26 (omega arith)) (ap (base_word p.numbers) e)

pub at_middle : (p : Parts) (word : ℕ) → 26 ≤ word → word < 1216 → content_word p word ≡ 0
unfolding content_word
at_middle p word h below =
    rw (past word 16 (omega arith), past word 26 h, lt-ltb word 1216 below) refl

pub at_tag : (p : Parts) (k : ℕ) → k < 256 → content_word p (1216 + k) ≡ object_tag p.objects k
unfolding content_word
at_tag p k h =
    let e : 1216 + k - 1216 ≡ k = omega arith in
    rw (
      past (1216 + k) 16 (omega arith),
      past (1216 + k) 26 (omega arith),
      past (1216 + k) 1216 (omega arith),
      lt-ltb (1216 + k) 1472 (omega arith),
    ) (ap (object_tag p.objects) e)

pub at_gap : (p : Parts) (word : ℕ) → 1472 ≤ word → word < 1536 → content_word p word ≡ 0
unfolding content_word
at_gap p word h below =
    rw (
      past word 16 (omega arith),
      past word 26 (omega arith),
      past word 1216 (omega arith),
      past word 1472 h,
      lt-ltb word 1536 below,
    ) refl

pub at_slot : (p : Parts) (k : ℕ) → k < 16384 → content_word p (1536 + k) ≡ slot_word p.objects k
unfolding content_word
at_slot p k h =
    let e : 1536 + k - 1536 ≡ k = omega arith in
    rw (
      past (1536 + k) 16 (omega arith),
      past (1536 + k) 26 (omega arith),
      past (1536 + k) 1216 (omega arith),
      past (1536 + k) 1472 (omega arith),
      past (1536 + k) 1536 (omega arith),
      lt-ltb (1536 + k) 17920 (omega arith),
    ) (ap (slot_word p.objects) e)

pub at_frame : (p : Parts) (k : ℕ) → content_word p (17920 + k) ≡ frame_word p.pages k
unfolding content_word
at_frame p k =
    let e : 17920 + k - 17920 ≡ k = omega arith in
    rw (
      past (17920 + k) 16 (omega arith),
      past (17920 + k) 26 (omega arith),
      past (17920 + k) 1216 (omega arith),
      past (17920 + k) 1472 (omega arith),
      past (17920 + k) 1536 (omega arith),
      past (17920 + k) 17920 (omega arith),
    ) (ap (frame_word p.pages) e)

-- a record, and a page

pub at_record : (p : Parts) (id j : ℕ) → id < 128 → j < 64 → content_word p (object_slot_at id 0 + j) ≡ record_word (p.objects id) j
at_record p id j below inside =
    let at : 1536 + (128 * id + j) ≡ object_slot_at id 0 + j = omega arith in
    let slot : (128 * id + j) / 64 ≡ 2 * id = omega arith in
    let even : (128 * id + j) / 64 % 2 ≡ 0 = omega arith in
    let half : (128 * id + j) / 64 / 2 ≡ id = omega arith in
    let word : (128 * id + j) % 64 ≡ j = omega arith in
    ap (content_word p) (sym at) ∙ (at_slot p (128 * id + j) (omega arith)
    ∙ rw (eq-eqb ((128 * id + j) / 64 % 2) 0 even) (ap (λ i. record_word (p.objects i) ((128 * id + j) % 64)) half
    ∙ ap (record_word (p.objects id)) word))

pub at_page : (p : Parts) (page j : ℕ) → page < 512 → j < 512 → content_word p (frame_at (runtime_frame page) + j) ≡ words_of (p.pages page) j
at_page p page j below inside =
    let at : 17920 + (1024 * page + j) ≡ frame_at (runtime_frame page) + j = omega arith in
    let frame : (1024 * page + j) / 512 ≡ 2 * page = omega arith in
    let even : (1024 * page + j) / 512 % 2 ≡ 0 = omega arith in
    let half : (1024 * page + j) / 512 / 2 ≡ page = omega arith in
    let word : (1024 * page + j) % 512 ≡ j = omega arith in
    ap (content_word p) (sym at) ∙ (at_frame p (1024 * page + j)
    ∙ rw (eq-eqb ((1024 * page + j) / 512 % 2) 0 even, lt-ltb ((1024 * page + j) / 512) 1024 (omega arith))
    (ap (λ i. words_of (p.pages i) ((1024 * page + j) % 512)) half ∙ ap (words_of (p.pages page)) word))

-- Each word that isn't 0 is one of a piece.

pub record IsIn (word n j : ℕ) : Type 0 where
  pub some : n < PIECES
  pub inside : j < count_of (piece_of n)
  pub is : word ≡ place_of (piece_of n) + j

abbrev pub IsInSome : ℕ → Type 0
IsInSome word = (n : ℕ) × (j : ℕ) × IsIn word n j

pub record_piece : (id : ℕ) → id < 128 → piece_of (2 + id) ≡ pieces.Record id
record_piece id h =
    let e : 2 + id - 2 ≡ id = omega arith in
    rw (ne_eqb (2 + id) 0 (λ s. absurd (omega arith)), ne_eqb (2 + id) 1 (λ s. absurd (omega arith)), lt-ltb (2 + id) 130 (omega arith))
    (ap pieces.Record e)

pub page_piece : (k : ℕ) → piece_of (130 + k) ≡ pieces.Page (k + 4)
page_piece k =
    let e : 130 + k - 130 + 4 ≡ k + 4 = omega arith in
    rw (ne_eqb (130 + k) 0 (λ s. absurd (omega arith)), ne_eqb (130 + k) 1 (λ s. absurd (omega arith)), past (130 + k) 130 (omega arith))
    (ap pieces.Page e)

in_record : (word id j : ℕ) → id < 128 → j < 64 → word ≡ object_slot_at id 0 + j → IsInSome word
in_record word id j below inside is =
    let e = record_piece id below in
    (2 + id, j, record { some = omega arith; inside = rw e inside; is = rw e is })

in_page : (word k j : ℕ) → k < 508 → j < 512 → word ≡ frame_at (runtime_frame (k + 4)) + j → IsInSome word
in_page word k j below inside is =
    let e = page_piece k in
    (130 + k, j, record { some = omega arith; inside = rw e inside; is = rw e is })

in_slots : (p : Parts) (k : ℕ) (b : Bool) → k < 16384 → (k / 64 % 2 == 0) ≡ b → (content_word p (1536 + k) ≡ 0) ⊎ IsInSome (1536 + k)
in_slots p k true h e =
    let even : k / 64 % 2 ≡ 0 = grind (arith, nat_tests) in
    inr (in_record (1536 + k) (k / 64 / 2) (k % 64) (omega arith) (omega arith) (omega arith))
in_slots p k false h e = inl (at_slot p k h ∙ rw e refl)

frame_empty : (p : Parts) (k : ℕ) → ((k / 512 % 2 == 0) && nat_lt (k / 512) 1024) ≡ false → content_word p (17920 + k) ≡ 0
frame_empty p k e = at_frame p k ∙ rw e refl

in_frames : (p : Parts) (k : ℕ) (b : Bool) → ((page : ℕ) → page < 4 → p.pages page ≡ None) → ((k / 512 % 2 == 0) && nat_lt (k / 512) 1024) ≡ b
    → (content_word p (17920 + k) ≡ 0) ⊎ IsInSome (17920 + k)
in_frames p k false rings e = inl (frame_empty p k e)
in_frames p k true rings e =
    let even : k / 512 % 2 ≡ 0 = grind (arith, nat_tests) in
    let below : k / 512 < 1024 = grind (arith, nat_tests) in
    elim (cases_lt (k / 512 / 2) 4) [
      | inl ring ↦ inl (
          at_frame p k ∙ rw e (ap (λ (content : Option (ℕ → ℕ)). words_of content (k % 512)) (rings (k / 512 / 2) ring))
          )
      | inr page ↦ inr (in_page (17920 + k) (k / 512 / 2 - 4) (k % 512) (omega arith) (omega arith) (omega arith))
    ]

at_first : (p : Parts) → content_word p 1 ≡ 0
at_first p = at_fixed p 1 (omega arith)

-- a place is in one of the runs of words, told by how far it is from where the run begins
pub in_some : (p : Parts) (word : ℕ) → ((page : ℕ) → page < 4 → p.pages page ≡ None) → word ≢ FORMAT_AT → (content_word p word ≡ 0) ⊎ IsInSome word
in_some p word rings ne =
    elim (cases_lt word 2) [
      | inl low ↦ let one : word ≡ 1 = omega arith in inl (ap (content_word p) one ∙ at_first p)
      | inr a ↦ elim (cases_lt word 26) [
        | inl head ↦ inr (0, word - 2, record { some = omega arith; inside = omega arith; is = omega arith })
        | inr b ↦ elim (cases_lt word 1216) [
          | inl middle ↦ inl (at_middle p word b middle)
          | inr c ↦ elim (cases_lt word 1472) [
            | inl tag ↦ inr (1, word - 1216, record { some = omega arith; inside = omega arith; is = omega arith })
            | inr d ↦ elim (cases_lt word 1536) [
              | inl gap ↦ inl (at_gap p word d gap)
              | inr e ↦ elim (cases_lt word 17920) [
                | inl slot ↦
                    let is : 1536 + (word - 1536) ≡ word = omega arith in
                    subst (λ w. (content_word p w ≡ 0) ⊎ IsInSome w) is (in_slots p (word - 1536) ((word - 1536) / 64 % 2 == 0) (omega arith) refl)
                | inr frame ↦
                    let is : 17920 + (word - 17920) ≡ word = omega arith in
                    subst (λ w. (content_word p w ≡ 0) ⊎ IsInSome w) is
                    (in_frames p (word - 17920) (((word - 17920) / 512 % 2 == 0) && nat_lt ((word - 17920) / 512) 1024) rings refl)
              ]
            ]
          ]
        ]
      ]
    ]
