-- A burst of words of a page's runtime frame, and what pages have behind it.
use Rattle.std.specs.Prelude.{◌≡◌, ◌≢◌, ℕ, ◌+◌, ◌-◌, ◌*◌, ◌/◌, ◌%◌, ◌<◌, ◌≤◌, true, false, if◌then◌else◌, List, length, slice_index}
use Rattle.std.proofs.Common.{refl, ap, sym, ◌∙◌, arith, inl, inr}
use Rattle.std.proofs.lemmas.Bool.{cases_eq, cases_Bool, eq-eqb, ne_eqb}
use Rattle.std.proofs.lemmas.Bool.Decides.{nat_tests}
use Rattle.sls_base.specs.declared.limits.TheConstants.{PAGE_BYTES, PAGES}
use Rattle.pmem_model.specs.Words.{Word, is_within, bursts, stored}
use Rattle.pmem_model.specs.Memory.{Memory, word_at, SameHomes}
use Rattle.pmem_layout.specs.Places.{frame_at, runtime_frame}
use Rattle.call_readings.specs.Content.{byte_of, is_page_home, Reads}
use Rattle.page_bytes.specs.Bytes.{overwritten, with_bytes, word_of_page}

module _ (content : ℕ → ℕ → ℕ) (old new : Memory) (page first count at : ℕ) (value : ℕ → ℕ) (bytes : List ℕ)
    (inside : page < PAGES) (home : is_page_home old page ≡ true) (room : first + count ≤ 512) (from : 8 * first ≤ at) (to : at + length bytes ≤ 8 * (first + count))
    (words : (i : ℕ) → word_at new i ≡ bursts (word_of_page page first) count value (word_at old) i) (same : SameHomes old new)
    (each : (k j : ℕ) → k < count → j < 8
    → byte_of (value k) j ≡ overwritten (λ other. byte_of (word_at old (word_of_page page first + k)).cached j) at bytes (8 * (first + k) + j))
    (reads : Reads content old) where
  -- a word that isn't stored
  kept : (i : ℕ) → is_within (word_of_page page first) count i ≡ false → (word_at new i).cached ≡ (word_at old i).cached
  kept i miss =
      let put : bursts (word_of_page page first) count value (word_at old) i ≡ word_at old i = rw miss refl in
      ap (λ (w : Word). w.cached) (words i ∙ put)

  -- a byte of a word that is
  byte_stored : (offset : ℕ) → offset < PAGE_BYTES → first ≤ offset / 8 → offset / 8 < first + count
      → overwritten (content page) at bytes offset ≡ byte_of (word_at new (frame_at (runtime_frame page) + offset / 8)).cached (offset % 8)
  byte_stored offset fits low high =
      let i = frame_at (runtime_frame page) + offset / 8 in
      let k = offset / 8 - first in
      let within : is_within (word_of_page page first) count i ≡ true = grind (arith, nat_tests, low, high) in
      let place : word_of_page page first + k ≡ i = omega (arith, low) in
      let off : i - word_of_page page first ≡ k = omega (arith, low) in
      let there : 8 * (first + k) + offset % 8 ≡ offset = omega (arith, low) in
      let put : bursts (word_of_page page first) count value (word_at old) i ≡ stored (value (i - word_of_page page first)) (word_at old i) = rw within refl in
      let is : (word_at new i).cached ≡ value k = ap (λ (w : Word). w.cached) (words i ∙ put) ∙ ap value off in
      let was = reads.home page offset inside fits home in
      ap (λ (b : ℕ). if is_within at (length bytes) offset then slice_index bytes (offset - at) else b) was
      ∙ sym (ap (λ (word : ℕ). byte_of word (offset % 8)) is ∙ each k (offset % 8) (omega (arith, low, high)) (omega arith)
      ∙ ap (λ (w : ℕ). overwritten (λ other. byte_of (word_at old w).cached (offset % 8)) at bytes (8 * (first + k) + offset % 8)) place
      ∙ ap (λ (o : ℕ). overwritten (λ other. byte_of (word_at old i).cached (offset % 8)) at bytes o) there)

  own_page : (offset : ℕ) → offset < PAGE_BYTES
      → overwritten (content page) at bytes offset ≡ byte_of (word_at new (frame_at (runtime_frame page) + offset / 8)).cached (offset % 8)
  own_page offset fits = elim (cases_Bool (is_within first count (offset / 8))) [
    | inl hit ↦ byte_stored offset fits (grind (arith, nat_tests, hit)) (grind (arith, nat_tests, hit))
    | inr miss ↦
        let i = frame_at (runtime_frame page) + offset / 8 in
        let outside : is_within (word_of_page page first) count i ≡ false = grind (arith, nat_tests, miss) in
        let beside : is_within at (length bytes) offset ≡ false = grind (arith, nat_tests, miss, from, to) in
        rw beside (reads.home page offset inside fits home ∙ sym (ap (λ (word : ℕ). byte_of word (offset % 8)) (kept i outside)))
  ]

  still_home : (other : ℕ) → is_page_home new other ≡ true → is_page_home old other ≡ true
  still_home other h = sym (same (1 + runtime_frame other)) ∙ h

  other_page : (other offset : ℕ) → other ≢ page → other < PAGES → offset < PAGE_BYTES → is_page_home new other ≡ true
      → content other offset ≡ byte_of (word_at new (frame_at (runtime_frame other) + offset / 8)).cached (offset % 8)
  other_page other offset ne below fits h =
      let i = frame_at (runtime_frame other) + offset / 8 in
      let outside : is_within (word_of_page page first) count i ≡ false = grind (arith, nat_tests, ne, room, fits) in
      reads.home other offset below fits (still_home other h) ∙ sym (ap (λ (word : ℕ). byte_of word (offset % 8)) (kept i outside))

  pub reads_stored : Reads (with_bytes content page at bytes) new
  reads_stored = record {
    home = λ other offset below fits h. elim (cases_eq other page) [
      | inl here ↦ rw (here, eq-eqb page page refl) (own_page offset fits)
      | inr ne ↦ rw (ne_eqb other page ne) (other_page other offset ne below fits h)
    ];
    end = λ other offset past.
        let beside : is_within at (length bytes) offset ≡ false = grind (arith, nat_tests, past, to, room) in
        elim (cases_eq other page) [
          | inl here ↦ rw (here, eq-eqb page page refl, beside) (reads.end page offset past)
          | inr ne ↦ rw (ne_eqb other page ne) (reads.end other offset past)
        ];
    none = λ other offset past.
        let ne : other ≢ page = λ e. absurd (omega (arith, e, past, inside)) in
        rw (ne_eqb other page ne) (reads.none other offset past);
  }
