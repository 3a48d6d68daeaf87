-- The words that a machine begins with.
use Rattle.std.proofs.Common.{◌≡◌, ◌≢◌, ℕ, ◌+◌, ◌*◌, ◌/◌, ◌%◌, ◌^◌, ◌<◌, ◌≤◌, ◌==◌, inl, inr, false, List, [], length, replicate, slice_index, nat_lt, if◌then◌else◌, arith, refl, sym, ap, subst, ◌∙◌}
use Rattle.std.specs.Int.{w64, to_le_bytes, from_le_bytes}
use Rattle.std.proofs.lemmas.Grind.{common_steps}
use Rattle.std.proofs.lemmas.Bool.{cases_lt, cond_below, cond_above}
use Rattle.std.proofs.lemmas.Bool.Decides.{nat_tests}
use Rattle.std.proofs.lemmas.List.{get_or_past, ext_get_or, get_or-replicate, length-replicate}
use Rattle.std.proofs.lemmas.Nat.{from_le_bytes-to_le_bytes_8}
use Rattle.sls_base.specs.declared.limits.TheConstants.{PAGE_BYTES, PAGE_WORDS, FRAME_WORDS}
use Rattle.pmem_model.specs.Words.{Word}
use Rattle.pmem_model.specs.Memory.{word_at}
use Rattle.pmem_model.specs.Events.{Any, Cached, Clean, WordIs}
use Rattle.sls_kernel.specs.Words.{byte_of, IsRing, IsThread, Tells, running_place, area_place, area_of, part_words, record_word}
use Rattle.sls_kernel.specs.Plain.{State, World, initial, first, accepted_count}
use Rattle.sls_kernel.specs.Program.{page_bytes}
use Rattle.sls_kernel.specs.Shows.{Shows, ShowsOff, Stands, AreState, area_words, durable_words, first_words, MayBeFormatted, IsUnformatted, IsCounted, WordsShow, IsRunning, IsFirst, IsRecovering, AtStage, IsZero}
use Rattle.sls_kernel.specs.Stages.{running_kind}
use Rattle.sls_kernel.specs.declared.stage.FormatStep.TheVariants.{Fill}
use Rattle.sls_kernel.specs.declared.stage.Stage.{Stage}
use Rattle.sls_kernel.specs.declared.stage.Stage.TheVariants.{Format, Recover}
use Rattle.sls_kernel.specs.declared.machine.Machine.{Machine}
use Rattle.sls_kernel.specs.declared.record.TheConstants.{RECORD_WORDS}
use Rattle.sls_kernel.proofs.Facts.{IsRestZero}

-- Bytes.

zero_byte : (k : ℕ) → byte_of 0 k ≡ 0
zero_byte k = grind (arith, common_steps)

-- words with the bytes of a content are the page of the content
pub page_of : (words content : List ℕ) → length words ≡ PAGE_WORDS → ((j k : ℕ) → j < PAGE_WORDS → k < 8 → byte_of (slice_index words j) k ≡ slice_index content (8 * j + k)) → (a : ℕ) → byte_of (slice_index words (a / 8)) (a % 8) ≡ (if nat_lt a PAGE_BYTES then slice_index content a else 0)
page_of words content size same a =
    elim (cases_lt a PAGE_BYTES) [
      | inl low ↦
          let place : 8 * (a / 8) + a % 8 ≡ a = omega arith in
          same (a / 8) (a % 8) (omega arith) (omega arith) ∙ ap (slice_index content) place ∙ cond_below a PAGE_BYTES _ _ low
      | inr high ↦ cond_above a PAGE_BYTES _ _ _ high (ap (λ (x : ℕ). byte_of x (a % 8)) (get_or_past words (a / 8) 0 (omega arith)) ∙ zero_byte (a % 8))
    ]

-- words are the same if they are in range and their bytes are the same
same_word : (x y : ℕ) → x < 2 ^ 64 → y < 2 ^ 64 → ((k : ℕ) → k < 8 → byte_of x k ≡ byte_of y k) → x ≡ y
same_word x y small_x small_y same =
    sym (from_le_bytes-to_le_bytes_8 x small_x) ∙ ap (from_le_bytes w64) (ext_get_or 0 (to_le_bytes w64 x) (to_le_bytes w64 y) refl same) ∙ from_le_bytes-to_le_bytes_8 y small_y

-- lists of such words have the same words if their pages have the same bytes
same_words : (xs ys : List ℕ) → ((i : ℕ) → slice_index xs i < 2 ^ 64) → ((i : ℕ) → slice_index ys i < 2 ^ 64) → page_bytes xs ≡ page_bytes ys → (i : ℕ) → slice_index xs i ≡ slice_index ys i
same_words xs ys small_xs small_ys same i =
    same_word (slice_index xs i) (slice_index ys i) (small_xs i) (small_ys i) (λ k h.
    let word : (8 * i + k) / 8 ≡ i = omega arith in
    let byte : (8 * i + k) % 8 ≡ k = omega arith in
    rw (word, byte) at (ap (λ (f : ℕ → ℕ). f (8 * i + k)) same))

-- Formatting.

not_part : (area part o i : ℕ) → area < 2 → part < 6 → o < part_words part → RECORD_WORDS ≤ i → i < FRAME_WORDS → area_place area 5 i ≡ area_place 0 part o → ⊥
not_part area part o i a p inside low high at = grind (arith, nat_tests)

-- a word before the program's page is zero, but the format word
zero_before : (program : List ℕ) (i x : ℕ) → 0 < i → i < running_place 4 0 → MayBeFormatted program i x → x ≡ 0
zero_before program i x some before may =
    elim may [
      | inl zero ↦ zero
      | inr (inl format) ↦ absurd (omega arith)
      | inr (inr (inl page)) ↦ absurd (omega arith)
      | inr (inr (inr part)) ↦ absurd (omega arith)
    ]

-- a word behind a record is zero
zero_rest : (program : List ℕ) (area i x : ℕ) → area < 2 → RECORD_WORDS ≤ i → i < FRAME_WORDS → MayBeFormatted program (area_place area 5 i) x → x ≡ 0
zero_rest program area i x a low high may =
    elim may [
      | inl zero ↦ zero
      | inr (inl format) ↦ absurd (omega arith)
      | inr (inr (inl page)) ↦ absurd (omega arith)
      | inr (inr (inr part)) ↦ absurd (not_part area part.0 part.1 i a part.2 part.3 low high part.4)
    ]

same_first : (xs ys : List ℕ) → ((i : ℕ) → slice_index xs i ≡ slice_index ys i) → (part i : ℕ) → first_words xs part i ≡ first_words ys part i
same_first xs ys same part i =
    ap (λ (x : ℕ). if part == 4 then x else (if part == 5 then record_word (initial (λ a. 0)).thread (λ channel. 0) i else 0)) (same i)

-- the words that one list of words allows are those of another with the same words
same_formatted : (xs ys : List ℕ) → ((i : ℕ) → slice_index xs i ≡ slice_index ys i) → (i x : ℕ) → MayBeFormatted xs i x → MayBeFormatted ys i x
same_formatted xs ys same i x may =
    elim may [
      | inl zero ↦ inl zero
      | inr (inl format) ↦ inr (inl format)
      | inr (inr (inl page)) ↦ inr (inr (inl (page.0, page.1, page.2, page.3 ∙ same page.0)))
      | inr (inr (inr word)) ↦ inr (inr (inr (word.0, word.1, word.2, word.3, word.4, word.5 ∙ same_first xs ys same word.0 word.1)))
    ]

-- a ring's page is zero
no_page : (page : ℕ) → page < 4 → (page == 4) ≡ false
no_page page h = grind (arith, nat_tests)

no_record : (page : ℕ) → page < 4 → (page == 5) ≡ false
no_record page h = grind (arith, nat_tests)

ring_kind : (program : List ℕ) (f : ℕ → Word) → ((i : ℕ) → 0 < i → i < running_place 4 0 → (f i).cached ≡ 0) → (page i : ℕ) → page < 5 → i < FRAME_WORDS → WordIs 0 (running_kind (Format Fill) page) (f (running_place page i)) (first_words program page i)
ring_kind program f zero page i h k =
    elim (cases_lt page 4) [
      | inl low ↦ rw (sym (cond_below page 4 Cached Any low), no_page page low, no_record page low) (zero (running_place page i) (omega arith) (omega arith))
      | inr high ↦ rw (sym (cond_above page 4 Cached Any Any high refl)) tt
    ]

-- what formatting begins with is known of clean words among which is no format word
fill_words : (program : List ℕ) (f : ℕ → Word) → ((i : ℕ) → (f i).cached ≡ (f i).durable) → (f 0).durable ≡ 0 → ((i : ℕ) → MayBeFormatted program i (f i).durable) → WordsShow (Format Fill) f 0 (first_words program) (first_words program)
fill_words program f clean unformatted may =
    let zero : (i : ℕ) → 0 < i → i < running_place 4 0 → (f i).durable ≡ 0 = λ i some before. zero_before program i (f i).durable some before (may i) in
    let is_clean : (i : ℕ) → (f i).durable ≡ 0 → WordIs 0 Clean (f i) 0 = λ i is. (clean i ∙ is, is) in
    record {
      format = is_clean 0 unformatted;
      version = is_clean 1 (zero 1 (omega arith) (omega arith));
      version_durable = zero 1 (omega arith) (omega arith);
      table = λ i low high. is_clean i (zero i (omega arith) (omega arith));
      saved_area = λ part i h k. tt;
      other_area = λ part i h k. tt;
      running = ring_kind program f (λ i some before. clean i ∙ zero i some before);
      record_rest = λ area i a low high. is_clean (area_place area 5 i) (zero_rest program area i _ a low high (may (area_place area 5 i)));
    }

-- The first state.

-- a list of zeros reads zero everywhere
zeros : (n i : ℕ) → slice_index (replicate n 0) i ≡ 0
zeros n i = elim (cases_lt i n) [ inl low ↦ get_or-replicate n i 0 0 low | inr high ↦ get_or_past (replicate n 0) i 0 (rw length-replicate high) ]

first_thread : (byte : ℕ → ℕ) → IsThread (initial byte).thread
first_thread byte = record {
  registers = refl;
  zero_register = refl;
  in_range = λ i. rw (zeros 32 i) (omega arith);
  pc = omega arith;
  aligned = refl;
  status = tt;
}

no_entries : (words : ℕ → ℕ) → IsRing words 0 []
no_entries words = record { entries = λ number low high. absurd (omega arith); room = omega arith; number = omega arith }

-- the first words of a program are its first state
first_state : (program : List ℕ) → AreState (first_words program) (λ channel. 0) (initial (page_bytes program))
first_state program = record {
  holds = record { page = λ a h. refl; rings = λ channel h. no_entries _; thread = first_thread (page_bytes program) };
  thread_record = λ i h. refl;
}

nothing_counted : (accepted : List ℕ) (byte : ℕ → ℕ) (commits cuts : ℕ) → Tells accepted (λ channel. 0) → IsCounted accepted (first byte commits cuts)
nothing_counted accepted byte commits cuts none = record {
  count = none;
  released = λ channel. ([], refl);
  saved = λ channel. ([], refl);
  version = omega arith;
}

-- what a machine has that begins with formatting
pub record Begins (m : Machine) : Type 0 where
  pub stage : m.stage ≡ Format Fill
  pub thread : m.thread ≡ (initial (page_bytes m.program.items)).thread
  pub put : m.put ≡ replicate 4 0
  pub in_range : (i : ℕ) → slice_index m.program.items i < 2 ^ 64

first_running : (m : Machine) → Begins m → IsRunning m.thread m.put (initial (page_bytes m.program.items))
first_running m begins = record { thread_is = begins.thread; put_is = λ channel h. rw begins.put (zeros 4 channel) }

-- such a machine shows the first world of its program
shows_first : (m : Machine) (commits cuts : ℕ) → Begins m → Tells m.accepted (λ channel. 0) → m.nvm.commits ≡ commits → m.nvm.cuts ≡ cuts → ((i : ℕ) → (word_at m.nvm i).cached ≡ (word_at m.nvm i).durable) → (word_at m.nvm 0).durable ≡ 0 → ((i : ℕ) → MayBeFormatted m.program.items i (word_at m.nvm i).durable) → Shows m (first (page_bytes m.program.items) commits cuts)
shows_first m commits cuts begins none same_commits same_cuts clean unformatted may =
    let program = m.program.items in
    let w = first (page_bytes program) commits cuts in
    let words = first_words program in
    let is_first : IsFirst m w words words = record {
      now_is = refl;
      saved_is = refl;
      world = refl;
      in_range = begins.in_range;
      formatting = record { cached = λ i. rw (clean i) (may i); durable = may };
      running = first_running m begins;
    } in
    record {
      now_words = words;
      saved_words = words;
      now_is = first_state program;
      saved_is = first_state program;
      words = rw begins.stage (fill_words program (word_at m.nvm) clean unformatted may);
      counted = nothing_counted m.accepted (page_bytes program) commits cuts none;
      counts = record { commits = same_commits; cuts = same_cuts };
      stage = subst (λ (s : Stage). AtStage s m w words words) (sym begins.stage) is_first;
    }

-- it does on a memory of zero words
pub boots : (m : Machine) (byte : ℕ → ℕ) → Begins m → m.accepted ≡ replicate 4 0 → page_bytes m.program.items ≡ byte → ((i : ℕ) → IsZero (word_at m.nvm i)) → Shows m (first byte m.nvm.commits m.nvm.cuts)
boots m byte begins none same zero =
    subst (λ (f : ℕ → ℕ). Shows m (first f m.nvm.commits m.nvm.cuts)) same
    (shows_first m _ _ begins (λ channel h. rw none (zeros 4 channel)) refl refl (λ i. (zero i).0 ∙ sym (zero i).1) (zero 0).1 (λ i. inl (zero i).1))

-- and on a memory that was cut within formatting
formats_again : (m : Machine) (w : World) → Begins m → ShowsOff (record { nvm = m.nvm; accepted = m.accepted }) w → IsUnformatted (durable_words m.nvm) w → w ≡ first (page_bytes m.program.items) w.commits w.cuts → Shows m w
formats_again m w begins off was is =
    let bytes : page_bytes was.program ≡ page_bytes m.program.items = ap (λ (v : World). v.now.byte) (sym was.world ∙ is) in
    let words = same_words was.program m.program.items was.in_range begins.in_range bytes in
    let counts : Tells m.accepted (λ channel. 0) = λ channel h. off.counted.count channel h ∙ ap (λ (v : World). accepted_count v channel) is in
    subst (λ (v : World). Shows m v) (sym is)
    (shows_first m w.commits w.cuts begins counts off.counts.commits off.counts.cuts off.clean was.unformatted (λ i. same_formatted was.program m.program.items words i _ (was.words i)))

pub lights_first : (m : Machine) (w : World) (byte : ℕ → ℕ) → Begins m → ShowsOff (record { nvm = m.nvm; accepted = m.accepted }) w → durable_words m.nvm 0 ≡ 0 → page_bytes m.program.items ≡ byte → w ≡ first byte w.commits w.cuts → Shows m w
lights_first m w byte begins off zero same is =
    elim off.words [
      | inl stands ↦ absurd (omega (arith, stands.formatted))
      | inr was ↦ formats_again m w begins off was (is ∙ ap (λ (f : ℕ → ℕ). first f w.commits w.cuts) (sym same))
    ]

-- Recovery.

recover_kind : (page : ℕ) → running_kind (Recover 0) page ≡ Any
recover_kind page = sym (cond_above page 0 Cached Any Any (omega arith) refl)

saved_words_of : (durable accepted : ℕ → ℕ) (s : State) (v : ℕ) → durable 1 ≡ v → Stands durable accepted s → AreState (area_words durable (area_of v)) accepted s
saved_words_of durable accepted s v e stands = subst (λ (n : ℕ). AreState (area_words durable (area_of n)) accepted s) e stands.area

-- what recovery begins with is known of clean words that stand for a state
recover_words : (f : ℕ → Word) (accepted : ℕ → ℕ) (s : State) (v : ℕ) (now : ℕ → ℕ → ℕ) → ((i : ℕ) → (f i).cached ≡ (f i).durable) → (f 1).durable ≡ v → IsRestZero f → Stands (λ i. (f i).durable) accepted s → WordsShow (Recover 0) f v now (area_words (λ i. (f i).durable) (area_of v))
recover_words f accepted s v now clean version rest stands = record {
  format = (clean 0 ∙ stands.formatted, stands.formatted);
  version = (clean 1 ∙ version, version);
  version_durable = version;
  table = λ i low high. (clean i ∙ stands.table i low high, stands.table i low high);
  saved_area = λ part i h k. (clean _, refl);
  other_area = λ part i h k. tt;
  running = λ page i h k. rw (recover_kind page) tt;
  record_rest = rest;
}

recovers : (m : Machine) (w : World) → m.stage ≡ Recover 0 → ShowsOff (record { nvm = m.nvm; accepted = m.accepted }) w → Stands (durable_words m.nvm) (accepted_count w) w.saved → Shows m w
recovers m w is off stands =
    let durable = durable_words m.nvm in
    let words = area_words durable (area_of w.version) in
    let saved : AreState words (accepted_count w) w.saved = saved_words_of durable (accepted_count w) w.saved w.version off.version stands in
    let rest : IsRestZero (word_at m.nvm) = λ area i a low high. (off.clean (area_place area 5 i) ∙ off.record_rest area i a low high, off.record_rest area i a low high) in
    let is_recovering : IsRecovering w words words = record { words = refl; world = off.now } in
    record {
      now_words = words;
      saved_words = words;
      now_is = subst (λ (s : State). AreState words (accepted_count w) s) (sym off.now) saved;
      saved_is = saved;
      words = rw is (recover_words (word_at m.nvm) (accepted_count w) w.saved w.version words off.clean off.version rest stands);
      counted = off.counted;
      counts = off.counts;
      stage = subst (λ (s : Stage). AtStage s m w words words) (sym is) is_recovering;
    }

pub lights_saved : (m : Machine) (w : World) → m.stage ≡ Recover 0 → ShowsOff (record { nvm = m.nvm; accepted = m.accepted }) w → durable_words m.nvm 0 ≢ 0 → Shows m w
lights_saved m w is off some =
    elim off.words [ inl stands ↦ recovers m w is off stands | inr was ↦ absurd (some was.unformatted) ]
