-- Which words of the memory a store changes.
use Rattle.std.specs.Prelude.{◌≡◌, ◌⊎◌, ℕ, zero, suc, ◌+◌, ◌-◌, ◌<◌, ◌≤◌, ◌==◌, ◌||◌, nat_le, nat_lt, Bool, true, false, if◌then◌else◌, List, Option, Some, None, option_map}
use Rattle.std.specs.List.{list_any}
use Rattle.std.proofs.Common.{refl, ap, sym, ◌∙◌, arith, inl, inr, eq-eqb}
use Rattle.std.proofs.lemmas.Bool.{and_parts, leb-true, ltb-true}
use Rattle.sls_base.specs.declared.limits.TheConstants.{FRAME_WORDS, PAGES}
use Rattle.sls_base.specs.declared.causes.TheConstants.{NO_ACCESS}
use Rattle.sls_base.specs.declared.rights.TheConstants.{WRITE}
use Rattle.sls_base.specs.declared.thread.Thread.{Thread as ThreadRecord}
use Rattle.rv_core.specs.Effect.{size_of}
use Rattle.rv_core.specs.declared.registers.Regs.{Regs}
use Rattle.pmem_model.specs.Words as events
use Rattle.pmem_model.specs.Words.{Word, is_within}
use Rattle.pmem_model.specs.Memory.{Memory, word_at}
use Rattle.pmem_model.specs.PlaceLaws.{inside_at}
use Rattle.pmem_layout.specs.Places.{runtime_frame}
use Rattle.pmem_operations.specs.Operations.{IsBurst}
use Rattle.mem_space.specs.declared.memory.MemPage.{MemPage}
use Rattle.plain_state.specs.declared.effect.ByteStore.{ByteStore}
use Rattle.plain_state.specs.declared.effect.Place.{Place}
use Rattle.plain_state.specs.declared.objects.Region.{Region}
use Rattle.plain_state.specs.Objects.{Object, Page}
use Rattle.plain_state.specs.States.{State}
use Rattle.plain_state.specs.Memory.{is_covered, page_at, place_of, places_of, stores_at, bytes_of_number}
use Rattle.plain_state.specs.Effects.{goes_on, stops}
use Rattle.plain_state.specs.Instructions.{seen_by, store_effect}
use Rattle.plain_state.specs.Ticks.{stores_to}
use Rattle.kobj_table.specs.Slots.{page_of}
use Rattle.page_bytes.specs.Bytes.{StoresWords, word_of_page}
use Rattle.kernel_calls.specs.Instructions.{IsOnPage, StoresPages}

-- nothing was stored
pub none_stored : (test : ℕ → Bool) (m : Memory) → StoresPages test m m
none_stored test m = record {
  words = λ at. inl refl;
  durable = λ at. refl;
  homes = λ k. refl;
  counts = refl;
  ops = inl refl;
  operations = λ core. inl (inl (λ at. refl));
}

-- To which page a store's bytes go.

pub is_first : (objects : ℕ → Option Object) (found : Option Place) (content : ℕ → ℕ → ℕ) (page : MemPage) → Some (page_of content page) ≡ option_map (page_at objects) found →
    (place : Place) × (found ≡ Some place) × ((page_at objects place).number ≡ page.page)
is_first objects None content page e = absurd (cc)
is_first objects (Some place) content page e =
    let same : page_of content page ≡ page_at objects place = cc in
    (place, refl, sym (ap (λ (p : Page). p.number) same))

first_stored : (objects : ℕ → Option Object) (regions : List Region) (right at size value : ℕ) (content : ℕ → ℕ → ℕ) (page : MemPage) → 1 ≤ size →
    Some (page_of content page) ≡ option_map (page_at objects) (place_of regions right at) →
    list_any (λ store. (page_at objects store.place).number == page.page) (stores_at (places_of regions right at size) (bytes_of_number size value)) ≡ true
first_stored objects regions right at zero value content page some e = absurd (omega arith)
first_stored objects regions right at (suc size) value content page some e =
    let is = is_first objects (place_of regions right at) content page e in
    rw is.1 (rw (eq-eqb (page_at objects is.0).number page.page is.2) refl)

or_none : (b : Bool) → b ≡ true → (b || false) ≡ true
or_none true is = refl
or_none false is = absurd (cc)

module _ (s : State) (regs : Regs) (stores : List ByteStore) (thread : ThreadRecord) (page : ℕ) where
  stored_on_if : (covered : Bool) → covered ≡ true → list_any (λ store. (page_at s.objects store.place).number == page) stores ≡ true →
      stores_to s (if covered then record (goes_on regs) { stores = stores } else stops thread NO_ACCESS) page ≡ true
  stored_on_if true is on = or_none _ on
  stored_on_if false is on = absurd (cc)

pub stored_on : (s : State) (thread : ThreadRecord) (op at value : ℕ) (content : ℕ → ℕ → ℕ) (page : MemPage) → 1 ≤ size_of op → is_covered (seen_by s thread) WRITE at (size_of op) ≡ true →
    Some (page_of content page) ≡ option_map (page_at s.objects) (place_of (seen_by s thread) WRITE at) → stores_to s (store_effect s thread op at value) page.page ≡ true
stored_on s thread op at value content page some covered e =
    stored_on_if s _ _ thread page.page (is_covered (seen_by s thread) WRITE at (size_of op)) covered
    (first_stored s.objects (seen_by s thread) WRITE at (size_of op) value content page some e)

-- A burst on a page.

pub page_burst : (page first count : ℕ) (old new : Memory) → page < PAGES → 1 ≤ count → first + count ≤ FRAME_WORDS → StoresWords page first count old new → IsBurst (word_at old) (word_at new)
page_burst page first count old new range some within s = record {
  at = word_of_page page first;
  count = count;
  value = λ k. (word_at new (word_of_page page first + k)).cached;
  most = omega (arith, within);
  inside = (
    omega (arith, range, some, within),
    inside_at (word_of_page page first) (runtime_frame page) first count (omega arith) (omega (arith, some, within)) within,
  );
  words = s.words;
}

module _ (test : ℕ → Bool) (page first count : ℕ) (passes : test page ≡ true) (range : page < PAGES) (some : 1 ≤ count) (within : first + count ≤ FRAME_WORDS) where
  word_stored : (w : Word) (value at : ℕ) (inside : Bool) → is_within (word_of_page page first) count at ≡ inside →
      ((if inside then events.stored value w else w) ≡ w) ⊎ IsOnPage test at
  word_stored w value at false is = inl refl
  word_stored w value at true is =
      let begin = word_of_page page first in
      let parts = and_parts (nat_le begin at) (nat_lt at (begin + count)) is in
      let low : begin ≤ at = leb-true begin at parts.0 in
      let high : at < begin + count = ltb-true at (begin + count) parts.1 in
      inr (record {
        page = page;
        word = first + (at - begin);
        passes = passes;
        range = range;
        within = omega (arith, low, high);
        place = omega (arith, low, high);
      })

  durable_if : (inside : Bool) (w : Word) (value : ℕ) → (if inside then events.stored value w else w).durable ≡ w.durable
  durable_if true w value = refl
  durable_if false w value = refl

  pub burst_stored : (old new : Memory) → StoresWords page first count old new → StoresPages test old new
  burst_stored old new s =
      let one = ap (λ (m : Memory). m.ops) s.counts in
      record {
        words = λ at. rw (s.words at) (word_stored (word_at old at) _ at (is_within (word_of_page page first) count at) refl);
        durable = λ at. ap (λ (w : Word). w.durable) (s.words at) ∙ durable_if (is_within (word_of_page page first) count at) (word_at old at) _;
        homes = s.homes;
        counts = s.counts ∙ sym (ap (λ (n : ℕ). record old { banks = new.banks; ops = n }) one);
        ops = inr (inl one);
        operations = λ core. inl (inr (word_at new, inl (page_burst page first count old new range some within s), λ at. refl));
      }
