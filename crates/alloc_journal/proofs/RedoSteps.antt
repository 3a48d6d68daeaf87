-- The steps that redo the log of the committed version and clear it.
use Rattle.std.proofs.Common.{◌≡◌, ◌≢◌, ℕ, ◌+◌, ◌/◌, ◌<◌, ◌≤◌, ◌∙◌, sym, ap, subst, refl, arith, Bool, ◌==◌, if◌then◌else◌, List, slice_index, inl, inr}
use Rattle.std.proofs.lemmas.Bool.{cases_eq, ne_eqb, eq-eqb}
use Rattle.pmem_model.specs.Words.{Word, flushes, fences}
use Rattle.pmem_model.specs.Events.{Cached, Ready, Clean, Over, ReadyOver, WordIs, WordCalm, calm_word, fence_word, fence_all, flush_in}
use Rattle.pmem_layout.specs.declared.places.TheConstants.{LOG_HEAD_AT, OBJECT_BASE_AT, NUMBERS, BASE_BITS}
use Rattle.pmem_layout.specs.Places.{log_entry_at}
use Rattle.pmem_layout.specs.Numbers.{base_at}
use Rattle.alloc_journal.specs.declared.bits.TheConstants.{BASE_WORDS}
use Rattle.alloc_journal.specs.declared.journal.Stage.{Stage}
use Rattle.alloc_journal.specs.declared.journal.Stage.TheVariants.{Rest, Redoing, BaseInFlight, BaseDurable, HeadCleared, ClearInFlight}
use Rattle.alloc_journal.specs.Sets.{bit_of, has}
use Rattle.alloc_journal.specs.Format.{number_of, comes}
use Rattle.alloc_journal.specs.Work.{Work, IsExact}
use Rattle.alloc_journal.specs.Shows.{NumbersShow, IsUnnamed}
use Rattle.alloc_journal.proofs.Words.{owner_base, IsStored, stored_apart, stored_over, stored_reads, stored_durable, durable_calm, flush_in_calm, fence_in_calm, flush_first}
use Rattle.alloc_journal.proofs.ShowLemmas.{entries_kept, head_kept, base_kept, durable_kept, still_unnamed}

-- the words of the base with one other
abbrev other_word : (ℕ → ℕ) → ℕ → ℕ → ℕ → ℕ
other_word base at word k = if k == at then word else base k

-- what the next entry says
pub next_entry : (w : Work) (f : ℕ → Word) (v : ℕ) (saved : ℕ → Bool) → w.stage ≡ Redoing → w.redone < w.entries
    → NumbersShow w f v saved
    → (number_of ((f (log_entry_at w.redone)).cached) < NUMBERS)
    × (saved (number_of ((f (log_entry_at w.redone)).cached)) ≡ comes ((f (log_entry_at w.redone)).cached))
next_entry w f v saved e some all =
    let h = subst (λ (s : Stage). NumbersShow (record w { stage = s }) f v saved) e all in
    let is = (h.entry_words w.redone some).0 in (
      subst (λ (x : ℕ). number_of x < NUMBERS) (sym is) (h.are_entries.in_range w.redone some),
      subst (λ (x : ℕ). saved (number_of x) ≡ comes x) (sym is) (h.tell w.redone some),
    )

-- what is durable of one word of the base
durable_here : (w : Work) (f g : ℕ → Word) (v : ℕ) (saved : ℕ → Bool) (n : ℕ)
    (h : NumbersShow (record w { stage = Redoing }) f v saved)
    → n < NUMBERS → IsUnnamed h.entry 0 w.entries n → WordCalm (f (base_at n)) (g (base_at n))
    → bit_of ((g (base_at n)).durable) n ≡ saved n
durable_here w f g v saved n h inside none calm =
    durable_calm (f (base_at n)) (g (base_at n)) (h.base (n / BASE_BITS)) n (saved n) calm
    (h.base_words (n / BASE_BITS) (omega (arith, inside)))
    (h.base_has n inside (still_unnamed h.entry w.redone w.entries n none)) (h.durable_has n inside none)

pub entry_redone : (w : Work) (f g : ℕ → Word) (v : ℕ) (saved : ℕ → Bool) (n word : ℕ) (committed : List ℕ)
    → w.stage ≡ Redoing → w.redone < w.entries → n ≡ number_of ((f (log_entry_at w.redone)).cached)
    → has committed n ≡ comes ((f (log_entry_at w.redone)).cached)
    → ((m : ℕ) → m < NUMBERS → m ≢ n → has committed m ≡ has w.committed m)
    → word ≡ slice_index committed (n / BASE_BITS) → IsStored f g (OBJECT_BASE_AT + n / BASE_BITS) word
    → NumbersShow w f v saved → NumbersShow (record w { committed = committed; redone = w.redone + 1 }) g v saved
entry_redone w f g v saved n word committed e some of says others is stored all =
    let h = subst (λ (s : Stage). NumbersShow (record w { stage = s }) f v saved) e all in
    let next = next_entry w f v saved e some all in
    let entry_is : (f (log_entry_at w.redone)).cached ≡ h.entry w.redone = (h.entry_words w.redone some).0 in
    let names : number_of (h.entry w.redone) ≡ n = ap number_of (sym entry_is) ∙ sym of in
    let inside_n : n < NUMBERS = let r = next.0 in omega (arith, r, of) in
    let saved_n : has committed n ≡ saved n = says ∙ sym next.1 ∙ ap saved (sym of) in
    let base = other_word h.base (n / BASE_BITS) word in
    let still : (m : ℕ) → m ≢ n → IsUnnamed h.entry
    (w.redone + 1) w.entries m → IsUnnamed h.entry w.redone w.entries m =
    λ m ne none i low high q. elim (cases_eq i w.redone) [
      | inl now ↦ ne (sym q ∙ ap (λ (k : ℕ). number_of (h.entry k)) now ∙ names)
      | inr later ↦ none i (omega (arith, low, later)) high q
    ] in
    let has_saved : (m : ℕ) → m < NUMBERS → IsUnnamed h.entry (w.redone + 1) w.entries m → has committed m ≡ saved m =
    λ m inside none. elim (cases_eq m n) [
      | inl same ↦ ap (has committed) same ∙ saved_n ∙ ap saved (sym same)
      | inr ne ↦ others m inside ne ∙ h.committed_has m inside (still m ne none)
    ] in
    let show : NumbersShow
    (record w { committed = committed; stage = Redoing; redone = w.redone + 1 }) g v saved = record {
      version_is = h.version_is;
      entry = h.entry;
      head = h.head;
      base = base;
      entry_words = λ i lt. calm_word 0 Clean (f (log_entry_at i)) (g (log_entry_at i)) (h.entry i)
          (stored_apart f g (OBJECT_BASE_AT + n / BASE_BITS) word (log_entry_at i) stored
          (λ q. absurd (omega (arith, q, inside_n)))) (h.entry_words i lt);
      head_word = calm_word 0 Clean (f LOG_HEAD_AT) (g LOG_HEAD_AT) h.head
          (stored_apart f g (OBJECT_BASE_AT + n / BASE_BITS) word LOG_HEAD_AT stored
          (λ q. absurd (omega (arith, q)))) h.head_word;
      base_words = λ k lt. elim (cases_eq k (n / BASE_BITS)) [
        | inl here ↦ subst (λ (j : ℕ). WordIs 0 Cached (g (OBJECT_BASE_AT + j)) (base j)) (sym here)
            (rw (eq-eqb (n / BASE_BITS) (n / BASE_BITS) refl)
            (stored_reads f g (OBJECT_BASE_AT + n / BASE_BITS) word stored))
        | inr off ↦ rw (ne_eqb k (n / BASE_BITS) off)
            (calm_word 0 Cached (f (OBJECT_BASE_AT + k)) (g (OBJECT_BASE_AT + k)) (h.base k)
            (stored_apart f g (OBJECT_BASE_AT + n / BASE_BITS) word (OBJECT_BASE_AT + k) stored
            (λ q. off (omega (arith, q)))) (h.base_words k lt))
      ];
      are_entries = h.are_entries;
      tell = h.tell;
      log_is = tt;
      head_is = h.head_is;
      base_has = λ m inside none. elim (cases_eq (m / BASE_BITS) (n / BASE_BITS)) [
        | inl here ↦ rw (eq-eqb (m / BASE_BITS) (n / BASE_BITS) here)
            (ap (λ (x : ℕ). bit_of x m) (is ∙ ap (slice_index committed) (sym here)) ∙ has_saved m inside none)
        | inr off ↦ rw (ne_eqb (m / BASE_BITS) (n / BASE_BITS) off)
            (h.base_has m inside (still m (λ q. off (ap (λ (x : ℕ). x / BASE_BITS) q)) none))
      ];
      committed_has = has_saved;
      durable_has = λ m inside none. elim (cases_eq (m / BASE_BITS) (n / BASE_BITS)) [
        | inl here ↦ ap (λ (x : ℕ). bit_of x m)
            (ap (λ (k : ℕ). (g (OBJECT_BASE_AT + k)).durable) here
            ∙ stored_durable f g (OBJECT_BASE_AT + n / BASE_BITS) word stored
            ∙ ap (λ (k : ℕ). (f (OBJECT_BASE_AT + k)).durable) (sym here))
            ∙ h.durable_has m inside none
        | inr off ↦ durable_here w f g v saved m h inside none
            (stored_apart f g (OBJECT_BASE_AT + n / BASE_BITS) word (base_at m) stored (λ q. off (omega (arith, q))))
      ];
    } in
    subst (λ (s : Stage). NumbersShow
    (record w { committed = committed; stage = s; redone = w.redone + 1 }) g v saved) (sym e) show

pub redone_exact : (w : Work) (f : ℕ → Word) (v : ℕ) (saved : ℕ → Bool) (n : ℕ) (committed : List ℕ)
    → w.stage ≡ Redoing → w.redone < w.entries → n ≡ number_of ((f (log_entry_at w.redone)).cached)
    → has committed n ≡ comes ((f (log_entry_at w.redone)).cached)
    → ((m : ℕ) → m < NUMBERS → m ≢ n → has committed m ≡ has w.committed m)
    → NumbersShow w f v saved → IsExact w saved → (m : ℕ) → m < NUMBERS → has committed m ≡ saved m
redone_exact w f v saved n committed e some of says others all exact m inside =
    let next = next_entry w f v saved e some all in
    elim (cases_eq m n) [
      | inl same ↦ ap (has committed) same ∙ says ∙ sym next.1 ∙ ap saved (sym of) ∙ ap saved (sym same)
      | inr ne ↦ others m inside ne ∙ exact m inside
    ]

pub base_flushed : (w : Work) (f g : ℕ → Word) (v : ℕ) (saved : ℕ → Bool) (size : ℕ) → w.stage ≡ Redoing
    → w.entries ≤ w.redone → BASE_WORDS ≤ size → ((i : ℕ) → g i ≡ flushes 0 OBJECT_BASE_AT size f i)
    → NumbersShow w f v saved → NumbersShow (record w { stage = BaseInFlight }) g v saved
base_flushed w f g v saved size e done fits flushed all =
    let h = subst (λ (s : Stage). NumbersShow (record w { stage = s }) f v saved) e all in
    let old : Work = record w { stage = Redoing } in
    let calm = flush_in_calm f g 0 OBJECT_BASE_AT size flushed in
    record {
      version_is = h.version_is;
      entry = h.entry;
      head = h.head;
      base = h.base;
      entry_words = entries_kept old f g v saved h calm;
      head_word = head_kept old f g v saved h calm;
      base_words = λ j lt. flush_in 0 Cached f g OBJECT_BASE_AT size j (h.base j) flushed (omega (arith, lt, fits))
          (h.base_words j lt);
      are_entries = h.are_entries;
      tell = h.tell;
      log_is = tt;
      head_is = h.head_is;
      base_has = λ n inside none. h.base_has n inside (λ i low high. absurd (omega (arith, low, high, done)));
      committed_has = λ n inside none. h.committed_has n inside (λ i low high. absurd (omega (arith, low, high, done)));
      durable_has = durable_kept old f g v saved h (λ j lt. calm.at (OBJECT_BASE_AT + j) (owner_base j lt));
    }

pub base_fenced : (w : Work) (f g : ℕ → Word) (v : ℕ) (saved : ℕ → Bool) → w.stage ≡ BaseInFlight
    → ((i : ℕ) → g i ≡ fences 0 f i) → NumbersShow w f v saved → NumbersShow
    (record w { stage = BaseDurable }) g v saved
base_fenced w f g v saved e fenced all =
    let h = subst (λ (s : Stage). NumbersShow (record w { stage = s }) f v saved) e all in
    let old : Work = record w { stage = BaseInFlight } in
    let calm = fence_in_calm f g 0 fenced in
    record {
      version_is = h.version_is;
      entry = h.entry;
      head = h.head;
      base = h.base;
      entry_words = entries_kept old f g v saved h calm;
      head_word = head_kept old f g v saved h calm;
      base_words = λ j lt. fence_word 0 Ready (f (OBJECT_BASE_AT + j)) (g (OBJECT_BASE_AT + j)) (h.base j)
          (fence_all f g 0 fenced (OBJECT_BASE_AT + j)) (h.base_words j lt);
      are_entries = h.are_entries;
      tell = h.tell;
      log_is = tt;
      head_is = h.head_is;
      base_has = h.base_has;
      committed_has = h.committed_has;
      durable_has = durable_kept old f g v saved h (λ j lt. calm.at (OBJECT_BASE_AT + j) (owner_base j lt));
    }

pub head_cleared : (w : Work) (f g : ℕ → Word) (v : ℕ) (saved : ℕ → Bool) → w.stage ≡ BaseDurable
    → IsStored f g LOG_HEAD_AT 0 → NumbersShow w f v saved → NumbersShow (record w { stage = HeadCleared }) g v saved
head_cleared w f g v saved e stored all =
    let h = subst (λ (s : Stage). NumbersShow (record w { stage = s }) f v saved) e all in
    let off : (k : ℕ) → k < BASE_WORDS → WordCalm (f (OBJECT_BASE_AT + k)) (g (OBJECT_BASE_AT + k)) =
    λ k lt. stored_apart f g LOG_HEAD_AT 0 (OBJECT_BASE_AT + k) stored (λ q. absurd (omega (arith, q))) in
    record {
      version_is = h.version_is;
      entry = h.entry;
      head = h.head;
      base = h.base;
      entry_words = λ i lt. calm_word 0 Clean (f (log_entry_at i)) (g (log_entry_at i)) (h.entry i)
          (stored_apart f g LOG_HEAD_AT 0 (log_entry_at i) stored (λ q. absurd (omega (arith, q))))
          (h.entry_words i lt);
      head_word = stored_over f g LOG_HEAD_AT 0 h.head stored (h.head_word.1);
      base_words = λ k lt. calm_word 0 Clean (f (OBJECT_BASE_AT + k)) (g (OBJECT_BASE_AT + k)) (h.base k) (off k lt)
          (h.base_words k lt);
      are_entries = h.are_entries;
      tell = h.tell;
      log_is = tt;
      head_is = h.head_is;
      base_has = h.base_has;
      committed_has = h.committed_has;
      durable_has = durable_kept (record w { stage = BaseDurable }) f g v saved h off;
    }

pub clear_flushed : (w : Work) (f g : ℕ → Word) (v : ℕ) (saved : ℕ → Bool) (size : ℕ) → w.stage ≡ HeadCleared → 0 < size
    → ((i : ℕ) → g i ≡ flushes 0 LOG_HEAD_AT size f i) → NumbersShow w f v saved
    → NumbersShow (record w { stage = ClearInFlight }) g v saved
clear_flushed w f g v saved size e some flushed all =
    let h = subst (λ (s : Stage). NumbersShow (record w { stage = s }) f v saved) e all in
    let old : Work = record w { stage = HeadCleared } in
    let calm = flush_in_calm f g 0 LOG_HEAD_AT size flushed in
    record {
      version_is = h.version_is;
      entry = h.entry;
      head = h.head;
      base = h.base;
      entry_words = entries_kept old f g v saved h calm;
      head_word = flush_first 0 (Over h.head) f g LOG_HEAD_AT size 0 some flushed h.head_word;
      base_words = base_kept old f g v saved h calm;
      are_entries = h.are_entries;
      tell = h.tell;
      log_is = tt;
      head_is = h.head_is;
      base_has = h.base_has;
      committed_has = h.committed_has;
      durable_has = durable_kept old f g v saved h (λ j lt. calm.at (OBJECT_BASE_AT + j) (owner_base j lt));
    }

pub redo_done : (w : Work) (f g : ℕ → Word) (v : ℕ) (saved : ℕ → Bool) → w.stage ≡ ClearInFlight
    → ((i : ℕ) → g i ≡ fences 0 f i) → NumbersShow w f v saved → NumbersShow
    (record w { stage = Rest; entries = 0 }) g v saved
redo_done w f g v saved e fenced all =
    let h = subst (λ (s : Stage). NumbersShow (record w { stage = s }) f v saved) e all in
    let old : Work = record w { stage = ClearInFlight } in
    let calm = fence_in_calm f g 0 fenced in
    record {
      version_is = h.version_is;
      entry = h.entry;
      head = h.head;
      base = h.base;
      entry_words = λ i lt. absurd (omega (arith, lt));
      head_word = fence_word 0 (ReadyOver h.head) (f LOG_HEAD_AT) (g LOG_HEAD_AT) 0
          (fence_all f g 0 fenced LOG_HEAD_AT) h.head_word;
      base_words = base_kept old f g v saved h calm;
      are_entries = record {
        most = omega arith;
        in_range = λ i lt. absurd
            (omega (arith, lt));
        rising = λ i j less lt. absurd (omega (arith, lt));
      };
      tell = λ i lt. absurd (omega (arith, lt));
      log_is = refl;
      head_is = tt;
      base_has = λ n inside none. h.base_has n inside (λ i low high. absurd (omega (arith, low, high)));
      committed_has = λ n inside none. h.committed_has n inside (λ i low high. absurd (omega (arith, low, high)));
      durable_has = λ n inside none.
          ap (λ (x : ℕ). bit_of x n) ((base_kept old f g v saved h calm (n / BASE_BITS) (omega (arith, inside))).1)
          ∙ h.base_has n inside (λ i low high. absurd (omega (arith, low, high)));
    }
