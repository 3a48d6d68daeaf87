-- The steps that write the log of the next version.
use Rattle.std.proofs.Common.{◌≡◌, ◌≢◌, ℕ, ◌+◌, ◌*◌, ◌^◌, ◌<◌, ◌≤◌, ◌∙◌, sym, ap, subst, refl, arith, Bool, true, false, ◌==◌, if◌then◌else◌, List, below_more, inl, inr}
use Rattle.std.proofs.lemmas.Bool.{cases_eq, cases_lt, ne_eqb, eq-eqb}
use Rattle.pmem_model.specs.Words.{Word, flushes, fences}
use Rattle.pmem_model.specs.Events.{Cached, Ready, Clean, Over, ReadyOver, WordIs, WordCalm, calm_word, fence_word, fence_all, flush_in}
use Rattle.pmem_layout.specs.declared.places.TheConstants.{LOG_HEAD_AT, LOG_ENTRIES_AT, OBJECT_BASE_AT, NUMBERS}
use Rattle.pmem_layout.specs.Places.{log_entry_at}
use Rattle.alloc_journal.specs.declared.bits.TheConstants.{BASE_WORDS}
use Rattle.alloc_journal.specs.declared.journal.Stage.{Stage}
use Rattle.alloc_journal.specs.declared.journal.Stage.TheVariants.{StoringEntries, EntriesInFlight, EntriesDurable, HeadStored, HeadInFlight, Logged}
use Rattle.alloc_journal.specs.Sets.{has}
use Rattle.alloc_journal.specs.Format.{number_of, comes}
use Rattle.alloc_journal.specs.Work.{Work}
use Rattle.alloc_journal.specs.Shows.{NumbersShow}
use Rattle.alloc_journal.proofs.Words.{owner_base, IsStored, stored_apart, stored_over, stored_reads, flush_in_calm, fence_in_calm, flush_first}
use Rattle.alloc_journal.proofs.ShowLemmas.{entries_kept, head_kept, base_kept, durable_kept}

-- the entries with one more
abbrev more : (ℕ → ℕ) → ℕ → ℕ → ℕ → ℕ
more entry count word i = if i == count then word else entry i

more_old : (entry : ℕ → ℕ) (count word i : ℕ) → i < count → more entry count word i ≡ entry i
more_old entry count word i lt = rw (ne_eqb i count (λ e. absurd (omega (arith, lt, e)))) refl

more_new : (entry : ℕ → ℕ) (count word : ℕ) → more entry count word count ≡ word
more_new entry count word = rw (eq-eqb count count refl) refl

pub entry_stored : (w : Work) (f g : ℕ → Word) (v : ℕ) (saved : ℕ → Bool) (n word : ℕ) (pending : List ℕ)
    → w.stage ≡ StoringEntries → w.entries < NUMBERS → n < NUMBERS → has w.pending n ≡ true
    → ((m : ℕ) → m < n → has w.pending m ≡ false) → has pending n ≡ false
    → ((m : ℕ) → m < NUMBERS → m ≢ n → has pending m ≡ has w.pending m)
    → number_of word ≡ n → comes word ≡ has w.logged n → IsStored f g (log_entry_at w.entries) word
    → NumbersShow w f v saved → NumbersShow (record w { pending = pending; entries = w.entries + 1 }) g v saved
entry_stored w f g v saved n word pending e room inside is_pending least gone others of says stored all =
    let h = subst (λ (s : Stage). NumbersShow (record w { stage = s }) f v saved) e all in
    let count = w.entries in
    let entry = more h.entry count word in
    let new : entry count ≡ word = more_new h.entry count word in
    let old : (i : ℕ) → i < count → entry i ≡ h.entry i = more_old h.entry count word in
    let below : (i : ℕ) → i < count → number_of (entry i) < n = λ i lt.
    let come = h.log_is.to_come i n lt inside is_pending in
    subst (λ (x : ℕ). number_of x < n) (sym (old i lt)) come in
    let show : NumbersShow
    (record w { pending = pending; stage = StoringEntries; entries = w.entries + 1 }) g v saved = record {
      version_is = h.version_is;
      entry = entry;
      head = h.head;
      base = h.base;
      entry_words = below_more (λ (i : ℕ). WordIs 0 Cached (g (log_entry_at i)) (entry i)) count
          (λ i lt. subst (λ (x : ℕ). WordIs 0 Cached (g (log_entry_at i)) x) (sym (old i lt))
          (calm_word 0 Cached (f (log_entry_at i)) (g (log_entry_at i)) (h.entry i)
          (stored_apart f g (log_entry_at count) word (log_entry_at i) stored
          (λ q. absurd (omega (arith, q, lt)))) (h.entry_words i lt)))
          (subst (λ (x : ℕ). WordIs 0 Cached (g (log_entry_at count)) x) (sym new)
          (stored_reads f g (log_entry_at count) word stored));
      head_word = calm_word 0 Clean (f LOG_HEAD_AT) (g LOG_HEAD_AT) 0
          (stored_apart f g (log_entry_at count) word LOG_HEAD_AT stored (λ q. absurd (omega (arith, q)))) h.head_word;
      base_words = λ k lt. calm_word 0 Clean (f (OBJECT_BASE_AT + k)) (g (OBJECT_BASE_AT + k)) (h.base k)
          (stored_apart f g (log_entry_at count) word (OBJECT_BASE_AT + k) stored
          (λ q. absurd (omega (arith, q, lt)))) (h.base_words k lt);
      are_entries = record {
        most = omega (arith, room);
        in_range = below_more (λ (i : ℕ). number_of (entry i) < NUMBERS) count
            (λ i lt. let b = below i lt in omega (arith, b, inside)) (rw new (omega (arith, of, inside)));
        rising = λ i j less lt. elim (cases_eq j count) [
          | inl last ↦ let b = below i (omega (arith, less, last)) in
              subst (λ (k : ℕ). number_of (entry i) < number_of (entry k)) (sym last)
              (subst (λ (x : ℕ). number_of (entry i) < number_of x) (sym new) (omega (arith, b, of)))
          | inr earlier ↦ let inner : j < count = omega (arith, lt, earlier) in
              subst (λ (x : ℕ). x < number_of (entry j)) (ap number_of (sym (old i (omega (arith, less, inner)))))
              (subst (λ (x : ℕ). number_of (h.entry i) < x) (ap number_of (sym (old j inner)))
              (h.are_entries.rising i j less inner))
        ];
      };
      tell = below_more (λ (i : ℕ). has w.logged (number_of (entry i)) ≡ comes (entry i)) count
          (λ i lt. subst (λ (x : ℕ). has w.logged (number_of x) ≡ comes x) (sym (old i lt)) (h.tell i lt))
          (subst (λ (x : ℕ). has w.logged (number_of x) ≡ comes x) (sym new) (ap (has w.logged) of ∙ sym says));
      log_is = record {
        to_come = λ i m lt within wanted.
            let other : m ≢ n = λ q. let z = sym gone ∙ ap (has pending) (sym q) ∙ wanted in cc in
            let was : has w.pending m ≡ true = sym (others m within other) ∙ wanted in
            let above : n < m = elim (cases_lt m n) [
              | inl low ↦ let z = sym (least m low) ∙ was in cc
              | inr high ↦ omega (arith, high, other)
            ] in
            elim (cases_eq i count) [
              | inl last ↦ subst (λ (k : ℕ). number_of (entry k) < m) (sym last)
                  (subst (λ (x : ℕ). number_of x < m) (sym new) (omega (arith, of, above)))
              | inr earlier ↦ let b = below i (omega (arith, lt, earlier)) in omega (arith, b, above)
            ];
        others = λ m within off none.
            let other : m ≢ n = λ q. none count (omega arith) (omega arith) (ap number_of new ∙ of ∙ sym q) in
            h.log_is.others m within (sym (others m within other) ∙ off)
            (λ i low lt is. none i low (omega (arith, lt)) (ap number_of (old i lt) ∙ is));
      };
      head_is = tt;
      base_has = λ m within none. h.base_has m within (λ i low high. absurd (omega (arith, high)));
      committed_has = λ m within none. h.committed_has m within (λ i low high. absurd (omega (arith, high)));
      durable_has = λ m within none. durable_kept (record w { stage = StoringEntries }) f g v saved h
          (λ k lt. stored_apart f g (log_entry_at count) word (OBJECT_BASE_AT + k) stored
          (λ q. absurd (omega (arith, q, lt)))) m within (λ i low high. absurd (omega (arith, high)));
    } in
    subst (λ (s : Stage). NumbersShow (record w { pending = pending; stage = s; entries = w.entries + 1 }) g v saved)
    (sym e) show

pub entries_flushed : (w : Work) (f g : ℕ → Word) (v : ℕ) (saved : ℕ → Bool) (size : ℕ) → w.stage ≡ StoringEntries
    → w.entries ≤ size → ((m : ℕ) → m < NUMBERS → has w.pending m ≡ false)
    → ((i : ℕ) → g i ≡ flushes 0 LOG_ENTRIES_AT size f i)
    → NumbersShow w f v saved → NumbersShow (record w { stage = EntriesInFlight }) g v saved
entries_flushed w f g v saved size e fits done flushed all =
    let h = subst (λ (s : Stage). NumbersShow (record w { stage = s }) f v saved) e all in
    let old : Work = record w { stage = StoringEntries } in
    let calm = flush_in_calm f g 0 LOG_ENTRIES_AT size flushed in
    record {
      version_is = h.version_is;
      entry = h.entry;
      head = h.head;
      base = h.base;
      entry_words = λ i lt. flush_in 0 Cached f g LOG_ENTRIES_AT size i (h.entry i) flushed (omega (arith, lt, fits))
          (h.entry_words i lt);
      head_word = head_kept old f g v saved h calm;
      base_words = base_kept old f g v saved h calm;
      are_entries = h.are_entries;
      tell = h.tell;
      log_is = λ n inside none. h.log_is.others n inside (done n inside) none;
      head_is = tt;
      base_has = h.base_has;
      committed_has = h.committed_has;
      durable_has = durable_kept old f g v saved h (λ j lt. calm.at (OBJECT_BASE_AT + j) (owner_base j lt));
    }

pub entries_fenced : (w : Work) (f g : ℕ → Word) (v : ℕ) (saved : ℕ → Bool) → w.stage ≡ EntriesInFlight
    → ((i : ℕ) → g i ≡ fences 0 f i) → NumbersShow w f v saved → NumbersShow
    (record w { stage = EntriesDurable }) g v saved
entries_fenced w f g v saved e fenced all =
    let h = subst (λ (s : Stage). NumbersShow (record w { stage = s }) f v saved) e all in
    let old : Work = record w { stage = EntriesInFlight } in
    let calm = fence_in_calm f g 0 fenced in
    record {
      version_is = h.version_is;
      entry = h.entry;
      head = h.head;
      base = h.base;
      entry_words = λ i lt. fence_word 0 Ready (f (log_entry_at i)) (g (log_entry_at i)) (h.entry i)
          (fence_all f g 0 fenced (log_entry_at i)) (h.entry_words i lt);
      head_word = head_kept old f g v saved h calm;
      base_words = base_kept old f g v saved h calm;
      are_entries = h.are_entries;
      tell = h.tell;
      log_is = h.log_is;
      head_is = tt;
      base_has = h.base_has;
      committed_has = h.committed_has;
      durable_has = durable_kept old f g v saved h (λ j lt. calm.at (OBJECT_BASE_AT + j) (owner_base j lt));
    }

pub head_stored : (w : Work) (f g : ℕ → Word) (v : ℕ) (saved : ℕ → Bool) (head : ℕ) → w.stage ≡ EntriesDurable
    → head ≡ (w.version + 1) * 2 ^ 16 + w.entries → IsStored f g LOG_HEAD_AT head
    → NumbersShow w f v saved → NumbersShow (record w { stage = HeadStored }) g v saved
head_stored w f g v saved head e names stored all =
    let h = subst (λ (s : Stage). NumbersShow (record w { stage = s }) f v saved) e all in
    let most = h.are_entries.most in
    let off : (k : ℕ) → k < BASE_WORDS → WordCalm (f (OBJECT_BASE_AT + k)) (g (OBJECT_BASE_AT + k)) =
    λ k lt. stored_apart f g LOG_HEAD_AT head (OBJECT_BASE_AT + k) stored (λ q. absurd (omega (arith, q))) in
    record {
      version_is = h.version_is;
      entry = h.entry;
      head = head;
      base = h.base;
      entry_words = λ i lt. calm_word 0 Clean (f (log_entry_at i)) (g (log_entry_at i)) (h.entry i)
          (stored_apart f g LOG_HEAD_AT head (log_entry_at i) stored (λ q. absurd (omega (arith, q))))
          (h.entry_words i lt);
      head_word = stored_over f g LOG_HEAD_AT head 0 stored (h.head_word.1);
      base_words = λ k lt. calm_word 0 Clean (f (OBJECT_BASE_AT + k)) (g (OBJECT_BASE_AT + k)) (h.base k) (off k lt)
          (h.base_words k lt);
      are_entries = h.are_entries;
      tell = h.tell;
      log_is = h.log_is;
      head_is = names;
      base_has = h.base_has;
      committed_has = h.committed_has;
      durable_has = durable_kept (record w { stage = EntriesDurable }) f g v saved h off;
    }

pub head_flushed : (w : Work) (f g : ℕ → Word) (v : ℕ) (saved : ℕ → Bool) (size : ℕ) → w.stage ≡ HeadStored → 0 < size
    → ((i : ℕ) → g i ≡ flushes 0 LOG_HEAD_AT size f i) → NumbersShow w f v saved
    → NumbersShow (record w { stage = HeadInFlight }) g v saved
head_flushed w f g v saved size e some flushed all =
    let h = subst (λ (s : Stage). NumbersShow (record w { stage = s }) f v saved) e all in
    let old : Work = record w { stage = HeadStored } in
    let calm = flush_in_calm f g 0 LOG_HEAD_AT size flushed in
    record {
      version_is = h.version_is;
      entry = h.entry;
      head = h.head;
      base = h.base;
      entry_words = entries_kept old f g v saved h calm;
      head_word = flush_first 0 (Over 0) f g LOG_HEAD_AT size h.head some flushed h.head_word;
      base_words = base_kept old f g v saved h calm;
      are_entries = h.are_entries;
      tell = h.tell;
      log_is = h.log_is;
      head_is = h.head_is;
      base_has = h.base_has;
      committed_has = h.committed_has;
      durable_has = durable_kept old f g v saved h (λ j lt. calm.at (OBJECT_BASE_AT + j) (owner_base j lt));
    }

pub log_done : (w : Work) (f g : ℕ → Word) (v : ℕ) (saved : ℕ → Bool) → w.stage ≡ HeadInFlight
    → ((i : ℕ) → g i ≡ fences 0 f i) → NumbersShow w f v saved → NumbersShow (record w { stage = Logged }) g v saved
log_done w f g v saved e fenced all =
    let h = subst (λ (s : Stage). NumbersShow (record w { stage = s }) f v saved) e all in
    let old : Work = record w { stage = HeadInFlight } in
    let calm = fence_in_calm f g 0 fenced in
    record {
      version_is = h.version_is;
      entry = h.entry;
      head = h.head;
      base = h.base;
      entry_words = entries_kept old f g v saved h calm;
      head_word = fence_word 0 (ReadyOver 0) (f LOG_HEAD_AT) (g LOG_HEAD_AT) h.head
          (fence_all f g 0 fenced LOG_HEAD_AT) h.head_word;
      base_words = base_kept old f g v saved h calm;
      are_entries = h.are_entries;
      tell = h.tell;
      log_is = h.log_is;
      head_is = h.head_is;
      base_has = h.base_has;
      committed_has = h.committed_has;
      durable_has = durable_kept old f g v saved h (λ j lt. calm.at (OBJECT_BASE_AT + j) (owner_base j lt));
    }
