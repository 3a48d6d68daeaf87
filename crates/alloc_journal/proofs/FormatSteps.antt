-- The steps that store the first base.
use Rattle.std.proofs.Common.{◌≡◌, ◌≢◌, ℕ, ◌+◌, ◌-◌, ◌≤◌, subst, arith, List, length, slice_index, inl, inr}
use Rattle.std.proofs.lemmas.Bool.{cases_lt}
use Rattle.pmem_model.specs.Words.{Word, bursts, flushes, fences}
use Rattle.pmem_model.specs.Events.{Cached, Ready, Clean, WordCalm, calm_word, fence_word, fence_all, flush_in, burst_off, burst_cached}
use Rattle.pmem_layout.specs.declared.places.TheConstants.{LOG_HEAD_AT, OBJECT_BASE_AT}
use Rattle.pmem_layout.specs.Owners.{Numbers, owner}
use Rattle.pmem_layout.specs.Rooms.{StoresOnlyIn}
use Rattle.alloc_journal.specs.declared.bits.TheConstants.{BASE_WORDS}
use Rattle.alloc_journal.specs.declared.journal.Stage.{Stage}
use Rattle.alloc_journal.specs.declared.journal.Stage.TheVariants.{Unformatted, FirstStored, FirstInFlight, Rest}
use Rattle.alloc_journal.specs.Work.{Work}
use Rattle.alloc_journal.specs.Formatting.{FormatShows}
use Rattle.alloc_journal.proofs.Words.{owner_base, owner_head, flush_in_calm, fence_in_calm}

pub base_stored : (w : Work) (f g : ℕ → Word) (base : List ℕ) → w.stage ≡ Unformatted → length base ≡ 10
    → ((i : ℕ) → g i ≡ bursts OBJECT_BASE_AT (length base) (slice_index base) f i) → FormatShows w f
    → FormatShows (record w { committed = base; stage = FirstStored }) g
base_stored w f g base e size stored h = record {
  version_is = h.version_is;
  no_entries = h.no_entries;
  head_word = calm_word 0 Clean (f LOG_HEAD_AT) (g LOG_HEAD_AT) 0
      (burst_off f g OBJECT_BASE_AT (length base) LOG_HEAD_AT (slice_index base) stored
      (inl (omega arith))) h.head_word;
  base_words = λ k lt. burst_cached f g OBJECT_BASE_AT (length base) k (slice_index base) stored
      (omega (arith, lt, size));
}

-- a word of another owner is not stored
off : (f g : ℕ → Word) (base : List ℕ) → length base ≡ 10
    → ((i : ℕ) → g i ≡ bursts OBJECT_BASE_AT (length base)
    (slice_index base) f i) → (i : ℕ) → owner i ≢ Numbers → WordCalm (f i) (g i)
off f g base size stored i other =
    elim (cases_lt i OBJECT_BASE_AT) [
      | inl low ↦ burst_off f g OBJECT_BASE_AT (length base) i (slice_index base) stored (inl low)
      | inr high ↦ elim (cases_lt i (OBJECT_BASE_AT + BASE_WORDS)) [
        | inl inside ↦
            let place : OBJECT_BASE_AT + (i - OBJECT_BASE_AT) ≡ i = omega (arith, high) in
            absurd (other (subst (λ (p : ℕ). owner p ≡ Numbers) place
            (owner_base (i - OBJECT_BASE_AT) (omega (arith, high, inside)))))
        | inr past ↦ burst_off f g OBJECT_BASE_AT (length base) i (slice_index base) stored
            (inr (omega (arith, past, size)))
      ]
    ]

pub base_only : (f g : ℕ → Word) (base : List ℕ) → length base ≡ 10
    → ((i : ℕ) → g i ≡ bursts OBJECT_BASE_AT (length base) (slice_index base) f i) → StoresOnlyIn Numbers f g
base_only f g base size stored = record { at = λ i other. off f g base size stored i other }

pub first_flushed : (w : Work) (f g : ℕ → Word) (size : ℕ) → w.stage ≡ FirstStored → BASE_WORDS ≤ size
    → ((i : ℕ) → g i ≡ flushes 0 OBJECT_BASE_AT size f i) → FormatShows w f → FormatShows
    (record w { stage = FirstInFlight }) g
first_flushed w f g size e fits flushed all =
    let h = subst (λ (s : Stage). FormatShows (record w { stage = s }) f) e all in
    let calm = flush_in_calm f g 0 OBJECT_BASE_AT size flushed in
    record {
      version_is = h.version_is;
      no_entries = h.no_entries;
      head_word = calm_word 0 Clean (f LOG_HEAD_AT) (g LOG_HEAD_AT) 0 (calm.at LOG_HEAD_AT owner_head) h.head_word;
      base_words = λ k lt. flush_in 0 Cached f g OBJECT_BASE_AT size k (slice_index w.committed k) flushed
          (omega (arith, lt, fits)) (h.base_words k lt);
    }

pub first_fenced : (w : Work) (f g : ℕ → Word) → w.stage ≡ FirstInFlight → ((i : ℕ) → g i ≡ fences 0 f i)
    → FormatShows w f → FormatShows (record w { stage = Rest }) g
first_fenced w f g e fenced all =
    let h = subst (λ (s : Stage). FormatShows (record w { stage = s }) f) e all in
    let calm = fence_in_calm f g 0 fenced in
    record {
      version_is = h.version_is;
      no_entries = h.no_entries;
      head_word = calm_word 0 Clean (f LOG_HEAD_AT) (g LOG_HEAD_AT) 0 (calm.at LOG_HEAD_AT owner_head) h.head_word;
      base_words = λ k lt. fence_word 0 Ready (f (OBJECT_BASE_AT + k)) (g (OBJECT_BASE_AT + k))
          (slice_index w.committed k) (fence_all f g 0 fenced (OBJECT_BASE_AT + k)) (h.base_words k lt);
    }
