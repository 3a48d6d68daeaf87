-- What each operation of formatting makes of what is known of the words.
use Rattle.std.proofs.Common.{◌≡◌, ◌≢◌, ◌⊎◌, inl, inr, ℕ, ◌+◌, ◌-◌, ◌*◌, ◌<◌, ◌≤◌, ◌∙◌, Bool, true, false, None, refl, ap, sym, subst, arith, ne_eqb, eq-eqb, slice_index, [], ◌∷◌}
use Rattle.std.specs.Prelude.{nat_lt, if◌then◌else◌}
use Rattle.std.proofs.lemmas.Bool.{lt-ltb, cases_lt, cases_eq}
use Rattle.std.proofs.lemmas.Bool.Decides.{nat_tests}
use Rattle.sls_base.specs.declared.fixed.TheConstants.{LEADER}
use Rattle.pmem_model.specs.Words.{Word, bursts, flushes, fences, flushed, is_within}
use Rattle.pmem_model.specs.Events.{Kind, Clean, Over, ReadyOver, WordIs, WordCalm, Left, Apart, calm_word, calm_same, fence_word, left_word, marked_word, burst_off, burst_in, burst_cached, burst_one, burst_apart, flush_calm, fence_all, inside_of}
use Rattle.pmem_layout.specs.declared.format.TheConstants.{FORMAT_WORD}
use Rattle.pmem_layout.specs.declared.places.TheConstants.{FORMAT_AT}
use Rattle.pmem_layout.specs.Places.{line_at}
use Rattle.durable_state.specs.Parts.{Parts}
use Rattle.version_commit.specs.declared.step.Step.{Step}
use Rattle.version_commit.specs.declared.step.Step.TheVariants as steps
use Rattle.version_commit.specs.OnWay.{next, words_after}
use Rattle.first_format.specs.declared.pieces.TheConstants.{PIECES}
use Rattle.first_format.specs.declared.stage.Stage.{Stage}
use Rattle.first_format.specs.declared.stage.Stage.TheVariants.{Store, Flush, Fence, FormatWord, Done}
use Rattle.first_format.specs.Pieces.{piece_of, place_of, count_of, lines_of}
use Rattle.first_format.specs.Formatted.{content_word, formatted}
use Rattle.first_format.specs.Clean.{HoldsClean}
use Rattle.first_format.specs.Shows.{IsBlankOr, AreOnWay, piece_kind, stage_behind}
use Rattle.first_format.proofs.Places.{in_some, formatted_body, record_piece, page_piece}

-- Where pieces stand.

abbrev pub IsAt : ℕ → ℕ → ℕ → Type 0
IsAt n at count =
    ((n ≡ 0) × (at ≡ 2) × (count ≡ 24))
    ⊎ (((n ≡ 1) × (at ≡ 1216) × (count ≡ 256))
    ⊎ (((2 ≤ n) × (n < 130) × (at + 256 ≡ 1536 + 128 * n) × (count ≡ 64))
    ⊎ ((130 ≤ n) × (at + 129024 ≡ 17920 + 1024 * n) × (count ≡ 512))))

pub stands_at : (n : ℕ) → IsAt n (place_of (piece_of n)) (count_of (piece_of n))
stands_at n =
    elim (cases_lt n 2) [
      | inl first ↦ elim (cases_eq n 0) [
        | inl head ↦ subst (λ m. IsAt m (place_of (piece_of m)) (count_of (piece_of m))) (sym head) (inl (refl, refl, refl))
        | inr ne ↦
            let tags : 1 ≡ n = omega arith in
            subst (λ m. IsAt m (place_of (piece_of m)) (count_of (piece_of m))) tags (inr (inl (refl, refl, refl)))
      ]
      | inr two ↦ elim (cases_lt n 130) [
        | inl record_of ↦
            let is : 2 + (n - 2) ≡ n = omega arith in
            let e = ap piece_of (sym is) ∙ record_piece (n - 2) (omega arith) in
            inr (inr (inl (two, record_of, rw e (omega arith), rw e refl)))
        | inr page ↦
            let is : 130 + (n - 130) ≡ n = omega arith in
            let e = ap piece_of (sym is) ∙ page_piece (n - 130) in
            inr (inr (inr (page, rw e (omega arith), rw e refl)))
      ]
    ]

rise : (m n a b c d : ℕ) → IsAt m a c → IsAt n b d → m < n → a + c ≤ b
rise m n a b c d h k l =
    elim h [
      | inl x ↦ elim k [ inl y ↦ omega arith | inr z ↦ elim z [ inl y ↦ omega arith | inr w ↦ elim w [ inl y ↦ omega arith | inr y ↦ omega arith ] ] ]
      | inr v ↦ elim v [
        | inl x ↦ elim k [ inl y ↦ omega arith | inr z ↦ elim z [ inl y ↦ omega arith | inr w ↦ elim w [ inl y ↦ omega arith | inr y ↦ omega arith ] ] ]
        | inr u ↦ elim u [
          | inl x ↦ elim k [ inl y ↦ omega arith | inr z ↦ elim z [ inl y ↦ omega arith | inr w ↦ elim w [ inl y ↦ omega arith | inr y ↦ omega arith ] ] ]
          | inr x ↦ elim k [ inl y ↦ omega arith | inr z ↦ elim z [ inl y ↦ omega arith | inr w ↦ elim w [ inl y ↦ omega arith | inr y ↦ omega arith ] ] ]
        ]
      ]
    ]

pub pieces_rise : (m n : ℕ) → m < n → place_of (piece_of m) + count_of (piece_of m) ≤ place_of (piece_of n)
pieces_rise m n l = rise m n _ _ _ _ (stands_at m) (stands_at n) l

from_two : (n a c : ℕ) → IsAt n a c → 2 ≤ a
from_two n a c h = elim h [ inl y ↦ omega arith | inr z ↦ elim z [ inl y ↦ omega arith | inr w ↦ elim w [ inl y ↦ omega arith | inr y ↦ omega arith ] ] ]

pub behind_first : (n : ℕ) → 2 ≤ place_of (piece_of n)
behind_first n = from_two n _ _ (stands_at n)

other_piece : (m n j : ℕ) → m ≢ n → j < count_of (piece_of m) → Apart (place_of (piece_of n)) (count_of (piece_of n)) (place_of (piece_of m) + j)
other_piece m n j ne inside =
    elim (cases_lt m n) [
      | inl l ↦ let r = pieces_rise m n l in inl (omega arith)
      | inr le ↦ let r = pieces_rise n m (omega arith) in inr (omega arith)
    ]

pub lines_cover : (n j : ℕ) → j < count_of (piece_of n) → is_within (line_at (place_of (piece_of n))) (8 * lines_of (piece_of n)) (place_of (piece_of n) + j) ≡ true
lines_cover n j inside =
    elim (cases_lt n 2) [
      | inl first ↦ elim (cases_eq n 0) [
        | inl head ↦ rw head (let l : j < 24 = rw head at inside in grind (arith, nat_tests))
        | inr ne ↦
            let tags : n ≡ 1 = omega arith in
            rw tags (let l : j < 256 = rw tags at inside in grind (arith, nat_tests))
      ]
      | inr two ↦ elim (cases_lt n 130) [
        | inl record_of ↦
            let is : 2 + (n - 2) ≡ n = omega arith in
            let e = ap piece_of (sym is) ∙ record_piece (n - 2) (omega arith) in
            let l : j < 64 = rw e at inside in
            rw e (grind (arith, nat_tests))
        | inr page ↦
            let is : 130 + (n - 130) ≡ n = omega arith in
            let e = ap piece_of (sym is) ∙ page_piece (n - 130) in
            let l : j < 512 = rw e at inside in
            rw e (grind (arith, nat_tests))
      ]
    ]

-- Words that are blank or stored.

pub blank_calm : (x : ℕ) (w u : Word) → WordCalm w u → IsBlankOr x w → IsBlankOr x u
blank_calm x w u calm h = record {
  cached = elim h.cached [ inl z ↦ inl (calm.cached ∙ z) | inr s ↦ inr (calm.cached ∙ s) ];
  durable = elim calm.durable [
    | inl same ↦ elim h.durable [ inl z ↦ inl (same ∙ z) | inr s ↦ inr (same ∙ s) ]
    | inr now ↦ elim h.cached [ inl z ↦ inl (now ∙ z) | inr s ↦ inr (now ∙ s) ]
  ];
}

-- what is to be 0 is durable as 0
blank_zero : (w : Word) (x : ℕ) → x ≡ 0 → IsBlankOr x w → WordIs LEADER Clean w x
blank_zero w x zero h = (
  elim h.cached [ inl z ↦ z ∙ sym zero | inr s ↦ s ],
  elim h.durable [ inl z ↦ z ∙ sym zero | inr s ↦ s ],
)

clean_ready : (w : Word) (x : ℕ) → WordIs LEADER Clean w x → WordIs LEADER (ReadyOver 0) w x
clean_ready w x h = (h.0, inl h.1)

-- Calm events.

pub calm_on_way : (p : Parts) (stage : Stage) (step : Step) (f g : ℕ → Word) → ((i : ℕ) → WordCalm (f i) (g i)) → AreOnWay p stage step f → AreOnWay p stage step g
calm_on_way p stage step f g calm h = record {
  each = λ i ne. blank_calm (content_word p i) (f i) (g i) (calm i) (h.each i ne);
  pieces = λ n j some inside. calm_word LEADER _ _ _ _ (calm _) (h.pieces n j some inside);
  format = calm_word LEADER _ _ _ _ (calm FORMAT_AT) h.format;
  waiting = h.waiting;
}

-- The start.

from_clean : (p : Parts) (i : ℕ) (f : ℕ → Word) (words : ℕ → ℕ) → i ≢ FORMAT_AT → (words i ≡ 0) ⊎ (words i ≡ formatted p i) → HoldsClean f words
    → IsBlankOr (content_word p i) (f i)
from_clean p i f words ne is clean =
    let word = clean.at i in
    record {
      cached = elim is [ inl z ↦ inl (word.0 ∙ z) | inr s ↦ inr (word.0 ∙ (s ∙ formatted_body p i ne)) ];
      durable = elim is [ inl z ↦ inl (word.1 ∙ z) | inr s ↦ inr (word.1 ∙ (s ∙ formatted_body p i ne)) ];
    }

pub begun_on : (p : Parts) (step : Step) (f : ℕ → Word) (words : ℕ → ℕ) → step ≡ steps.Store → words FORMAT_AT ≡ 0
    → ((i : ℕ) → (words i ≡ 0) ⊎ (words i ≡ formatted p i)) → HoldsClean f words → AreOnWay p (Store 0) step f
begun_on p step f words is unformatted each clean = record {
  each = λ i ne. from_clean p i f words ne (each i) clean;
  pieces = λ n j some inside.
      let off : nat_lt n 0 ≡ false = grind (arith, nat_tests) in
      rw off tt;
  format = ((clean.at FORMAT_AT).0 ∙ unformatted, (clean.at FORMAT_AT).1 ∙ unformatted);
  waiting = is;
}

-- Behind a piece.

abbrev Known : Parts → Kind → (ℕ → Word) → ℕ → ℕ → Type 0
Known p kind f n j = WordIs LEADER kind (f (place_of (piece_of n) + j)) (content_word p (place_of (piece_of n) + j))

go_on_by : (p : Parts) (n : ℕ) (b : Bool) (f : ℕ → Word) → nat_lt (n + 1) PIECES ≡ b → ((i : ℕ) → i ≢ FORMAT_AT → IsBlankOr (content_word p i) (f i))
    → ((m j : ℕ) → m < PIECES → m ≤ n → j < count_of (piece_of m) → Known p (ReadyOver 0) f m j) → WordIs LEADER Clean (f FORMAT_AT) 0 → (step : Step) → step ≡ steps.Store
    → AreOnWay p (if b then Store (n + 1) else Fence) step f
go_on_by p n true f e each passed format step is = record {
  each = each;
  pieces = λ m j some inside. elim (cases_lt m (n + 1)) [
    | inl l ↦ rw (lt-ltb m (n + 1) l) (passed m j some (omega arith) inside)
    | inr le ↦ let off : nat_lt m (n + 1) ≡ false = grind (arith, nat_tests) in rw off tt
  ];
  format = format;
  waiting = is;
}
go_on_by p n false f e each passed format step is =
    let last : PIECES ≤ n + 1 = grind (arith, nat_tests) in
    record {
      each = each;
      pieces = λ m j some inside. passed m j some (omega arith) inside;
      format = format;
      waiting = is;
    }

go_on : (p : Parts) (n : ℕ) (f : ℕ → Word) → ((i : ℕ) → i ≢ FORMAT_AT → IsBlankOr (content_word p i) (f i))
    → ((m j : ℕ) → m < PIECES → m ≤ n → j < count_of (piece_of m) → Known p (ReadyOver 0) f m j) → WordIs LEADER Clean (f FORMAT_AT) 0 → (step : Step) → step ≡ steps.Store
    → AreOnWay p (stage_behind n) step f
go_on p n f each passed format step is = go_on_by p n (nat_lt (n + 1) PIECES) f refl each passed format step is

before_ready : (p : Parts) (m n j : ℕ) (f : ℕ → Word) → m < n → Known p (piece_kind (Store n) m) f m j → Known p (ReadyOver 0) f m j
before_ready p m n j f l h = rw (lt-ltb m n l) at h

before_flush : (p : Parts) (m n j : ℕ) (f : ℕ → Word) → m < n → Known p (piece_kind (Flush n) m) f m j → Known p (ReadyOver 0) f m j
before_flush p m n j f l h = rw (lt-ltb m n l) at h

at_flush : (p : Parts) (m n j : ℕ) (f : ℕ → Word) → m ≡ n → Known p (piece_kind (Flush n) m) f m j → Known p (Over 0) f m j
at_flush p m n j f e h =
    let off : nat_lt m n ≡ false = grind (arith, nat_tests) in
    rw (off, eq-eqb m n e) at h

-- a piece that has no words is passed over
pub passed_on : (p : Parts) (n : ℕ) (step : Step) (f : ℕ → Word) → ((j : ℕ) → j < count_of (piece_of n) → content_word p (place_of (piece_of n) + j) ≡ 0)
    → AreOnWay p (Store n) step f → AreOnWay p (stage_behind n) step f
passed_on p n step f empty h =
    go_on p n f h.each
    (λ m j some le inside. elim (cases_lt m n) [
      | inl l ↦ before_ready p m n j f l (h.pieces m j some inside)
      | inr ge ↦
          let same : m ≡ n = omega arith in
          let first = behind_first m in
          let zero : content_word p (place_of (piece_of m) + j) ≡ 0 = subst (λ k. (i : ℕ) → i < count_of (piece_of k) → content_word p (place_of (piece_of k) + i) ≡ 0) (sym same) empty j inside in
          clean_ready _ _ (blank_zero _ _ zero (h.each (place_of (piece_of m) + j) (λ z. absurd (omega arith))))
    ])
    h.format step h.waiting

-- The store of a piece.

stored_blank : (p : Parts) (at count i : ℕ) (b : Bool) (f g : ℕ → Word) → is_within at count i ≡ b → ((k : ℕ) → g k ≡ bursts at count (λ j. content_word p (at + j)) f k)
    → IsBlankOr (content_word p i) (f i) → IsBlankOr (content_word p i) (g i)
stored_blank p at count i true f g within e h =
    let in_it = inside_of at count i within in
    let j = in_it.0 in
    let is = burst_cached f g at count j (λ k. content_word p (at + k)) e in_it.1 in
    let s = burst_in f g at count j (λ k. content_word p (at + k)) e in_it.1 in
    subst (λ k. IsBlankOr (content_word p k) (g k)) in_it.2 (record {
      cached = inr is;
      durable =
          let was = subst (λ k. IsBlankOr (content_word p k) (f k)) (sym in_it.2) h in
          let same = ap (λ (w : Word). w.durable) s in
          elim was.durable [ inl z ↦ inl (same ∙ z) | inr v ↦ inr (same ∙ v) ];
    })
stored_blank p at count i false f g off e h = blank_calm (content_word p i) (f i) (g i) (calm_same (f i) (g i) (rw off at (e i))) h

stored_over : (p : Parts) (at count j : ℕ) (f g : ℕ → Word) → ((k : ℕ) → g k ≡ bursts at count (λ j. content_word p (at + j)) f k) → j < count
    → IsBlankOr (content_word p (at + j)) (f (at + j)) → WordIs LEADER (Over 0) (g (at + j)) (content_word p (at + j))
stored_over p at count j f g e inside h =
    let same = ap (λ (w : Word). w.durable) (burst_in f g at count j (λ k. content_word p (at + k)) e inside) in
    (burst_cached f g at count j (λ k. content_word p (at + k)) e inside, elim h.durable [ inl z ↦ inr (same ∙ z) | inr v ↦ inl (same ∙ v) ])

kind_behind : (p : Parts) (m n j : ℕ) (f : ℕ → Word) → n < m → Known p (piece_kind (Flush n) m) f m j
kind_behind p m n j f l =
    let off : nat_lt m n ≡ false = grind (arith, nat_tests) in
    rw (off, ne_eqb m n (λ e. absurd (omega arith))) tt

pub stored_on : (p : Parts) (n : ℕ) (step : Step) (f g : ℕ → Word)
    → ((i : ℕ) → g i ≡ bursts (place_of (piece_of n)) (count_of (piece_of n)) (λ j. content_word p (place_of (piece_of n) + j)) f i)
    → AreOnWay p (Store n) step f → AreOnWay p (Flush n) step g
stored_on p n step f g e h =
    let at = place_of (piece_of n) in
    let count = count_of (piece_of n) in
    record {
      each = λ i ne. stored_blank p at count i (is_within at count i) f g refl e (h.each i ne);
      pieces = λ m j some inside. elim (cases_lt m n) [
        | inl l ↦
            let ready = before_ready p m n j f l (h.pieces m j some inside) in
            let apart = other_piece m n j (λ s. absurd (omega arith)) inside in
            rw (lt-ltb m n l) (calm_word LEADER (ReadyOver 0) _ _ _ (burst_off f g at count (place_of (piece_of m) + j) (λ k. content_word p (at + k)) e apart) ready)
        | inr ge ↦ elim (cases_eq m n) [
          | inl same ↦
              let off : nat_lt m n ≡ false = grind (arith, nat_tests) in
              let first = behind_first m in
              let g_is : (i : ℕ) → g i ≡ bursts (place_of (piece_of m)) (count_of (piece_of m)) (λ j. content_word p (place_of (piece_of m) + j)) f i =
              subst (λ k. (i : ℕ) → g i ≡ bursts (place_of (piece_of k)) (count_of (piece_of k)) (λ j. content_word p (place_of (piece_of k) + j)) f i) (sym same) e in
              rw (off, eq-eqb m n same) (stored_over p (place_of (piece_of m)) (count_of (piece_of m)) j f g g_is inside (h.each (place_of (piece_of m) + j) (λ z. absurd (omega arith))))
          | inr other ↦ kind_behind p m n j g (omega arith)
        ]
      ];
      format =
          let first = behind_first n in
          calm_word LEADER Clean _ _ _ (burst_off f g at count FORMAT_AT (λ k. content_word p (at + k)) e (inl (omega arith))) h.format;
      waiting = h.waiting;
    }

-- The flush of a piece.

pub flushed_on : (p : Parts) (n : ℕ) (step : Step) (f g : ℕ → Word)
    → ((i : ℕ) → g i ≡ flushes LEADER (line_at (place_of (piece_of n))) (8 * lines_of (piece_of n)) f i)
    → AreOnWay p (Flush n) step f → AreOnWay p (stage_behind n) step g
flushed_on p n step f g e h =
    let from = line_at (place_of (piece_of n)) in
    let count = 8 * lines_of (piece_of n) in
    let calm = flush_calm f g LEADER from count e in
    go_on p n g (λ i ne. blank_calm (content_word p i) (f i) (g i) (calm i) (h.each i ne))
    (λ m j some le inside. elim (cases_lt m n) [
      | inl l ↦ calm_word LEADER (ReadyOver 0) _ _ _ (calm (place_of (piece_of m) + j)) (before_flush p m n j f l (h.pieces m j some inside))
      | inr ge ↦
          let same : m ≡ n = omega arith in
          let at = place_of (piece_of m) + j in
          let cover : is_within from count at ≡ true = subst (λ k. is_within (line_at (place_of (piece_of k))) (8 * lines_of (piece_of k)) at ≡ true) same (lines_cover m j inside) in
          let now : g at ≡ flushed LEADER (f at) = rw cover at (e at) in
          rw now (marked_word LEADER (Over 0) (f at) (content_word p at) (at_flush p m n j f same (h.pieces m j some inside)))
    ])
    (calm_word LEADER Clean _ _ _ (calm FORMAT_AT) h.format) step h.waiting

-- The fence.

pub fenced_on : (p : Parts) (step : Step) (f g : ℕ → Word) → ((i : ℕ) → g i ≡ fences LEADER f i) → AreOnWay p Fence step f → AreOnWay p FormatWord step g
fenced_on p step f g e h =
    let all = fence_all f g LEADER e in
    let is : step ≡ steps.Store = h.waiting in
    rw is (record {
      each = λ i ne. blank_calm (content_word p i) (f i) (g i) ((all i).calm) (h.each i ne);
      pieces = λ n j some inside. fence_word LEADER (ReadyOver 0) _ _ _ (all _) (h.pieces n j some inside);
      format = fence_word LEADER Clean _ _ _ (all FORMAT_AT) h.format;
      waiting = tt;
    })

-- The format word.

abbrev pub word_stage : Step → Stage
word_stage steps.Store = FormatWord
word_stage steps.Flush = FormatWord
word_stage steps.Fence = Done

pub word_on : (p : Parts) (step : Step) (f g : ℕ → Word) → ((i : ℕ) → g i ≡ words_after step FORMAT_AT FORMAT_WORD f i) → AreOnWay p FormatWord step f
    → AreOnWay p (word_stage step) (next step) g
word_on p steps.Store f g e h =
    let others : (i : ℕ) → i ≢ FORMAT_AT → WordCalm (f i) (g i) = λ i ne. burst_apart f g FORMAT_AT i (slice_index (FORMAT_WORD ∷ [])) e ne in
    record {
      each = λ i ne. blank_calm (content_word p i) (f i) (g i) (others i ne) (h.each i ne);
      pieces = λ n j some inside.
          let first = behind_first n in
          calm_word LEADER Clean _ _ _ (others (place_of (piece_of n) + j) (λ z. absurd (omega arith))) (h.pieces n j some inside);
      format = burst_one LEADER f g FORMAT_AT 0 FORMAT_WORD (slice_index (FORMAT_WORD ∷ [])) e refl h.format.1;
      waiting = tt;
    }
word_on p steps.Flush f g e h =
    let calm = flush_calm f g LEADER (line_at FORMAT_AT) 8 e in
    let now : g FORMAT_AT ≡ flushed LEADER (f FORMAT_AT) = e FORMAT_AT in
    record {
      each = λ i ne. blank_calm (content_word p i) (f i) (g i) (calm i) (h.each i ne);
      pieces = λ n j some inside. calm_word LEADER Clean _ _ _ (calm _) (h.pieces n j some inside);
      format = rw now (marked_word LEADER (Over 0) (f FORMAT_AT) FORMAT_WORD h.format);
      waiting = tt;
    }
word_on p steps.Fence f g e h =
    let all = fence_all f g LEADER e in
    record {
      each = λ i ne. blank_calm (content_word p i) (f i) (g i) ((all i).calm) (h.each i ne);
      pieces = λ n j some inside. calm_word LEADER Clean _ _ _ ((all _).calm) (h.pieces n j some inside);
      format = fence_word LEADER (ReadyOver 0) _ _ _ (all FORMAT_AT) h.format;
      waiting = tt;
    }

-- What a cut leaves, and what there is at the end.

abbrev pub HaveNoRings : Parts → Type 0
HaveNoRings p = (page : ℕ) → page < 4 → p.pages page ≡ None

-- each word but the format word is clean
fenced_clean : (p : Parts) (f : ℕ → Word) → HaveNoRings p → ((i : ℕ) → i ≢ FORMAT_AT → IsBlankOr (content_word p i) (f i))
    → ((n j : ℕ) → n < PIECES → j < count_of (piece_of n) → Known p Clean f n j) → (i : ℕ) → i ≢ FORMAT_AT → WordIs LEADER Clean (f i) (content_word p i)
fenced_clean p f rings each pieces i ne =
    elim (in_some p i rings ne) [
      | inl zero ↦ blank_zero (f i) (content_word p i) zero (each i ne)
      | inr at ↦ subst (λ k. WordIs LEADER Clean (f k) (content_word p k)) (sym at.2.is) (pieces at.0 at.1 at.2.some at.2.inside)
    ]

left_blank : (x y : ℕ) (w : Word) → IsBlankOr x w → Left w y → (y ≡ 0) ⊎ (y ≡ x)
left_blank x y w h l = elim l [
  | inl d ↦ elim h.durable [ inl z ↦ inl (d ∙ z) | inr s ↦ inr (d ∙ s) ]
  | inr c ↦ elim h.cached [ inl z ↦ inl (c ∙ z) | inr s ↦ inr (c ∙ s) ]
]

-- of the words that a cut leaves
pub record IsUnformatted (p : Parts) (left : ℕ → ℕ) : Type 0 where
  pub unformatted : left FORMAT_AT ≡ 0
  pub each : (i : ℕ) → (left i ≡ 0) ⊎ (left i ≡ formatted p i)

not_yet : (p : Parts) (f : ℕ → Word) (left : ℕ → ℕ) → ((i : ℕ) → i ≢ FORMAT_AT → IsBlankOr (content_word p i) (f i)) → ((i : ℕ) → Left (f i) (left i)) → left FORMAT_AT ≡ 0
    → IsUnformatted p left
not_yet p f left each may zero = record {
  unformatted = zero;
  each = λ i. elim (cases_eq i FORMAT_AT) [
    | inl at ↦ inl (ap left at ∙ zero)
    | inr ne ↦ elim (left_blank (content_word p i) (left i) (f i) (each i ne) (may i)) [
      | inl z ↦ inl z
      | inr s ↦ inr (s ∙ sym (formatted_body p i ne))
    ]
  ];
}

all_there : (p : Parts) (left : ℕ → ℕ) → ((i : ℕ) → i ≢ FORMAT_AT → left i ≡ content_word p i) → left FORMAT_AT ≡ FORMAT_WORD → (i : ℕ) → left i ≡ formatted p i
all_there p left others word i = elim (cases_eq i FORMAT_AT) [
  | inl at ↦ ap left at ∙ (word ∙ sym (ap (formatted p) at))
  | inr ne ↦ others i ne ∙ sym (formatted_body p i ne)
]

left_by_word : (p : Parts) (stage : Stage) (step : Step) (f : ℕ → Word) (left : ℕ → ℕ) → HaveNoRings p → ((i : ℕ) → Left (f i) (left i)) → AreOnWay p stage step f
    → ((n j : ℕ) → n < PIECES → j < count_of (piece_of n) → Known p Clean f n j) → (left FORMAT_AT ≡ FORMAT_WORD) ⊎ (left FORMAT_AT ≡ 0)
    → IsUnformatted p left ⊎ ((i : ℕ) → left i ≡ formatted p i)
left_by_word p stage step f left rings may h pieces word =
    elim word [
      | inl formatted_now ↦ inr (all_there p left (λ i ne. left_word LEADER Clean (f i) (content_word p i) (left i) (fenced_clean p f rings h.each pieces i ne) (may i)) formatted_now)
      | inr zero ↦ inl (not_yet p f left h.each may zero)
    ]

pub left_on : (p : Parts) (stage : Stage) (step : Step) (f : ℕ → Word) (left : ℕ → ℕ) → HaveNoRings p → ((i : ℕ) → Left (f i) (left i)) → AreOnWay p stage step f
    → IsUnformatted p left ⊎ ((i : ℕ) → left i ≡ formatted p i)
left_on p (Store n) step f left rings may h = inl (not_yet p f left h.each may (left_word LEADER Clean (f FORMAT_AT) _ (left FORMAT_AT) h.format (may FORMAT_AT)))
left_on p (Flush n) step f left rings may h = inl (not_yet p f left h.each may (left_word LEADER Clean (f FORMAT_AT) _ (left FORMAT_AT) h.format (may FORMAT_AT)))
left_on p Fence step f left rings may h = inl (not_yet p f left h.each may (left_word LEADER Clean (f FORMAT_AT) _ (left FORMAT_AT) h.format (may FORMAT_AT)))
left_on p FormatWord steps.Store f left rings may h =
    left_by_word p FormatWord steps.Store f left rings may h h.pieces (inr (left_word LEADER Clean (f FORMAT_AT) _ (left FORMAT_AT) h.format (may FORMAT_AT)))
left_on p FormatWord steps.Flush f left rings may h =
    left_by_word p FormatWord steps.Flush f left rings may h h.pieces (left_word LEADER (Over 0) (f FORMAT_AT) _ (left FORMAT_AT) h.format (may FORMAT_AT))
left_on p FormatWord steps.Fence f left rings may h =
    left_by_word p FormatWord steps.Fence f left rings may h h.pieces (left_word LEADER (ReadyOver 0) (f FORMAT_AT) _ (left FORMAT_AT) h.format (may FORMAT_AT))
left_on p Done step f left rings may h =
    left_by_word p Done step f left rings may h h.pieces (inl (left_word LEADER Clean (f FORMAT_AT) _ (left FORMAT_AT) h.format (may FORMAT_AT)))

pub done_clean : (p : Parts) (step : Step) (f : ℕ → Word) → HaveNoRings p → AreOnWay p Done step f → HoldsClean f (formatted p)
done_clean p step f rings h = record {
  at = λ i. elim (cases_eq i FORMAT_AT) [
    | inl at ↦ subst (λ k. WordIs LEADER Clean (f k) (formatted p k)) (sym at) h.format
    | inr ne ↦ subst (WordIs LEADER Clean (f i)) (sym (formatted_body p i ne)) (fenced_clean p f rings h.each h.pieces i ne)
  ];
}
