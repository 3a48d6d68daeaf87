-- How recovery goes on: the saved pages are copied back one after another.
use Rattle.std.proofs.Common.{arith, ◌≡◌, ◌⊎◌, inl, inr, ℕ, ◌+◌, ◌*◌, ◌<◌, ◌≤◌, ◌∙◌, ap, sym, subst, List, slice_index, ⊎_elim, true, false, if◌then◌else◌, nat_lt, IsTrue}
use Rattle.std.proofs.lemmas.Bool.{cases_lt}
use Rattle.std.proofs.lemmas.Bool.Decides.{nat_tests}
use Rattle.sls_base.specs.declared.limits.TheConstants.{FRAME_WORDS}
use Rattle.pmem_model.specs.Words.{Word, bursts}
use Rattle.pmem_model.specs.Events.{Kind, Any, Cached, Clean, WordIs, WordCalm, calm_word, burst_off, burst_cached}
use Rattle.sls_kernel.specs.Plain.{State}
use Rattle.sls_kernel.specs.Words.{area_of, area_place, running_place, frame_place, part_words, record_word}
use Rattle.sls_kernel.specs.Areas.{PartsAre}
use Rattle.sls_kernel.specs.Shows.{WordsAre, WordsShow, AreState, put_count, IsRunning}
use Rattle.sls_kernel.specs.Stages.{format_word, is_stage}
use Rattle.sls_kernel.specs.declared.stage.Stage.{Stage}
use Rattle.sls_kernel.specs.declared.stage.Stage.TheVariants.{Recover, Up}
use Rattle.sls_kernel.specs.declared.thread.RunThread.{RunThread}
use Rattle.sls_kernel.proofs.Facts.{parts_calm, rest_calm}

-- a copy of a page back from the area of v
abbrev pub CopiesBack : ℕ → ℕ → (ℕ → Word) → (ℕ → Word) → Type 0
CopiesBack v page f g = (p : ℕ) → g p ≡ bursts (frame_place (2 * page)) 512 (λ k. (f (frame_place (16 + 8 * area_of v + page) + k)).cached) f p

off_copy : (v page : ℕ) (f g : ℕ → Word) → CopiesBack v page f g → (i : ℕ) → (i < frame_place (2 * page)) ⊎ (frame_place (2 * page + 1) ≤ i) → WordCalm (f i) (g i)
off_copy v page f g event i off =
    burst_off f g (frame_place (2 * page)) 512 i (λ k. (f (frame_place (16 + 8 * area_of v + page) + k)).cached) event
    (elim off [ inl low ↦ inl low | inr high ↦ inr (omega arith) ])

page_fits : (page i : ℕ) → page < 5 → i < FRAME_WORDS → i < part_words page
page_fits page i p lt = grind (arith)

-- the page that was copied reads as the saved one
copied_page : (v page : ℕ) (f g : ℕ → Word) (saved : ℕ → ℕ → ℕ) → CopiesBack v page f g → PartsAre (λ part. Clean) f (area_place (area_of v)) saved → page < 5 → (i : ℕ) → i < FRAME_WORDS → (g (running_place page i)).cached ≡ saved page i
copied_page v page f g saved event area p i lt =
    burst_cached f g (frame_place (2 * page)) 512 i (λ k. (f (frame_place (16 + 8 * area_of v + page) + k)).cached) event lt
    ∙ (area page i (omega arith) (page_fits page i p lt)).0

-- the pages that are copied back read as the saved ones
abbrev pub AreCopied : ℕ → (ℕ → Word) → (ℕ → ℕ → ℕ) → Type 0
AreCopied copied g saved = (page i : ℕ) → page < copied → page < 5 → i < FRAME_WORDS → (g (running_place page i)).cached ≡ saved page i

pub copied_before : (copied : ℕ) (f : ℕ → Word) (saved : ℕ → ℕ → ℕ) → ((page i : ℕ) → page < 5 → i < FRAME_WORDS → WordIs 0 (if nat_lt page copied then Cached else Any) (f (running_place page i)) (saved page i)) → AreCopied copied f saved
copied_before copied f saved known = λ page i below p lt. let test : nat_lt page copied ≡ true = grind (arith, nat_tests) in rw test at (known page i p lt)

copied_after : (copied : ℕ) (g : ℕ → Word) (saved : ℕ → ℕ → ℕ) → AreCopied copied g saved → (page i : ℕ) → page < 5 → i < FRAME_WORDS → WordIs 0 (if nat_lt page copied then Cached else Any) (g (running_place page i)) (saved page i)
copied_after copied g saved are = λ page i p lt. ⊎_elim
    (λ (below : page < copied). let test : nat_lt page copied ≡ true = grind (arith, nat_tests) in rw test (are page i below p lt))
    (λ (left : copied ≤ page). let test : nat_lt page copied ≡ false = grind (arith, nat_tests) in rw test tt)
    (cases_lt page copied)

pub one_more_copied : (v page : ℕ) (f g : ℕ → Word) (saved : ℕ → ℕ → ℕ) → CopiesBack v page f g → PartsAre (λ part. Clean) f (area_place (area_of v)) saved → page < 5 → AreCopied page f saved → AreCopied (page + 1) g saved
one_more_copied v page f g saved event area p are = λ k i below q lt. ⊎_elim
    (λ (earlier : k < page). (off_copy v page f g event (running_place k i) (inl (omega arith))).cached ∙ are k i earlier q lt)
    (λ (here : page ≤ k). let at : k ≡ page = omega arith in subst (λ (t : ℕ). (g (running_place t i)).cached ≡ saved t i) (sym at) (copied_page v page f g saved event area p i lt))
    (cases_lt k page)

-- all else stays
pub recovered_words : (copied page v : ℕ) (f g : ℕ → Word) (now saved : ℕ → ℕ → ℕ) (rk : ℕ → Kind) → CopiesBack v page f g → page < 5 → WordsShow (Recover copied) f v now saved
    → ((k i : ℕ) → k < 5 → i < FRAME_WORDS → WordIs 0 (rk k) (g (running_place k i)) (now k i))
    → WordsAre Clean format_word Clean v (λ part. Clean) (λ part. Any) rk g v now saved
recovered_words copied page v f g now saved rk event p known running =
    let version = calm_word 0 Clean (f 1) (g 1) v (off_copy v page f g event 1 (inl (omega arith))) known.version in
    record {
      format = calm_word 0 Clean (f 0) (g 0) format_word (off_copy v page f g event 0 (inl (omega arith))) known.format;
      version = version;
      version_durable = version.1;
      table = λ i low high. calm_word 0 Clean (f i) (g i) 0 (off_copy v page f g event i (inl (omega arith))) (known.table i low high);
      saved_area = parts_calm (λ part. Clean) f g (area_place (area_of v)) saved (λ part i q lt. off_copy v page f g event (area_place (area_of v) part i) (inr (omega arith))) known.saved_area;
      other_area = λ part i q lt. tt;
      running = running;
      record_rest = rest_calm f g (λ area i a low high. off_copy v page f g event (area_place area 5 i) (inr (omega arith))) known.record_rest;
    }

pub some_recovered : (page v : ℕ) (f g : ℕ → Word) (now saved : ℕ → ℕ → ℕ) → now ≡ saved → CopiesBack v page f g → page < 5 → WordsShow (Recover page) f v now saved → WordsShow (Recover (page + 1)) g v now saved
some_recovered page v f g now saved same event p known =
    let before = copied_before page f saved (subst (λ (ws : ℕ → ℕ → ℕ). (k i : ℕ) → k < 5 → i < FRAME_WORDS → WordIs 0 (if nat_lt k page then Cached else Any) (f (running_place k i)) (ws k i)) same known.running) in
    let after = one_more_copied v page f g saved event known.saved_area p before in
    recovered_words page page v f g now saved (λ k. if nat_lt k (page + 1) then Cached else Any) event p known
    (subst (λ (ws : ℕ → ℕ → ℕ). (k i : ℕ) → k < 5 → i < FRAME_WORDS → WordIs 0 (if nat_lt k (page + 1) then Cached else Any) (g (running_place k i)) (ws k i)) (sym same) (copied_after (page + 1) g saved after))

pub all_recovered : (page v : ℕ) (f g : ℕ → Word) (now saved : ℕ → ℕ → ℕ) → now ≡ saved → CopiesBack v page f g → page < 5 → 5 ≤ page + 1 → WordsShow (Recover page) f v now saved → WordsShow Up g v now saved
all_recovered page v f g now saved same event p all known =
    let before = copied_before page f saved (subst (λ (ws : ℕ → ℕ → ℕ). (k i : ℕ) → k < 5 → i < FRAME_WORDS → WordIs 0 (if nat_lt k page then Cached else Any) (f (running_place k i)) (ws k i)) same known.running) in
    let after = one_more_copied v page f g saved event known.saved_area p before in
    recovered_words page page v f g now saved (λ k. Cached) event p known
    (λ k i q lt. after k i (omega arith) q lt ∙ ap (λ (ws : ℕ → ℕ → ℕ). ws k i) (sym same))

-- a recovery copies one of the five pages
pub page_below : (stage : Stage) (page : ℕ) → stage ≡ Recover page → IsTrue (is_stage stage) → page < 5
page_below stage page e is = let h = subst (λ (t : Stage). IsTrue (is_stage t)) e is in grind (arith, nat_tests, h)

pub area_is : (v : ℕ) (u : Word) {area version : ℕ} → area ≡ area_of version → version ≡ u.durable → u.durable ≡ v → area ≡ area_of v
area_is v u e is durable = e ∙ ap area_of (is ∙ durable)

pub copies_back : (v page : ℕ) (f g : ℕ → Word) (area from to : ℕ) → area ≡ area_of v → from ≡ 16 + 8 * area + page → to ≡ 2 * page
    → ((p : ℕ) → g p ≡ bursts (frame_place to) 512 (λ k. (f (frame_place from + k)).cached) f p) → CopiesBack v page f g
copies_back v page f g area from to area_at from_at to_at event =
    subst (λ (x : ℕ). (p : ℕ) → g p ≡ bursts (frame_place (2 * page)) 512 (λ k. (f (frame_place (16 + 8 * x + page) + k)).cached) f p) area_at
    (subst (λ (x : ℕ). (p : ℕ) → g p ≡ bursts (frame_place (2 * page)) 512 (λ k. (f (frame_place x + k)).cached) f p) from_at
    (subst (λ (x : ℕ). (p : ℕ) → g p ≡ bursts (frame_place x) 512 (λ k. (f (frame_place from + k)).cached) f p) to_at event))

-- the record of the saved area is that of the saved state
pub saved_record : (v frame area : ℕ) (g : ℕ → Word) (saved : ℕ → ℕ → ℕ) (accepted : ℕ → ℕ) (s : State) → area ≡ area_of v → frame ≡ 16 + 8 * area + 5 → PartsAre (λ part. Clean) g (area_place (area_of v)) saved → AreState saved accepted s
    → (i : ℕ) → i < 21 → (g (frame_place frame + i)).cached ≡ record_word s.thread (put_count s) i
saved_record v frame area g saved accepted s area_at frame_at known is i lt =
    let at : frame_place frame + i ≡ area_place (area_of v) 5 i = ap (λ (x : ℕ). frame_place x + i) (frame_at ∙ ap (λ (x : ℕ). 16 + 8 * x + 5) area_at) in
    ap (λ (x : ℕ). (g x).cached) at ∙ ((known 5 i (omega arith) lt).0 ∙ is.thread_record i lt)

-- what is read of it is what runs
pub runs_again : (s now : State) (thread : RunThread) (put : List ℕ) → now ≡ s → (thread ≡ s.thread) × ((c : ℕ) → c < 4 → slice_index put c ≡ put_count s c) → IsRunning thread put now
runs_again s now thread put same read = subst (λ (t : State). IsRunning thread put t) (sym same) (record { thread_is = read.0; put_is = read.1 })
