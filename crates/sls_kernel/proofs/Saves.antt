-- What the steps of saving make of the words of an area.
use Rattle.std.proofs.Common.{◌≡◌, ◌≢◌, inl, inr, ℕ, ◌+◌, ◌*◌, ◌<◌, ◌≤◌, ◌∙◌, nat_lt, sym, ap, refl, IsTrue, subst, true, false, cond, arith, ⊎_elim}
use Rattle.std.proofs.lemmas.Bool.{cases_Bool, cases_lt, cases_order}
use Rattle.std.proofs.lemmas.Bool.Decides.{nat_tests}
use Rattle.pmem_model.specs.Words.{Word, is_within, bursts, flushes}
use Rattle.pmem_model.specs.Events.{Kind, Any, Cached, Ready, WordIs, WordCalm, Apart, calm_word, burst_off, burst_cached, flush_calm, flush_in, inside_of, calm_same}
use Rattle.sls_kernel.specs.Words.{frame_place, area_place, part_words}
use Rattle.sls_kernel.specs.Areas.{PartsAre, AreRunningWords, StoresPart}
use Rattle.sls_kernel.specs.Stages.{is_save_step, save_kind, kind_after, step_after}
use Rattle.sls_kernel.specs.declared.stage.SaveStep.{SaveStep}
use Rattle.sls_kernel.specs.declared.stage.SaveStep.TheVariants.{Copy, Record, Flush}

-- the kinds of parts of which those below a number are done
abbrev kind_below : Kind → Kind → ℕ → ℕ → Kind
kind_below done left count part = cond (nat_lt part count) done left

below_done : (done left : Kind) (count part : ℕ) → part < count → kind_below done left count part ≡ done
below_done done left count part h = let e : nat_lt part count ≡ true = grind (arith, nat_tests) in rw e

below_left : (done left : Kind) (count part : ℕ) → count ≤ part → kind_below done left count part ≡ left
below_left done left count part h = let e : nat_lt part count ≡ false = grind (arith, nat_tests) in rw e

-- the kinds after a copy, the record and a flush
after_copy : (page part : ℕ) → page < 5 → kind_after (step_after (Copy page)) part ≡ kind_below Cached Any (page + 1) part
after_copy page part h =
    ⊎_elim
    (λ (low : page + 1 < 5). let e : nat_lt (page + 1) 5 ≡ true = grind (arith, nat_tests) in rw e)
    (λ (high : 5 ≤ page + 1). let e : nat_lt (page + 1) 5 ≡ false = grind (arith, nat_tests) in let k : page + 1 ≡ 5 = omega arith in rw (e, k))
    (cases_lt (page + 1) 5)

after_record : (part : ℕ) → part < 6 → kind_after (step_after Record) part ≡ kind_below Cached Any 6 part
after_record part h = below_left Ready Cached 0 part (omega arith) ∙ sym (below_done Cached Any 6 part h)

after_flush : (flushed part : ℕ) → flushed < 6 → part < 6 → kind_after (step_after (Flush flushed)) part ≡ kind_below Ready Cached (flushed + 1) part
after_flush flushed part h inside =
    ⊎_elim
    (λ (low : flushed + 1 < 6). let e : nat_lt (flushed + 1) 6 ≡ true = grind (arith, nat_tests) in rw e)
    (λ (high : 6 ≤ flushed + 1). let e : nat_lt (flushed + 1) 6 ≡ false = grind (arith, nat_tests) in rw e (sym (below_done Ready Cached (flushed + 1) part (omega arith))))
    (cases_lt (flushed + 1) 6)

part_fits : (part i : ℕ) → i < part_words part → i < 512
part_fits part i h = grind (arith, nat_tests)

page_fits : (page : ℕ) → page < 5 → part_words page ≤ 512
page_fits page h = grind (arith, nat_tests)

-- a word of one part is not among those of another
parts_apart : (area one part i n : ℕ) → part ≢ one → i < 512 → n ≤ 512 → Apart (frame_place (16 + 8 * area + one)) n (area_place area part i)
parts_apart area one part i n other h fits = elim (cases_lt part one) [ inl low ↦ inl (omega arith) | inr high ↦ inr (omega arith) ]

-- a burst makes one part read so, and the parts below it still do
burst_fills : (f g : ℕ → Word) (area frame at part n : ℕ) (value : ℕ → ℕ) (words : ℕ → ℕ → ℕ)
    → frame ≡ 16 + 8 * area + part
    → at ≡ frame_place frame
    → n ≤ 512
    → part_words part ≤ n
    → ((p : ℕ) → g p ≡ bursts at n value f p)
    → ((i : ℕ) → i < part_words part → value i ≡ words part i)
    → PartsAre (kind_below Cached Any part) f (area_place area) words
    → PartsAre (kind_below Cached Any (part + 1)) g (area_place area) words
burst_fills f g area frame at part n value words is_frame begins fits long burst is before one i inside lt =
    let near = part_fits one i lt in
    let stored : (p : ℕ) → g p ≡ bursts (frame_place (16 + 8 * area + part)) n value f p = rw (begins, is_frame) at burst in
    elim (cases_order one part) [
      | inl same ↦
          let e = burst_cached f g (frame_place (16 + 8 * area + part)) n i value stored (omega (arith, rw same at lt)) in
          rw (below_done Cached Any (part + 1) one (omega arith), same) (e ∙ is i (rw same at lt))
      | inr (inl low) ↦
          rw (below_done Cached Any (part + 1) one (omega arith))
          (calm_word 0 Cached _ _ _ (burst_off f g _ n (area_place area one i) value stored (parts_apart area part one i n (grind arith) near fits)) (rw (below_done Cached Any part one low) at (before one i inside lt)))
      | inr (inr high) ↦ rw (below_left Cached Any (part + 1) one (omega arith)) tt
    ]

-- a flush makes one part ready, and the parts below it still are
flush_readies : (f g : ℕ → Word) (area frame part : ℕ) (words : ℕ → ℕ → ℕ)
    → frame ≡ 16 + 8 * area + part
    → ((p : ℕ) → g p ≡ flushes 0 (frame_place frame) 512 f p)
    → PartsAre (kind_below Ready Cached part) f (area_place area) words
    → PartsAre (kind_below Ready Cached (part + 1)) g (area_place area) words
flush_readies f g area frame part words is_frame flush before one i inside lt =
    let near = part_fits one i lt in
    let marked : (p : ℕ) → g p ≡ flushes 0 (frame_place (16 + 8 * area + part)) 512 f p = rw is_frame at flush in
    let calm : WordCalm (f (area_place area one i)) (g (area_place area one i)) = flush_calm f g 0 _ 512 marked (area_place area one i) in
    let was = before one i inside lt in
    elim (cases_order one part) [
      | inl same ↦
          let read : WordIs 0 Cached (f (area_place area one i)) (words one i) = rw (below_left Ready Cached part one (omega arith)) at was in
          rw (below_done Ready Cached (part + 1) one (omega arith), same)
          (flush_in 0 Cached f g (frame_place (16 + 8 * area + part)) 512 i (words part i) marked near (rw same at read))
      | inr (inl low) ↦
          rw (below_done Ready Cached (part + 1) one (omega arith)) (calm_word 0 Ready _ _ _ calm (rw (below_done Ready Cached part one low) at was))
      | inr (inr high) ↦
          rw (below_left Ready Cached (part + 1) one (omega arith)) (calm_word 0 Cached _ _ _ calm (rw (below_left Ready Cached part one (omega arith)) at was))
    ]

-- a burst over a part stores what the part has there
pub burst_stores : (f g : ℕ → Word) (area frame at part n : ℕ) (value : ℕ → ℕ) (words : ℕ → ℕ → ℕ)
    → frame ≡ 16 + 8 * area + part
    → at ≡ frame_place frame
    → part < 6
    → n ≤ part_words part
    → ((p : ℕ) → g p ≡ bursts at n value f p)
    → ((i : ℕ) → i < n → value i ≡ words part i)
    → (p : ℕ) → StoresPart area words f g p
burst_stores f g area frame at part n value words is_frame begins inside fits burst is p =
    let stored : (k : ℕ) → g k ≡ bursts (frame_place (16 + 8 * area + part)) n value f k = rw (begins, is_frame) at burst in
    ⊎_elim
    (λ (yes : is_within (frame_place (16 + 8 * area + part)) n p ≡ true).
    let found = inside_of (frame_place (16 + 8 * area + part)) n p yes in
    inr (record {
      part = part;
      place = found.0;
      is_part = inside;
      inside = omega (arith, found.1);
      at = sym found.2;
      cached = subst (λ (k : ℕ). (g k).cached ≡ words part found.0) found.2 (burst_cached f g (frame_place (16 + 8 * area + part)) n found.0 value stored found.1 ∙ is found.0 found.1);
      durable = ap (λ (w : Word). w.durable) (rw yes at (stored p));
    }))
    (λ (off : is_within (frame_place (16 + 8 * area + part)) n p ≡ false). inl (calm_same (f p) (g p) (rw off at (stored p))))
    (cases_Bool (is_within (frame_place (16 + 8 * area + part)) n p))

-- Each step saves its part.
pub copy_saves : (f g : ℕ → Word) (area from frame page : ℕ) (step : SaveStep) (words : ℕ → ℕ → ℕ)
    → step ≡ Copy page
    → IsTrue (is_save_step step)
    → from ≡ 2 * page
    → frame ≡ 16 + 8 * area + page
    → ((p : ℕ) → g p ≡ bursts (frame_place frame) 512 (λ k. (f (frame_place from + k)).cached) f p)
    → AreRunningWords words f
    → PartsAre (save_kind step) f (area_place area) words
    → PartsAre (kind_after (step_after step)) g (area_place area) words
copy_saves f g area from frame page step words is in_range is_from is_frame burst run before part i inside lt =
    let copied : IsTrue (nat_lt page 5) = rw is at in_range in
    let low : page < 5 = grind (arith, nat_tests) in
    let was : PartsAre (kind_below Cached Any page) f (area_place area) words = rw is at before in
    rw (is, after_copy page part low)
    (burst_fills f g area frame (frame_place frame) page 512 (λ k. (f (frame_place from + k)).cached) words is_frame refl (omega arith) (page_fits page low) burst
    (λ k h. rw is_from (run page k low (part_fits page k h)))
    was part i inside lt)

pub record_saves : (f g : ℕ → Word) (area frame at n : ℕ) (step : SaveStep) (value : ℕ → ℕ) (words : ℕ → ℕ → ℕ)
    → step ≡ Record
    → frame ≡ 16 + 8 * area + 5
    → at ≡ frame_place frame
    → n ≡ 21
    → ((p : ℕ) → g p ≡ bursts at n value f p)
    → ((i : ℕ) → i < 21 → value i ≡ words 5 i)
    → PartsAre (save_kind step) f (area_place area) words
    → PartsAre (kind_after (step_after step)) g (area_place area) words
record_saves f g area frame at n step value words is is_frame begins len burst reads before part i inside lt =
    let was : PartsAre (kind_below Cached Any 5) f (area_place area) words = rw is at before in
    rw (is, after_record part inside)
    (burst_fills f g area frame at 5 n value words is_frame begins (omega arith) (omega arith) burst reads was part i inside lt)

pub flush_saves : (f g : ℕ → Word) (area frame flushed : ℕ) (step : SaveStep) (words : ℕ → ℕ → ℕ)
    → step ≡ Flush flushed
    → IsTrue (is_save_step step)
    → frame ≡ 16 + 8 * area + flushed
    → ((p : ℕ) → g p ≡ flushes 0 (frame_place frame) 512 f p)
    → PartsAre (save_kind step) f (area_place area) words
    → PartsAre (kind_after (step_after step)) g (area_place area) words
flush_saves f g area frame flushed step words is in_range is_frame flush before part i inside lt =
    let part_of : IsTrue (nat_lt flushed 6) = rw is at in_range in
    let low : flushed < 6 = grind (arith, nat_tests) in
    let was : PartsAre (kind_below Ready Cached flushed) f (area_place area) words = rw is at before in
    rw (is, after_flush flushed part low inside) (flush_readies f g area frame flushed words is_frame flush was part i inside lt)
