use Rattle.std.proofs.Common.{◌≡◌, inr, ℕ, ◌+◌, ◌∙◌, ap, sym, refl, subst, arith, length, slice_index, List}
use Rattle.pmem_model.specs.Words.{Word, bursts}
use Rattle.pmem_model.specs.Memory.{word_at}
use Rattle.pmem_model.specs.Events.{Clean, Over, burst_off, flush_in, flush_calm, fence_all, fence_word, calm_word}
use Rattle.sls_kernel.specs.Words.{area_place, frame_place}
use Rattle.sls_kernel.specs.Stages.{format_next, step_after, kind_after, save_kind, format_word}
use Rattle.sls_kernel.specs.Areas.{PartsAre}
use Rattle.sls_kernel.specs.Shows.{WordsShow}
use Rattle.sls_kernel.specs.declared.stage.Stage.TheVariants.{Format}
use Rattle.sls_kernel.specs.declared.stage.FormatStep.TheVariants.{Fill, Save, StoreWord, FlushWord, FenceWord}
use Rattle.sls_kernel.proofs.Facts.{words_at, stage_at, shows_on, words_above, words_fenced, fence_same, format_saved, record_is, stores_calm, off_area_table}
use Rattle.sls_kernel.proofs.Formats.{first_version, still_first, part_formats, word_formats, page_formats, page_burst, filled, shows_formatting}
use Rattle.sls_kernel.proofs.WriteBacks.{formatting_calm}
use Rattle.sls_kernel.proofs.machine.Machine.format.Goals as goal

pub returns-in-Fill-clause-world : goal.returns-in-Fill-clause-world
returns-in-Fill-clause-world c = λ w s.
    let m = c.args.self.now in
    let e = c.requires ∙ ap Format c.in-Fill.is in
    let known = words_at m w s (Format Fill) e in
    let at = stage_at m w s (Format Fill) e in
    let f = word_at m.nvm in
    let g = word_at c.store.new.nvm in
    let event : (p : ℕ) → g p ≡ bursts (frame_place 8 + 0) 512 (slice_index m.program.items) f p =
    subst (λ (xs : List ℕ). (p : ℕ) → g p ≡ bursts (frame_place 8 + 0) 512 (slice_index xs) f p) c.deref.ensures.value
    (subst (λ (n : ℕ). (p : ℕ) → g p ≡ bursts (frame_place 8 + 0) n (slice_index c.deref.result.now) f p) (ap length c.deref.ensures.value ∙ m.sized)
    (subst (λ (k : ℕ). (p : ℕ) → g p ≡ bursts (frame_place k + 0) (length c.deref.result.now) (slice_index c.deref.result.now) f p) c.running_frame.ensures c.store.ensures.words)) in
    let each = page_burst m.program.items f g event in (
      tt,
      shows_on m _ w s refl c.store.ensures.counts (filled m.program.items f g w.version s.now_words s.saved_words at.now_is event known)
          (still_first m _ w s.now_words s.saved_words refl refl refl (page_formats m.program.items f g each at.formatting) at),
    )

pub returns-in-Save-clause-world : goal.returns-in-Save-clause-world
returns-in-Save-clause-world c = λ w s.
    let m = c.args.self.now in
    let step = c.in-Save.step in
    let e = c.requires ∙ ap Format c.in-Save.is in
    let known = words_at m w s (Format (Save step)) e in
    let at = stage_at m w s (Format (Save step)) e in
    let zero = first_version m w s.now_words s.saved_words at in
    let f = word_at m.nvm in
    let g = word_at c.save.new.nvm in
    let next : c.format_after-self.result ≡ format_next (step_after step) = c.format_after-self.ensures ∙ ap format_next c.after.ensures in
    let both = at.saved_is ∙ sym at.now_is in
    let record_of = record_is s.now_words m.thread m.put w.now _ at.running s.now_is in
    let at_zero = subst (λ (v : ℕ). WordsShow (Format (Save step)) f v s.now_words s.saved_words) zero known in
    let written = subst (λ (ws : ℕ → ℕ → ℕ). PartsAre (save_kind step) f (area_place 0) ws → PartsAre (kind_after (step_after step)) g (area_place 0) ws) (sym both)
    (c.save.ensures.saved s.now_words known.running record_of) in
    let stores = c.save.ensures.stores s.now_words known.running record_of in
    let rest = stores_calm 0 s.now_words f g (omega arith) stores in
    let words = format_saved (step_after step) step f g s.now_words s.saved_words c.save.ensures.rest rest (written at_zero.saved_area) at_zero in
    let same = calm_word 0 Clean (f 1) (g 1) w.version (c.save.ensures.rest 1 (off_area_table 0 1 (omega arith))) known.version in (
      tt,
      shows_formatting m _ w s (step_after step) next refl refl refl refl (c.save.ensures.counts (same.1 ∙ sym known.version_durable))
          (subst (λ (v : ℕ). WordsShow (format_next (step_after step)) g v s.now_words s.saved_words) (sym zero) words)
          (part_formats m.program.items s.now_words f g at.now_is stores at.formatting) at,
    )

pub returns-in-StoreWord-clause-world : goal.returns-in-StoreWord-clause-world
returns-in-StoreWord-clause-world c = λ w s.
    let m = c.args.self.now in
    let e = c.requires ∙ ap Format c.in-StoreWord.is in
    let known = words_at m w s (Format StoreWord) e in
    let at = stage_at m w s (Format StoreWord) e in
    let f = word_at m.nvm in
    let g = word_at c.store_word.new.nvm in
    let stored = c.store_word.ensures.words in
    let cached = ap (λ (u : Word). u.cached) (stored 0) in
    let durable = ap (λ (u : Word). u.durable) (stored 0) in (
      tt,
      shows_on m _ w s refl c.store_word.ensures.counts
          (words_above _ _ _ _ _ _ _ _ _ _ _ f g w.version s.now_words s.saved_words
          (cached, inr (durable ∙ known.format.1))
          (ap (λ (u : Word). u.cached) (stored 1) ∙ known.version.0, ap (λ (u : Word). u.durable) (stored 1) ∙ known.version.1)
          (ap (λ (u : Word). u.durable) (stored 1) ∙ known.version_durable)
          (λ i low. burst_off f g 0 1 i (λ k. format_word) stored (inr (omega arith)))
          known)
          (still_first m _ w s.now_words s.saved_words refl refl refl (word_formats m.program.items f g cached durable (λ i low. burst_off f g 0 1 i (λ k. format_word) stored (inr (omega arith))) at.formatting) at),
    )

pub returns-in-FlushWord-clause-world : goal.returns-in-FlushWord-clause-world
returns-in-FlushWord-clause-world c = λ w s.
    let m = c.args.self.now in
    let e = c.requires ∙ ap Format c.in-FlushWord.is in
    let known = words_at m w s (Format FlushWord) e in
    let at = stage_at m w s (Format FlushWord) e in
    let f = word_at m.nvm in
    let g = word_at c.flush_first_line.new.nvm in
    let flushed = c.flush_first_line.ensures.words in
    let calm = flush_calm f g 0 0 8 flushed in (
      tt,
      shows_on m _ w s refl c.flush_first_line.ensures.counts
          (words_above _ _ _ _ _ _ _ _ _ _ _ f g w.version s.now_words s.saved_words
          (flush_in 0 (Over 0) f g 0 8 0 _ flushed (omega arith) known.format)
          (calm_word 0 Clean (f 1) (g 1) _ (calm 1) known.version)
          (ap (λ (u : Word). u.durable) (flushed 1) ∙ known.version_durable)
          (λ i low. calm i)
          known)
          (still_first m _ w s.now_words s.saved_words refl refl refl (formatting_calm m.program.items f g calm at.formatting) at),
    )

pub returns-in-FenceWord-clause-world : goal.returns-in-FenceWord-clause-world
returns-in-FenceWord-clause-world c = λ w s.
    let m = c.args.self.now in
    let e = c.requires ∙ ap Format c.in-FenceWord.is in
    let known = words_at m w s (Format FenceWord) e in
    let at = stage_at m w s (Format FenceWord) e in
    let f = word_at m.nvm in
    let n = c.fence.new.nvm in
    let g = word_at n in
    let fenced = fence_all f g 0 c.fence.ensures.words in
    let version = fence_word 0 Clean (f 1) (g 1) w.version (fenced 1) known.version in (
      c.table_durable.ensures ∙ version.1,
      shows_on m _ w s refl (fence_same m.nvm n c.fence.ensures.commits c.fence.ensures.cuts (version.1 ∙ sym known.version_durable))
          (words_fenced _ _ _ _ _ _ _ f g w.version s.now_words s.saved_words fenced version.1 known)
          at.running,
    )
