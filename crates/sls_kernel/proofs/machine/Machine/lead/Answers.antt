use Rattle.std.proofs.Common.{◌≡◌, inr, ℕ, ◌+◌, ◌≤◌, ◌∙◌, ap, sym, refl, subst, arith}
use Rattle.sls_base.specs.declared.limits.TheConstants.{LAST_VERSION}
use Rattle.pmem_model.specs.Words.{Word}
use Rattle.pmem_model.specs.Memory.{word_at, count_up}
use Rattle.pmem_model.specs.Events.{Cached, Ready, Clean, WordCalm, burst_off, flush_in, flush_calm, fence_all, fence_word, calm_word}
use Rattle.sls_kernel.specs.Words.{area_of, area_place}
use Rattle.sls_kernel.specs.Stages.{checkpoint_next, step_after, kind_after, save_kind}
use Rattle.sls_kernel.specs.Areas.{PartsAre, IsOffArea}
use Rattle.sls_kernel.specs.declared.stage.Stage.TheVariants.{Checkpoint}
use Rattle.sls_kernel.specs.declared.stage.CheckpointStep.TheVariants.{Save, StoreVersion, FlushVersion, FenceVersion, FenceAgain}
use Rattle.sls_kernel.proofs.Facts.{words_at, stage_at, shows_on, words_above, words_fenced, parts_fenced, fence_same, fence_more, counted_commit, checkpoint_saved, record_is, rest_calm, shows_saving, stores_calm, off_area_table}
use Rattle.sls_kernel.proofs.machine.Machine.lead.Goals as goal

pub returns-in-Save-clause-world : goal.returns-in-Save-clause-world
returns-in-Save-clause-world c = λ w s.
    let m = c.args.self.now in
    let step = c.in-Save.step in
    let e = c.requires ∙ ap Checkpoint c.in-Save.is in
    let known = words_at m w s (Checkpoint (Save step)) e in
    let at = stage_at m w s (Checkpoint (Save step)) e in
    let f = word_at m.nvm in
    let g = word_at c.save.new.nvm in
    let area : c.area_of_version-area.result ≡ area_of (w.version + 1) = c.area_of_version-area.ensures.area ∙ ap area_of at.1.next_is in
    let calm = subst (λ (a : ℕ). (i : ℕ) → IsOffArea a i → WordCalm (f i) (g i)) area c.save.ensures.rest in
    let next : c.checkpoint_after-self.result ≡ checkpoint_next (step_after step) = c.checkpoint_after-self.ensures ∙ ap checkpoint_next c.after.ensures in
    let record_of = record_is s.now_words m.thread m.put w.now _ at.0 s.now_is in
    let saved = subst (λ (a : ℕ). PartsAre (save_kind step) f (area_place a) s.now_words → PartsAre (kind_after (step_after step)) g (area_place a) s.now_words) area
    (c.save.ensures.saved s.now_words known.running record_of) in
    let rest = stores_calm c.area_of_version-area.result s.now_words f g c.area_of_version-area.ensures.range (c.save.ensures.stores s.now_words known.running record_of) in
    let words = checkpoint_saved (step_after step) step f g w.version s.now_words s.saved_words calm rest (saved known.other_area) known in
    let same = calm_word 0 Clean (f 1) (g 1) w.version (calm 1 (off_area_table _ 1 (omega arith))) known.version in
    (tt, shows_saving m _ w s (step_after step) next refl (c.save.ensures.counts (same.1 ∙ sym known.version_durable)) words at.0 at.1)

pub returns-in-StoreVersion-clause-world : goal.returns-in-StoreVersion-clause-world
returns-in-StoreVersion-clause-world c = λ w s.
    let m = c.args.self.now in
    let e = c.requires ∙ ap Checkpoint c.in-StoreVersion.is in
    let known = words_at m w s (Checkpoint StoreVersion) e in
    let at = stage_at m w s (Checkpoint StoreVersion) e in
    let f = word_at m.nvm in
    let g = word_at c.store_word.new.nvm in
    let stored = c.store_word.ensures.words in (
      tt,
      shows_on m _ w s refl c.store_word.ensures.counts
          (words_above _ _ _ _ _ _ _ _ _ _ _ f g w.version s.now_words s.saved_words
          (ap (λ (u : Word). u.cached) (stored 0) ∙ known.format.0, ap (λ (u : Word). u.durable) (stored 0) ∙ known.format.1)
          (ap (λ (u : Word). u.cached) (stored 1) ∙ at.1.next_is)
          (ap (λ (u : Word). u.durable) (stored 1) ∙ known.version_durable)
          (λ i low. burst_off f g 1 1 i (λ k. m.next) stored (inr (omega arith)))
          known)
          at,
    )

pub returns-in-FlushVersion-clause-world : goal.returns-in-FlushVersion-clause-world
returns-in-FlushVersion-clause-world c = λ w s.
    let m = c.args.self.now in
    let e = c.requires ∙ ap Checkpoint c.in-FlushVersion.is in
    let known = words_at m w s (Checkpoint FlushVersion) e in
    let at = stage_at m w s (Checkpoint FlushVersion) e in
    let f = word_at m.nvm in
    let g = word_at c.flush_first_line.new.nvm in
    let flushed = c.flush_first_line.ensures.words in
    let calm = flush_calm f g 0 0 8 flushed in (
      tt,
      shows_on m _ w s refl c.flush_first_line.ensures.counts
          (words_above _ _ _ _ _ _ _ _ _ _ _ f g w.version s.now_words s.saved_words
          (calm_word 0 Clean (f 0) (g 0) _ (calm 0) known.format)
          (flush_in 0 Cached f g 0 8 1 (w.version + 1) flushed (omega arith) known.version)
          (ap (λ (u : Word). u.durable) (flushed 1) ∙ known.version_durable)
          (λ i low. calm i)
          known)
          at,
    )

pub returns-in-FenceVersion-clause-world : goal.returns-in-FenceVersion-clause-world
returns-in-FenceVersion-clause-world c = λ w s.
    let m = c.args.self.now in
    let e = c.requires ∙ ap Checkpoint c.in-FenceVersion.is in
    let known = words_at m w s (Checkpoint FenceVersion) e in
    let at = stage_at m w s (Checkpoint FenceVersion) e in
    let f = word_at m.nvm in
    let n = c.fence.new.nvm in
    let g = word_at n in
    let fenced = fence_all f g 0 c.fence.ensures.words in
    let version = fence_word 0 Ready (f 1) (g 1) (w.version + 1) (fenced 1) known.version in
    let fits = subst (λ (v : ℕ). v ≤ LAST_VERSION) at.1.next_is at.1.in_range in (
      (at.1.next_is, at.1.in_range),
      record {
        now_words = s.now_words;
        saved_words = s.now_words;
        now_is = s.now_is;
        saved_is = s.now_is;
        words = record {
          format = fence_word 0 Clean (f 0) (g 0) _ (fenced 0) known.format;
          version = version;
          version_durable = version.1;
          table = λ i low high. fence_word 0 Clean (f i) (g i) 0 (fenced i) (known.table i low high);
          saved_area = parts_fenced (λ part. Clean) f g (area_place (area_of (w.version + 1))) s.now_words fenced known.other_area;
          other_area = λ part i p lt. tt;
          running = λ page i p lt. fence_word 0 Cached (f _) (g _) (s.now_words page i) (fenced _) (known.running page i p lt);
          record_rest = rest_calm f g (λ area i a low high. (fenced (area_place area 5 i)).calm) known.record_rest;
        };
        counted = counted_commit m.accepted w s.counted fits;
        counts = record {
          commits = fence_more m.nvm n w.version c.fence.ensures.commits known.version_durable version.1 ∙ ap count_up s.counts.commits;
          cuts = c.fence.ensures.cuts ∙ s.counts.cuts;
        };
        stage = at.0;
      },
    )

pub returns-in-FenceAgain-clause-world : goal.returns-in-FenceAgain-clause-world
returns-in-FenceAgain-clause-world c = λ w s.
    let m = c.args.self.now in
    let e = c.requires ∙ ap Checkpoint c.in-FenceAgain.is in
    let known = words_at m w s (Checkpoint FenceAgain) e in
    let at = stage_at m w s (Checkpoint FenceAgain) e in
    let f = word_at m.nvm in
    let n = c.fence-in-FenceAgain.new.nvm in
    let g = word_at n in
    let fenced = fence_all f g 0 c.fence-in-FenceAgain.ensures.words in
    let version = fence_word 0 Clean (f 1) (g 1) w.version (fenced 1) known.version in (
      tt,
      shows_on m _ w s refl (fence_same m.nvm n c.fence-in-FenceAgain.ensures.commits c.fence-in-FenceAgain.ensures.cuts (version.1 ∙ sym known.version_durable))
          (words_fenced _ _ _ _ _ _ _ f g w.version s.now_words s.saved_words fenced version.1 known)
          at.0,
    )
