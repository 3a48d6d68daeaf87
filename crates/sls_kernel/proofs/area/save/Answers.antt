use Rattle.std.proofs.Common.{◌<◌, arith, sym, ◌∙◌, inl, slice_index}
use Rattle.pmem_model.specs.Memory.{word_at}
use Rattle.pmem_model.specs.Events.{flush_calm}
use Rattle.sls_kernel.proofs.Saves.{burst_stores, copy_saves, record_saves, flush_saves}
use Rattle.sls_kernel.proofs.area.save.Goals as goal

pub returns-in-Copy-clause-saved : goal.returns-in-Copy-clause-saved
returns-in-Copy-clause-saved c = λ words run is.
    copy_saves (word_at c.args.nvm.now) (word_at c.copy.new.nvm) c.args.area c.running_frame.result c.area_frame.result c.in-Copy.page c.args.step words
    c.in-Copy.is c.requires.step c.running_frame.ensures c.area_frame.ensures c.copy.ensures.words run

pub returns-in-Record-clause-stores : goal.returns-in-Record-clause-stores
returns-in-Record-clause-stores c = λ words run is.
    burst_stores (word_at c.args.nvm.now) (word_at c.store.new.nvm) c.args.area _ _ 5 _ (slice_index c.fill.new.words) words
    c.area_frame-in-Record.ensures (omega arith) (omega arith) (omega arith) c.store.ensures.words
    (λ i lt. let near : i < 21 = omega arith in c.fill.ensures i near ∙ sym (is i near))

pub returns-in-Record-clause-saved : goal.returns-in-Record-clause-saved
returns-in-Record-clause-saved c = λ words run is.
    record_saves (word_at c.args.nvm.now) (word_at c.store.new.nvm) c.args.area _ _ _ c.args.step (slice_index c.fill.new.words) words
    c.in-Record.is c.area_frame-in-Record.ensures (omega arith) (omega arith) c.store.ensures.words
    (λ i near. c.fill.ensures i near ∙ sym (is i near))

pub returns-in-Flush-clause-stores : goal.returns-in-Flush-clause-stores
returns-in-Flush-clause-stores c = λ words run is i. inl (flush_calm (word_at c.args.nvm.now) (word_at c.flush.new.nvm) 0 _ 512 c.flush.ensures.words i)

pub returns-in-Flush-clause-saved : goal.returns-in-Flush-clause-saved
returns-in-Flush-clause-saved c = λ words run is.
    flush_saves (word_at c.args.nvm.now) (word_at c.flush.new.nvm) c.args.area _ c.in-Flush.part c.args.step words
    c.in-Flush.is c.requires.step c.area_frame-in-Flush.ensures c.flush.ensures.words
