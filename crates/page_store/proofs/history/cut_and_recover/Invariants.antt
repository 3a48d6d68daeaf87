use Rattle.std.proofs.Common.{ℕ, Option, ◌≡◌, ◌+◌}
use Rattle.pmem_model.specs.Memory.{word_at, AllHome, count_by}
use Rattle.page_store.specs.Slots.{durable_words, IsAllClean}
use Rattle.page_store.specs.Format.{PagesStand}
use Rattle.page_store.specs.Known.{Open}
use Rattle.page_store.specs.Shows.{PagesShow}
use Rattle.page_store.proofs.history.cut_and_recover.Given as goal

abbrev pub invariant-loop-steps : goal.invariant-loop-steps
invariant-loop-steps l = record {
  cuts : l.nvm.cuts ≡ count_by l.fn.nvm.cuts (1 + l.steps-index);
  home : AllHome l.nvm;
  clean : IsAllClean (word_at l.nvm);
  stands : (saved now : ℕ → Option (ℕ → ℕ)) → PagesShow l.fn.pages (word_at l.fn.nvm) l.version saved now Open
      → PagesStand (durable_words (word_at l.nvm)) l.version saved;
}
