use Rattle.std.proofs.Common.{◌≡◌, ◌<◌, ℕ, Option}
use Rattle.std.specs.Prelude.{is_some}
use Rattle.sls_base.specs.declared.limits.TheConstants.{PAGES}
use Rattle.pmem_model.specs.Words.{Word}
use Rattle.object_records.specs.Records.{record_at}
use Rattle.object_records.specs.Pages.{is_content}
use Rattle.page_store.specs.Known.{Open}
use Rattle.page_store.specs.Shows.{PagesShow}
use Rattle.page_store.specs.Stages.{IsAsRecovered, IsSettled, stage_of}
use Rattle.page_store.specs.Back.{filled}
use Rattle.tree_restore.specs.Contents.{first_of}
use Rattle.tree_restore.proofs.contents.forget_others.Given as goal

abbrev pub invariant-loop-page : goal.invariant-loop-page
invariant-loop-page l = record {
  settled : ((page : ℕ) → page < PAGES → IsSettled (stage_of l.initial.pages page))
      → (page : ℕ) → page < PAGES → IsSettled (stage_of l.pages page);
  recovered : (page : ℕ) → page < PAGES → IsAsRecovered (stage_of l.initial.pages page)
      → IsAsRecovered (stage_of l.pages page);
  shows : (f : ℕ → Word) (v : ℕ) (saved : ℕ → Option (ℕ → ℕ))
      → ((page : ℕ) → page < PAGES → is_some (saved page) ≡ is_content (record_at l.objects) page)
      → ((page : ℕ) → page < PAGES → IsSettled (stage_of l.initial.pages page))
      → PagesShow l.initial.pages f v saved (filled saved f) Open
      → PagesShow l.pages f v saved (first_of l.page saved (filled saved f)) Open;
}
