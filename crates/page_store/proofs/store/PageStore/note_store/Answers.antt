use Rattle.std.proofs.Common.{ℕ, ◌+◌, ◌∙◌, refl, sym, subst, inl, arith, Option, Some}
use Rattle.pmem_layout.specs.Places.{runtime_frame, frame_at}
use Rattle.page_store.specs.Known.{Open}
use Rattle.page_store.specs.Shows.{PageShows, after_store, with_words, words_of}
use Rattle.page_store.specs.declared.stage.PageStage.TheVariants.{Writable}
use Rattle.page_store.specs.declared.stage.Writes.TheVariants.{Stored}
use Rattle.page_store.proofs.Moves.{burst_in_page, step, at_stage, page_here, page_elsewhere}
use Rattle.page_store.proofs.Steps.{stored_on}
use Rattle.page_store.proofs.store.PageStore.note_store.Goals as goal

pub returns-in-Writable-clause-shows : goal.returns-in-Writable-clause-shows
returns-in-Writable-clause-shows c = λ f g v saved now at count value fits burst h.
    let page = c.args.page in
    let origin = c.in-Writable.origin in
    let content : Option (ℕ → ℕ) = Some (with_words (words_of (now page)) at count value) in
    step v page (Writable origin Stored) saved now saved (after_store now page at count value) Open c.enter.ensures
    (burst_in_page page (frame_at (runtime_frame page) + at) count value burst.words
    (λ j lt. inl (omega arith, omega (arith, lt, fits)))) c.requires.page
    (λ i other. (refl, page_elsewhere now page content i other)) h
    (subst (λ (x : Option (ℕ → ℕ)). PageShows (Writable origin Stored) g v page (saved page) x Open) (sym (page_here now page content))
    (stored_on origin _ at count value c.requires.page fits burst.words
    (at_stage page (Writable origin _) c.requires.page (sym c.stage.ensures ∙ c.in-Writable.is) h)))
