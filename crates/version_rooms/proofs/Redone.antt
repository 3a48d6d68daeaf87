-- Numbers whose log is redone.
use Rattle.std.specs.Prelude.{◌≡◌, ℕ, Bool, true, false, if◌then◌else◌}
use Rattle.std.proofs.Common.{refl}
use Rattle.pmem_model.specs.Words.{Word}
use Rattle.alloc_journal.specs.declared.journal.Stage.{Stage}
use Rattle.alloc_journal.specs.declared.journal.Stage.TheVariants as stages
use Rattle.alloc_journal.specs.Work.{Work, as_committed, is_logged, is_redo}
use Rattle.alloc_journal.specs.Shows.{NumbersShow}

not_logged : (stage : Stage) → is_redo stage ≡ true → is_logged stage ≡ false
not_logged stages.Unformatted h = absurd (cc)
not_logged stages.FirstStored h = absurd (cc)
not_logged stages.FirstInFlight h = absurd (cc)
not_logged stages.Rest h = absurd (cc)
not_logged stages.StoringEntries h = absurd (cc)
not_logged stages.EntriesInFlight h = absurd (cc)
not_logged stages.EntriesDurable h = absurd (cc)
not_logged stages.HeadStored h = absurd (cc)
not_logged stages.HeadInFlight h = absurd (cc)
not_logged stages.Logged h = absurd (cc)
not_logged stages.Redoing h = refl
not_logged stages.BaseInFlight h = refl
not_logged stages.BaseDurable h = refl
not_logged stages.HeadCleared h = refl
not_logged stages.ClearInFlight h = refl

-- they are as if they had just been committed
pub shows_redone : (w : Work) (f : ℕ → Word) (v : ℕ) (saved : ℕ → Bool) → is_redo w.stage ≡ true → NumbersShow w f v saved → NumbersShow (if is_logged w.stage then as_committed w else w) f v saved
shows_redone w f v saved redo h = let e = not_logged w.stage redo in rw e h
