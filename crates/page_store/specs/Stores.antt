-- What stores in the frames of pages make of the running pages.
use Rattle.std.specs.Prelude.{◌≡◌, ◌⊎◌, ℕ, ◌+◌, ◌<◌, Bool, true, if◌then◌else◌, Option, Some}
use Rattle.sls_base.specs.declared.limits.TheConstants.{FRAME_WORDS, PAGES}
use Rattle.pmem_model.specs.Words.{Word}
use Rattle.pmem_layout.specs.Places.{runtime_frame, frame_at}
use Rattle.page_store.specs.declared.stage.PageStage.{PageStage}
use Rattle.page_store.specs.declared.stage.PageStage.TheVariants.{Writable}
use Rattle.page_store.specs.declared.stage.Writes.TheVariants.{Stored}

-- a word stands in the runtime frame of a page that passes a test
pub record IsInPage (test : ℕ → Bool) (at : ℕ) : Type 0 where
  pub page : ℕ
  pub word : ℕ
  pub passes : test page ≡ true
  pub inside : page < PAGES
  pub within : word < FRAME_WORDS
  pub place : at ≡ frame_at (runtime_frame page) + word

-- no word has changed but there
abbrev pub StoresInPages : (ℕ → Bool) → (ℕ → Word) → (ℕ → Word) → Type 0
StoresInPages test f g = (i : ℕ) → (g i ≡ f i) ⊎ IsInPage test i

-- it was noted that something is stored to the page
abbrev pub IsStored : PageStage → Type 0
IsStored (Writable origin Stored) = Unit {0}
IsStored stage = ⊥

-- the pages that pass the test run as their frames read
abbrev pub after_stores : (ℕ → Bool) → (ℕ → Word) → (ℕ → Option (ℕ → ℕ)) → ℕ → Option (ℕ → ℕ)
after_stores test g now page = if test page then Some (λ j. (g (frame_at (runtime_frame page) + j)).cached) else now page
