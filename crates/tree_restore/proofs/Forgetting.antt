-- Pages that are looked at one after another.
use Rattle.std.proofs.Common.{◌≡◌, ◌≢◌, ◌∙◌, ◌+◌, ◌<◌, ℕ, false, true, Option, None, Some, arith, inl, inr, nat_lt, refl, sym}
use Rattle.std.specs.Prelude.{is_some, ◌==◌}
use Rattle.std.proofs.lemmas.Bool.{cases_eq}
use Rattle.std.proofs.lemmas.Bool.Decides.{nat_tests}
use Rattle.pmem_model.specs.Words.{Word}
use Rattle.page_store.specs.Back.{content_or, filled}
use Rattle.page_store.specs.Shows.{with_page}
use Rattle.tree_restore.specs.Contents.{first_of}

content_whole : (told : Option (ℕ → ℕ)) (words : ℕ → ℕ) → is_some told ≡ true → Some (content_or told words) ≡ told
content_whole None words there = absurd (cc)
content_whole (Some content) words there = refl

-- a page that has content at the version runs with it
pub filled_whole : (saved : ℕ → Option (ℕ → ℕ)) (f : ℕ → Word) (page : ℕ) → is_some (saved page) ≡ true → filled saved f page ≡ saved page
filled_whole saved f page there = content_whole (saved page) _ there

pub no_content : (told : Option (ℕ → ℕ)) → is_some told ≡ false → told ≡ None
no_content None none = refl
no_content (Some content) none = absurd (cc)

-- one more page is as the first has it
first_at : (count : ℕ) (a b : ℕ → Option (ℕ → ℕ)) → first_of (count + 1) a b count ≡ a count
first_at count a b = let low : nat_lt count (count + 1) ≡ true = grind (arith, nat_tests) in rw low refl

first_behind : (count : ℕ) (a b : ℕ → Option (ℕ → ℕ)) → first_of count a b count ≡ b count
first_behind count a b = let high : nat_lt count count ≡ false = grind (arith, nat_tests) in rw high refl

first_other : (count page : ℕ) (a b : ℕ → Option (ℕ → ℕ)) → page ≢ count → first_of (count + 1) a b page ≡ first_of count a b page
first_other count page a b other = let same : nat_lt page (count + 1) ≡ nat_lt page count = grind (arith, nat_tests) in rw same refl

with_here : (pages : ℕ → Option (ℕ → ℕ)) (page : ℕ) (told : Option (ℕ → ℕ)) → with_page pages page told page ≡ told
with_here pages page told = let same : (page == page) ≡ true = grind (arith, nat_tests) in rw same refl

with_other : (pages : ℕ → Option (ℕ → ℕ)) (page i : ℕ) (told : Option (ℕ → ℕ)) → i ≢ page → with_page pages page told i ≡ pages i
with_other pages page i told other = let apart : (i == page) ≡ false = grind (arith, nat_tests) in rw apart refl

pub kept : (count page : ℕ) (a b : ℕ → Option (ℕ → ℕ)) → b count ≡ a count → first_of (count + 1) a b page ≡ first_of count a b page
kept count page a b same = elim (cases_eq page count) [
  | inl here ↦ rw here (first_at count a b ∙ sym same ∙ sym (first_behind count a b))
  | inr other ↦ first_other count page a b other
]

pub forgotten : (count page : ℕ) (a b : ℕ → Option (ℕ → ℕ)) → a count ≡ None → first_of (count + 1) a b page ≡ with_page (first_of count a b) count None page
forgotten count page a b none = elim (cases_eq page count) [
  | inl here ↦ rw here (first_at count a b ∙ none ∙ sym (with_here (first_of count a b) count None))
  | inr other ↦ first_other count page a b other ∙ sym (with_other (first_of count a b) count page None other)
]

pub forgotten_saved : (page i : ℕ) (a : ℕ → Option (ℕ → ℕ)) → a page ≡ None → a i ≡ with_page a page None i
forgotten_saved page i a none = elim (cases_eq i page) [
  | inl here ↦ rw here (none ∙ sym (with_here a page None))
  | inr other ↦ sym (with_other a page i None other)
]

-- all were looked at
pub whole : (count page : ℕ) (a b : ℕ → Option (ℕ → ℕ)) → page < count → a page ≡ first_of count a b page
whole count page a b below = let low : nat_lt page count ≡ true = grind (arith, nat_tests) in rw low refl
