-- What events do to the words of owners.
use Rattle.std.proofs.Common.{◌≡◌, ◌≢◌, ℕ, ◌+◌, ◌<◌, ◌∙◌, sym, true, false, subst, refl, ⊎_elim}
use Rattle.std.proofs.lemmas.Bool.{ne_eqb, cases_Bool}
use Rattle.pmem_model.specs.Words.{Word, is_within}
use Rattle.pmem_model.specs.Events.{IsBurst, IsCalm, IsFenced, calm_same, calm_then, left_calm, inside_of}
use Rattle.pmem_layout.specs.Owners.{Owner, Format, Fixed, Version, Numbers, Objects, Pages, owner}
use Rattle.pmem_layout.specs.Rooms.{SameIn, CalmIn, FencedIn, StoresOnlyIn, LeftIn, is_other, with_word}

not_itself : (o : Owner) → is_other o o ≡ false
not_itself Format = refl
not_itself Fixed = refl
not_itself Version = refl
not_itself Numbers = refl
not_itself Objects = refl
not_itself Pages = refl

pub other_owner : {p o : Owner} → is_other p o ≡ true → p ≢ o
other_owner {p} {o} e same =
    let z : is_other p o ≡ false = subst (λ (q : Owner). is_other p q ≡ false) same (not_itself p) in cc

-- What one owner's step does is calm at each other owner's words.
pub others_spared : {o p : Owner} {f g : ℕ → Word} → StoresOnlyIn o f g → is_other p o ≡ true → CalmIn p f g
others_spared s e = record { at = λ i h. s.at i (λ q. other_owner e (sym h ∙ q)) }

-- A burst stores only where its words stand.
pub burst_stores : {o : Owner} {f g : ℕ → Word} {at n : ℕ} {value : ℕ → ℕ} → IsBurst f g at n value
    → ((j : ℕ) → j < n → owner (at + j) ≡ o) → StoresOnlyIn o f g
burst_stores {o} {f} {g} {at} {n} {value} burst own = record {
  at = λ i other.
      ⊎_elim
      (λ (yes : is_within at n i ≡ true).
      let k = inside_of at n i yes in absurd (other (subst (λ (p : ℕ). owner p ≡ o) k.2 (own k.0 k.1))))
      (λ (off : is_within at n i ≡ false). calm_same (f i) (g i) (rw off at (burst.words i)))
      (cases_Bool (is_within at n i));
}

-- Calm events store nowhere, and two steps store where both do.
pub calm_stores : {o : Owner} {f g : ℕ → Word} → IsCalm f g → StoresOnlyIn o f g
calm_stores calm = record { at = λ i other. calm.at i }

pub stores_then : {o : Owner} {f g h : ℕ → Word} → StoresOnlyIn o f g → StoresOnlyIn o g h → StoresOnlyIn o f h
stores_then a b = record { at = λ i other. calm_then _ _ _ (a.at i other) (b.at i other) }

-- Calm events and fences are so at each owner's words.
pub calm_in : {o : Owner} {f g : ℕ → Word} → IsCalm f g → CalmIn o f g
calm_in calm = record { at = λ i own. calm.at i }

pub fenced_in : {o : Owner} {core : ℕ} {f g : ℕ → Word} → IsFenced core f g → FencedIn o core f g
fenced_in fenced = record { at = λ i own. fenced.at i }

pub fence_is_calm : {o : Owner} {core : ℕ} {f g : ℕ → Word} → FencedIn o core f g → CalmIn o f g
fence_is_calm fenced = record { at = λ i own. (fenced.at i own).calm }

-- What a cut may leave after calm events it might leave before.
pub left_before : {o : Owner} {f g : ℕ → Word} {left : ℕ → ℕ} → CalmIn o f g → LeftIn o g left → LeftIn o f left
left_before calm after = record { at = λ i own. left_calm _ _ _ (calm.at i own) (after.at i own) }

-- The same of plain words: where one word is another, the owners that it isn't of see nothing.
pub word_spared : {o p : Owner} (words : ℕ → ℕ) (at value : ℕ) → owner at ≡ o → is_other p o ≡ true
    → SameIn p words (with_word words at value)
word_spared {o} {p} words at value own e = record {
  at = λ i h.
      let ne : i ≢ at = λ (q : i ≡ at). other_owner e (sym h ∙ subst (λ (k : ℕ). owner k ≡ o) (sym q) own) in
      let off = ne_eqb i at ne in
      rw off refl;
}
