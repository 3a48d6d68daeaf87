-- What an event does to the words of one owner, and to those of all others.
use Rattle.std.specs.Prelude.{◌≡◌, ◌≢◌, ℕ, ◌==◌, Bool, true, false, if◌then◌else◌}
use Rattle.pmem_model.specs.Words.{Word}
use Rattle.pmem_model.specs.Events.{WordCalm, WordFenced, Left}
use Rattle.pmem_layout.specs.Owners.{Owner, Format, Fixed, Version, Numbers, Objects, Pages, owner}

-- Plain words are the same at an owner's places.
pub record SameIn (o : Owner) (a b : ℕ → ℕ) : Type 0 where
  pub at : (i : ℕ) → owner i ≡ o → b i ≡ a i

-- Nothing was stored in an owner's words.
pub record CalmIn (o : Owner) (f g : ℕ → Word) : Type 0 where
  pub at : (i : ℕ) → owner i ≡ o → WordCalm (f i) (g i)

-- Besides, what was in flight for this core is durable.
pub record FencedIn (o : Owner) (core : ℕ) (f g : ℕ → Word) : Type 0 where
  pub at : (i : ℕ) → owner i ≡ o → WordFenced core (f i) (g i)

-- Nothing was stored but in an owner's words.
pub record StoresOnlyIn (o : Owner) (f g : ℕ → Word) : Type 0 where
  pub at : (i : ℕ) → owner i ≢ o → WordCalm (f i) (g i)

-- A cut may leave these words of an owner.
pub record LeftIn (o : Owner) (f : ℕ → Word) (left : ℕ → ℕ) : Type 0 where
  pub at : (i : ℕ) → owner i ≡ o → Left (f i) (left i)

-- Owners are told apart by computing.
abbrev pub is_other : Owner → Owner → Bool
is_other Format Format = false
is_other Fixed Fixed = false
is_other Version Version = false
is_other Numbers Numbers = false
is_other Objects Objects = false
is_other Pages Pages = false
is_other _ _ = true

-- plain words where one is another
abbrev pub with_word : (ℕ → ℕ) → ℕ → ℕ → ℕ → ℕ
with_word words at value i = if i == at then value else words i
