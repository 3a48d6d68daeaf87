-- Whose the objects' words are, and what events do to those of an owner.
use Rattle.std.proofs.Common.{◌≡◌, ℕ, ◌+◌, ◌<◌, true, false, subst, ⊎_elim, arith}
use Rattle.std.proofs.lemmas.Bool.{cases_Bool}
use Rattle.std.proofs.lemmas.Bool.Decides.{nat_tests}
use Rattle.sls_base.specs.declared.limits.TheConstants.{OBJECTS}
use Rattle.pmem_model.specs.Words.{Word, is_within}
use Rattle.pmem_model.specs.Events.{IsBurst, IsCalm, IsFenced, calm_same, inside_of}
use Rattle.pmem_layout.specs.declared.places.TheConstants.{SLOTS, SLOT_WORDS}
use Rattle.pmem_layout.specs.Places.{object_tag_at, object_slot_at}
use Rattle.pmem_layout.specs.Owners.{Owner, Objects, owner}
use Rattle.pmem_layout.specs.Rooms.{CalmIn, FencedIn, StoresOnlyIn}

pub owner_object_tag : (id slot : ℕ) → id < OBJECTS → slot < SLOTS → owner (object_tag_at id slot) ≡ Objects
unfolding owner
owner_object_tag id slot lt s = grind (arith, nat_tests)

pub owner_object_slot : (id slot j : ℕ) → id < OBJECTS → slot < SLOTS → j < SLOT_WORDS
    → owner (object_slot_at id slot + j) ≡ Objects
unfolding owner
owner_object_slot id slot j lt s l = grind (arith, nat_tests)

pub burst_stores : {o : Owner} {f g : ℕ → Word} {at n : ℕ} {value : ℕ → ℕ} → IsBurst f g at n value
    → ((j : ℕ) → j < n → owner (at + j) ≡ o) → StoresOnlyIn o f g
burst_stores {o} {f} {g} {at} {n} {value} burst own = record {
  at = λ i other.
      ⊎_elim
      (λ (yes : is_within at n i ≡ true).
      let k = inside_of at n i yes in absurd (other (subst (λ (p : ℕ). owner p ≡ o) k.2 (own k.0 k.1))))
      (λ (off : is_within at n i ≡ false). calm_same (f i) (g i) (rw off at (burst.words i)))
      (cases_Bool (is_within at n i));
}

pub calm_stores : {o : Owner} {f g : ℕ → Word} → IsCalm f g → StoresOnlyIn o f g
calm_stores calm = record { at = λ i other. calm.at i }

pub calm_in : {o : Owner} {f g : ℕ → Word} → IsCalm f g → CalmIn o f g
calm_in calm = record { at = λ i own. calm.at i }

pub fenced_in : {o : Owner} {core : ℕ} {f g : ℕ → Word} → IsFenced core f g → FencedIn o core f g
fenced_in fenced = record { at = λ i own. fenced.at i }

pub fence_is_calm : {o : Owner} {core : ℕ} {f g : ℕ → Word} → FencedIn o core f g → CalmIn o f g
fence_is_calm fenced = record { at = λ i own. (fenced.at i own).calm }
