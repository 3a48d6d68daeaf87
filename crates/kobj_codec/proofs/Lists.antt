-- Lists of threads.
use Rattle.std.proofs.Common.{◌≡◌, ◌≢◌, ℕ, ◌+◌, ◌<◌, ◌≤◌, ◌∙◌, sym, subst, min, arith, List, length, slice_index}
use Rattle.std.proofs.lemmas.List.{get_or_default}
use Rattle.sls_base.specs.declared.limits.TheConstants.{OBJECTS}
use Rattle.kobj_codec.specs.Objects.{IsList}
use Rattle.kobj_codec.proofs.Told.{IsListed}

-- the numbers before a place are those of objects, each once
pub record AreListed (ids : List ℕ) (n : ℕ) : Type 0 where
  pub below : (k : ℕ) → k < n → slice_index ids k < OBJECTS
  pub distinct : (a b : ℕ) → a < b → b < n → slice_index ids a ≢ slice_index ids b

-- the list in range that the words from a word on are
abbrev pub ListOf : List ℕ → ℕ → List ℕ → Type 0
ListOf words first ids = IsList ids × IsListed (slice_index words) first ids

pub list_length : (words : List ℕ) (first : ℕ) (ids : List ℕ) → ListOf words first ids → (count : ℕ) → count ≡ min (slice_index words first) OBJECTS → count ≡ length ids
list_length words first ids w count is =
    let place : 0 + first ≡ first = omega arith in
    let len : slice_index words first ≡ length ids = rw place at (w.1.word 0 (omega arith)) in
    omega (arith, is, len, w.0.most)

pub list_in_range : (ids : List ℕ) (n : ℕ) → length ids ≤ OBJECTS → n ≡ length ids → AreListed ids n → IsList ids
list_in_range ids n most all h = record {
  most = most;
  below = λ k d lt. subst (λ (id : ℕ). id < OBJECTS) (get_or_default ids k 0 d lt) (h.below k (omega arith));
  distinct = λ a b d less lt same.
      h.distinct a b less (omega arith) (get_or_default ids a 0 d (omega arith) ∙ same ∙ sym (get_or_default ids b 0 d lt));
}
