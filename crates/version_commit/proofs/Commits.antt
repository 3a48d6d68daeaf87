-- A commit, of which it is known how far it may have come.
use Rattle.std.proofs.Common.{◌≡◌, ℕ, ◌⊎◌, inl, inr}
use Rattle.pmem_model.specs.Words.{Word}
use Rattle.pmem_model.specs.Events.{WordCalm, Left}
use Rattle.sls_base.specs.declared.limits.TheConstants.{VERSION_AT}
use Rattle.version_commit.specs.Shows.{IsBetween}
use Rattle.version_commit.specs.declared.committer.Committer.{Committer}
use Rattle.version_commit.proofs.OnWays.{way_calm, way_left}

pub between_calm : (c : Committer) (f g : ℕ → Word) (v w : ℕ) → WordCalm (f VERSION_AT) (g VERSION_AT) → IsBetween c f v w → IsBetween c g v w
between_calm c f g v w calm h = elim h [
  | inl before ↦ elim (way_calm c.version _ _ v v calm before) [ inl s ↦ inl s | inr s ↦ inl s ]
  | inr begun ↦ elim begun [
    | inl midway ↦ inr (way_calm c.version _ _ v w calm midway)
    | inr after ↦ elim (way_calm c.version _ _ w w calm after) [ inl s ↦ inr (inr s) | inr s ↦ inr (inr s) ]
  ]
]

pub between_left : (c : Committer) (f : ℕ → Word) (left : ℕ → ℕ) (v w : ℕ) → Left (f VERSION_AT) (left VERSION_AT) → IsBetween c f v w
    → (left VERSION_AT ≡ v) ⊎ (left VERSION_AT ≡ w)
between_left c f left v w l h = elim h [
  | inl before ↦ elim (way_left c.version _ v v _ l before) [ inl s ↦ inl s | inr s ↦ inl s ]
  | inr begun ↦ elim begun [
    | inl midway ↦ way_left c.version _ v w _ l midway
    | inr after ↦ elim (way_left c.version _ w w _ l after) [ inl s ↦ inr s | inr s ↦ inr s ]
  ]
]
