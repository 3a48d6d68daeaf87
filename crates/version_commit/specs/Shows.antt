-- What the format word and the version word are.
use Rattle.std.specs.Prelude.{ℕ, ◌⊎◌}
use Rattle.pmem_model.specs.Words.{Word}
use Rattle.pmem_layout.specs.declared.places.TheConstants.{FORMAT_AT}
use Rattle.sls_base.specs.declared.limits.TheConstants.{VERSION_AT}
use Rattle.version_commit.specs.OnWay.{IsOnWay}
use Rattle.version_commit.specs.declared.committer.Committer.{Committer}

-- `was` is durable as format word, and it reads `reads`
abbrev pub FormatShows : Committer → (ℕ → Word) → ℕ → ℕ → Type 0
FormatShows c f was reads = IsOnWay c.format (f FORMAT_AT) was reads

-- `v` is the committed version, and the version word reads `w`: v too, or the version that is being committed
abbrev pub VersionShows : Committer → (ℕ → Word) → ℕ → ℕ → Type 0
VersionShows c f v w = IsOnWay c.version (f VERSION_AT) v w

-- The commit of `w` over `v` hasn't begun, is under way, or happened.
abbrev pub IsBetween : Committer → (ℕ → Word) → ℕ → ℕ → Type 0
IsBetween c f v w = VersionShows c f v v ⊎ (VersionShows c f v w ⊎ VersionShows c f w w)
