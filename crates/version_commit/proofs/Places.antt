-- Words and lines that an operation names, and whose they are.
use Rattle.std.proofs.Common.{◌≡◌, ℕ, ◌%◌, ◌≤◌, arith, refl}
use Rattle.pmem_model.specs.PlaceLaws.{inside_word, inside_line, table_home, home_of, all_home_kept}
use Rattle.sls_base.specs.declared.limits.TheConstants.{VERSION_AT}
use Rattle.pmem_layout.specs.declared.places.TheConstants.{FORMAT_AT}
use Rattle.pmem_layout.specs.Places.{line_at}
use Rattle.pmem_layout.specs.Owners.{owner, Format, Version}

pub line_begins : (at : ℕ) → line_at at % 8 ≡ 0
line_begins at = omega arith

pub line_least : (at : ℕ) → line_at at ≤ at
line_least at = omega arith

pub owner_format : owner FORMAT_AT ≡ Format
unfolding owner
owner_format = refl

pub owner_version : owner VERSION_AT ≡ Version
unfolding owner
owner_version = refl

pub ruleset places = (inside_word, inside_line, table_home, home_of, all_home_kept, line_begins, line_least)
