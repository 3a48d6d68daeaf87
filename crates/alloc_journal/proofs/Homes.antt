-- Words and lines that an operation names are there, and all stays at home.
use Rattle.std.proofs.Common.{◌≡◌, ℕ, ◌%◌, ◌≤◌, arith}
use Rattle.pmem_model.specs.PlaceLaws.{inside_word, inside_line, home_of, all_home_kept}
use Rattle.pmem_layout.specs.Places.{line_at}

pub line_begins : (at : ℕ) → line_at at % 8 ≡ 0
line_begins at = omega arith

pub line_least : (at : ℕ) → line_at at ≤ at
line_least at = omega arith

pub ruleset places = (inside_word, inside_line, home_of, all_home_kept, line_begins, line_least)
