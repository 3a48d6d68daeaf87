use Rattle.std.proofs.Common.{◌≡◌}
use Rattle.std.specs.Prelude.{map}
use Rattle.std.specs.List.{range_with_len}
use Rattle.boot_image.specs.Values.{program_value}
use Rattle.boot_image.specs.Made.{made_program}
use Rattle.boot_image.proofs.made.generated.Given as goal

-- the programs so far
abbrev pub invariant-loop-program : goal.invariant-loop-program
invariant-loop-program l = map program_value l.programs.items ≡ map (made_program l.number) (range_with_len 0 l.program)
