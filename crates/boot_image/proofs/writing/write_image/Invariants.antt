use Rattle.std.proofs.Common.{◌≡◌, ◌++◌, length, take}
use Rattle.std.specs.List.{flat_map}
use Rattle.boot_image.specs.declared.format.TheConstants.{MAGIC, FORMAT}
use Rattle.boot_image.specs.Spelling.{word, program_bytes}
use Rattle.boot_image.proofs.writing.write_image.Given as goal

-- the header and the programs so far
abbrev pub invariant-loop-program : goal.invariant-loop-program
invariant-loop-program l =
    l.out.items ≡ word MAGIC ++ word FORMAT ++ word (length l.image.programs.items)
    ++ flat_map program_bytes (take l.program-index l.image.programs.items)
