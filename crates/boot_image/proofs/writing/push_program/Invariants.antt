use Rattle.std.proofs.Common.{◌≡◌, ◌++◌, length, take}
use Rattle.std.specs.List.{flat_map}
use Rattle.boot_image.specs.Spelling.{word, region_bytes}
use Rattle.boot_image.proofs.writing.push_program.Given as goal

-- the program's numbers and the regions so far
abbrev pub invariant-loop-spec : goal.invariant-loop-spec
invariant-loop-spec l =
    l.out.items ≡ l.fn.out.items ++ (word l.program.entry ++ word l.program.threads ++ word l.program.channels ++ word (length l.program.regions.items)
    ++ flat_map region_bytes (take l.spec-index l.program.regions.items))
