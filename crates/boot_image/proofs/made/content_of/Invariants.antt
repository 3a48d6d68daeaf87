use Rattle.std.proofs.Common.{◌≡◌, take}
use Rattle.std.specs.List.{flat_map}
use Rattle.boot_image.specs.Spelling.{word}
use Rattle.boot_image.proofs.made.content_of.Given as goal

-- the bytes of the words so far
abbrev pub invariant-loop-number : goal.invariant-loop-number
invariant-loop-number l = l.content.items ≡ flat_map word (take l.number-index l.words)
