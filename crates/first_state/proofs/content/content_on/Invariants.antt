use Rattle.std.proofs.Common.{◌≡◌, [], drop}
use Rattle.std.specs.Prelude.{slice_index_or}
use Rattle.std.specs.List.{flat_map}
use Rattle.first_state.specs.Content.{program_parts, content_on}
use Rattle.first_state.proofs.content.content_on.Given as goal

abbrev pub invariant-loop-program : goal.invariant-loop-program
invariant-loop-program l = slice_index_or (flat_map program_parts (drop l.program-index l.image.programs.items)) l.left [] ≡ content_on l.image l.page
