use Rattle.std.proofs.Common.{◌≡◌, map}
use Rattle.std.specs.List.{range_with_len}
use Rattle.first_state.specs.Filled.{region_page}
use Rattle.first_state.proofs.memories.memory_of.Given as goal

abbrev pub invariant-loop-j : goal.invariant-loop-j
invariant-loop-j l = l.memory.pages.items ≡ map (region_page l.spec l.k) (range_with_len 0 l.j)
