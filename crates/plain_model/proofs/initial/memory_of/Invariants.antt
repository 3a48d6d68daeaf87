use Rattle.std.proofs.Common.{◌≡◌, map}
use Rattle.std.specs.List.{range_with_len}
use Rattle.plain_model.specs.Initial as plain
use Rattle.plain_state.specs.Slow.{page_of}
use Rattle.plain_model.proofs.initial.memory_of.Given as goal

abbrev pub invariant-loop-j : goal.invariant-loop-j
invariant-loop-j l = map page_of l.pages.items ≡ map (plain.page_of_content l.spec.content.items l.k) (range_with_len 0 l.j)
