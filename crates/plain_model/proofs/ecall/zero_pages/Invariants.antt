use Rattle.std.proofs.Common.{◌≡◌, map, take}
use Rattle.plain_state.specs.Objects.{new_page}
use Rattle.plain_state.specs.Slow.{page_of}
use Rattle.plain_model.proofs.ecall.zero_pages.Given as goal

abbrev pub invariant-loop-number : goal.invariant-loop-number
invariant-loop-number l = map page_of l.pages.items ≡ map new_page (take l.number-index l.numbers)
