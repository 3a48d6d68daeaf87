use Rattle.std.proofs.Common.{◌≡◌, ◌==◌, ◌/◌, take}
use Rattle.std.specs.Prelude.{filter, not}
use Rattle.sls_base.specs.declared.limits.TheConstants.{PAGE_BYTES}
use Rattle.plain_state.specs.Calls as calls
use Rattle.plain_state.proofs.object_effects.left_by_unmap.Given as goal

abbrev pub invariant-loop-region : goal.invariant-loop-region
invariant-loop-region l = l.left.items ≡ filter (λ region. not (region.base == calls.arg l.thread 1 / PAGE_BYTES)) (take l.region-index l.regions)
