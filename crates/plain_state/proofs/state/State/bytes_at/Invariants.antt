use Rattle.std.proofs.Common.{◌≡◌, map, take}
use Rattle.plain_state.specs.Memory.{byte_at}
use Rattle.plain_state.specs.Slow.{state_of}
use Rattle.plain_state.proofs.state.State.bytes_at.Given as goal

abbrev pub invariant-loop-place : goal.invariant-loop-place
invariant-loop-place l = l.bytes.items ≡ map (byte_at (state_of l.self).objects) (take l.place-index l.places)
