use Rattle.std.proofs.Common.{◌≡◌, drop}
use Rattle.plain_state.specs.Memory.{with_stores}
use Rattle.plain_state.specs.Slow.{objects_of}
use Rattle.plain_state.proofs.store.store_all.Given as goal

abbrev pub invariant-loop-byte : goal.invariant-loop-byte
invariant-loop-byte l = with_stores (objects_of l.objects) (drop l.byte-index l.stores) ≡ with_stores (objects_of l.initial.objects) l.stores
