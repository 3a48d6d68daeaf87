use Rattle.std.proofs.Common.{◌≡◌, All, length, take}
use Rattle.plain_state.specs.Memory as plain
use Rattle.plain_state.specs.InPages.{StoresInPage}
use Rattle.plain_state.proofs.memory.stores_at.Given as goal

abbrev pub invariant-loop-place : goal.invariant-loop-place
invariant-loop-place l = record {
  stores : l.stores.items ≡ plain.stores_at (take (length l.yielded) l.places) (take (length l.yielded) l.values);
  in_pages : All StoresInPage l.stores.items;
}
