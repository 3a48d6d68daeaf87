use Rattle.std.proofs.Common.{◌≡◌, ℕ}
use Rattle.arrayvec.specs.ArrayVec.{array_vec_len}
use Rattle.plain_model.specs.Objects.{regions_of}
use Rattle.kobj_table.specs.Objects.{object_at}
use Rattle.call_readings.specs.Content.{Reads}
use Rattle.page_bytes.proofs.Loads.{AreFirst}
use Rattle.page_bytes.proofs.load.bytes_at.Given as goal

abbrev pub invariant-loop-k : goal.invariant-loop-k
invariant-loop-k l = record {
  size : array_vec_len l.bytes ≡ l.k;
  first : (content : ℕ → ℕ → ℕ) → Reads content l.nvm
      → AreFirst (object_at content l.objects) (regions_of (object_at content l.objects l.space)) l.right l.at l.k l.bytes.items;
}
