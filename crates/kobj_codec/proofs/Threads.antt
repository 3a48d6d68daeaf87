-- Threads.
use Rattle.std.proofs.Common.{◌≡◌, ℕ, zero, suc, ◌<◌, ◌∙◌, sym, ap, arith, List, get_or, replicate, slice_index}
use Rattle.sls_base.specs.declared.thread.Thread.{Thread}
use Rattle.kobj_codec.specs.declared.obj.Obj.TheVariants as objs
use Rattle.kobj_codec.specs.Objects.{IsThread}
use Rattle.kobj_codec.specs.Records.{IsRecord}

-- the registers of a thread in range that the words are the record of
abbrev pub RegistersOf : List ℕ → List ℕ → Type 0
RegistersOf words x = (t : Thread) × IsThread t × IsRecord (slice_index words) (objs.Thread t) × (t.x ≡ x)

-- register 0 is 0
pub first_register : (words : List ℕ) (k : ℕ) → k < 1 → (x : List ℕ) → RegistersOf words x → get_or (replicate 32 0) k 0 ≡ get_or x k 0
first_register words zero lt x w = sym w.1.first ∙ ap (λ xs. get_or xs 0 0) w.3
first_register words (suc k) lt x w = absurd (omega arith)
