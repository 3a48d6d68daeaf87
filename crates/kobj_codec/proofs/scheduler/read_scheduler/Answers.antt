use Rattle.std.proofs.Common.{◌≡◌, ◌∙◌, ℕ, List, arith, ap, sym, refl, None, slice_index}
use Rattle.std.specs.Prelude.{slice_index_or}
use Rattle.std.proofs.lemmas.List.{length-set}
use Rattle.sls_base.specs.declared.limits.TheConstants.{CORES}
use Rattle.kobj_codec.proofs.Told.{core_told, queue_told}
use Rattle.kobj_codec.proofs.ReadSoFar.{below_one_more, below_all}
use Rattle.kobj_codec.proofs.Parts.{same_scheduler}
use Rattle.kobj_codec.proofs.Heads.{scheduler_head}
use Rattle.kobj_codec.proofs.scheduler.read_scheduler.Goals as goal

pub loop-core-init : goal.loop-core-init
loop-core-init c = record { size = refl; read = record { same = λ xs w k lt. absurd (omega arith) } }

pub loop-core-preserved : goal.loop-core-preserved
loop-core-preserved c = record {
  size = length-set c.loop-core.running c.loop-core.core c.occupant_of.result ∙ c.loop-core.invariant.size;
  read = below_one_more c.occupant_of.result c.loop-core.invariant.read (omega (arith, c.loop-core.invariant.size, c.loop-core-test.true))
      (λ running w.
      let core = c.loop-core.core in
      c.occupant_of.ensures (slice_index_or w.0.running core None) (w.1.occupants core) (core_told w.0 w.2 core c.loop-core-test.true)
      ∙ ap (λ xs. slice_index_or xs core None) w.3);
}

pub returns : goal.returns
returns c = λ s i r.
    let all : c.loop-core.core ≡ CORES = omega (arith, c.loop-core-test.false, c.loop-core.auto.core-end) in
    let v = c.loop-core.invariant in
    let running = below_all v.read (v.size ∙ sym all) s.running (s, i, r, refl) (i.size ∙ sym all) in
    let byte = ap (λ (bs : List ℕ). slice_index bs 1) c.to_le_bytes.ensures in
    let queue = c.read_list.ensures s.queue.items i.queue (queue_told s r).word in
    same_scheduler (byte ∙ scheduler_head s i r) running queue
