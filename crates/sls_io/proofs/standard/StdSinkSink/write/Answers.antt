use Rattle.std.proofs.Common.{rules, length, le_refl}
use Rattle.std.proofs.lemmas.Slice.{between_to_end}
use Rattle.sls_io.proofs.SinkLemmas.{takes_more, takes_none}
use Rattle.sls_io.proofs.standard.StdSinkSink.write.Goals.{in-Ok, in-Err+else-ne}
use Rattle.sls_io.proofs.standard.StdSinkSink.write.Goals as goal

pub loop-preserved : goal.loop-preserved
loop-preserved g c =
    elim c.match-write.branch [
      | in-Ok w ↦
          let more = takes_more _ _ _ _ _ c.loop.invariant.1 w.in-Ok.count w.in-Ok.ensures.bytes in
          rw (w.self-is, w.rest-is, between_to_end c.loop.rest.now w.in-Ok.count (length c.loop.rest.now) (le_refl _)) (c.loop.invariant.0, more)
      | in-Err+else-ne w ↦ rw (w.self-is, w.rest-is) (search rules, takes_none _ _ _ _ _ c.loop.invariant.1 w.in-Err.ensures.bytes)
    ]
