use Rattle.std.proofs.Common.{refl}
use Rattle.sls_base.specs.declared.rights.TheConstants.{WRITE}
use Rattle.plain_state.specs.Instructions.{seen_by}
use Rattle.plain_state.specs.Slow.{state_of}
use Rattle.plain_state.proofs.SlowPlaces.{get_places}
use Rattle.plain_state.proofs.state.State.reach_of_get.Goals as goal

pub returns : goal.returns
unfolding state_of
returns c = record {
  loads = refl;
  stores = get_places (seen_by (state_of c.args.self.now) c.args.thread.now) WRITE _ c.arg.result _ c.arg-2.result c.min.result _ c.first_input.result.now c.arg.ensures c.arg-2.ensures c.first_input.ensures.input c.min.ensures;
  channel = refl;
}
