use Rattle.std.proofs.Common.{rules}
use Rattle.std.proofs.lemmas.List.{length-map}
use Rattle.plain_state.specs.declared.state.Waiting.{Waiting}
use Rattle.plain_state.specs.Slow.{state_of}
use Rattle.plain_state.proofs.state.State.has_no_input.Goals as goal

pub returns : goal.returns
unfolding state_of
returns c = rw (length-map c.args.self.now.inputs.items (λ (input : Waiting). input.bytes.items)) (search rules)
