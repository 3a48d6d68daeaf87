use Rattle.std.proofs.Common.{◌==◌, ◌∙◌, sym, filter, rules, tests}
use Rattle.std.proofs.lemmas.List.{length-map}
use Rattle.std.proofs.lemmas.Iterator.{YieldsList-from_slice}
use Rattle.std.proofs.lemmas.Iterator.Consumers.{YieldsList-from_filter, count_from_yields_List}
use Rattle.plain_state.specs.declared.effect.Output.{Output}
use Rattle.plain_state.specs.Slow.{state_of}
use Rattle.plain_state.proofs.state.State.put_count.Goals as goal

pub returns : goal.returns
unfolding state_of
returns c =
    count_from_yields_List _ c.count.result c.count.ensures.ran
    (YieldsList-from_filter _ (λ (output : Output). output.channel == c.args.channel) (YieldsList-from_slice c.args.self.now.out.items cc) c.filter.ensures.closure (λ x b q k. search (rules, tests)))
    ∙ sym (length-map (filter (λ (output : Output). output.channel == c.args.channel) c.args.self.now.out.items) (λ (output : Output). output.bytes.items))
